use Rattle.std.proofs.Common.{◌≡◌, ◌+◌, [], Some, Option, Result, Err, refl, sym, ap, ◌∙◌, arith, length, true}
use Rattle.std.specs.List.{list_all}
use Rattle.line_words.proofs.Ascii.{IsAscii-content}
use Rattle.std.proofs.lemmas.List.{nil_from_length}
use Rattle.std.proofs.lemmas.Bool.{eqb-true}
use Rattle.line_words.specs.Text.{lines, content, words, is_content_byte}
use Rattle.line_words.specs.Front.{line_of}
use Rattle.line_words.specs.declared.lines.Line.{Line}
use Rattle.line_words.specs.declared.refusals.Refusal1.{Refusal1}
use Rattle.line_words.proofs.FirstLine.{lines-nil, fine_bytes}
use Rattle.line_words.proofs.Passing.{passes_one, gives_one, refuses_one, again_end, again_line, again_refused}
use Rattle.line_words.proofs.Spans.{words_from_no_word}
use Rattle.line_words.proofs.lines.Lines.next.Goals as goal

pub returns-in-Some-clause-again : goal.returns-in-Some-clause-again
returns-in-Some-clause-again c = λ refusal s.
    let first = c.first_line-first.ensures in
    let refused = refuses_one c.args.self.now _ (line_of c.loop-self.self-inside.rest.now) (lines c.first_line-first.result.rest.now) c.in-Some.why c.loop-self.invariant.passes first.lines
    (sym first.fault ∙ c.in-Some.is) in
    let same = again_refused c.args.self.now _ refusal _ s refused in
    let answer : Refusal1 → Option (Result Line Refusal1) = λ r. Some (Err r) in
    (ap answer same.0, same.1)

pub returns-then-first-clause-line : goal.returns-then-first-clause-line
returns-then-first-clause-line c =
    let first = c.first_line-first.ensures in
    gives_one c.args.self.now _ (line_of c.loop-self.self-inside.rest.now) (lines c.first_line-first.result.rest.now) _ c.loop-self.invariant.passes first.lines (sym first.fault ∙ c.in_default.is)
    first.content refl (sym first.word ∙ c.if-first.true)

pub returns-then-first-clause-again : goal.returns-then-first-clause-again
returns-then-first-clause-again c = λ refusal s. absurd (again_line c.args.self.now _ refusal _ s (returns-then-first-clause-line c))

pub loop-self-preserved : goal.loop-self-preserved
loop-self-preserved c =
    let first = c.first_line-first.ensures in
    let line = line_of c.loop-self.self-inside.rest.now in
    let no_word : words line ≡ [] = words_from_no_word (content line) 0 (sym first.word ∙ c.if-first.false) in
    record {
      passes =
          passes_one c.args.self.now _ line (lines c.first_line-first.result.rest.now) (c.loop-self.self-inside.number + 1) c.loop-self.invariant.passes first.lines refl
          (sym first.fault ∙ c.in_default.is) no_word;
      small = omega (arith, first.shorter, c.loop-self.invariant.small);
    }

pub returns-clause-end : goal.returns-clause-end
returns-clause-end c =
    let rest = c.loop-self.self-inside.rest.now in
    let empty : rest ≡ [] = nil_from_length rest (eqb-true (length rest) 0 (sym c.is_empty.ensures ∙ c.loop-self-test.false)) in
    (c.loop-self.invariant.passes, ap lines empty ∙ lines-nil)

pub returns-clause-again : goal.returns-clause-again
returns-clause-again c = λ refusal s. absurd (again_end c.args.self.now _ refusal s (returns-clause-end c).0 (returns-clause-end c).1)

pub invariant_of-result : goal.invariant_of-result
invariant_of-result c =
    let first = c.first_line-first.ensures in
    let line = line_of c.loop-self.self-inside.rest.now in
    let plain = fine_bytes line (sym first.fault ∙ c.in_default.is) in
    let same : list_all is_content_byte c.first_line-first.result.content.now ≡ true = ap (list_all is_content_byte) first.content ∙ plain in
    (IsAscii-content c.first_line-first.result.content.now same, same)
