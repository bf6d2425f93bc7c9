use Rattle.std.proofs.Common.{◌≡◌, ◌++◌, ◌∷◌, [], true, false, Some, refl, sym, ◌∙◌}
use Rattle.line_words.specs.Text.{words_in}
use Rattle.line_words.specs.Rules.{Words, first_broken, texts}
use Rattle.line_words.specs.Run.{Reading}
use Rattle.line_words.specs.declared.refusals.FileTag.TheVariants.{Tgff}
use Rattle.line_words.specs.declared.refusals.Why.TheVariants.{Unclosed}
use Rattle.line_words.specs.declared.refusals.Stop.TheVariants.{Broken}
use Rattle.line_words.proofs.Answering.{stopped, refused_as}
use Rattle.line_words.proofs.Steps.{refused_alone}
use Rattle.tgff_reader.specs.Faults.{tests, is_open}
use Rattle.tgff_reader.specs.Facts.{TgffValue}
use Rattle.tgff_reader.specs.Taking.{reading_of}
use Rattle.tgff_reader.specs.Tgff.{later, at_end, graphs_stated, as_seen}
use Rattle.tgff_reader.proofs.Going.{none_done, line_done, line_refused, file_done, file_refused, open_end}
use Rattle.tgff_reader.proofs.Kept.{closed_file}
use Rattle.tgff_reader.proofs.reading.take_all.Goals as goal

pub lines-init : goal.lines-init
lines-init c = ([], none_done c.args.lines.now c.args.state.now c.requires)

pub returns-in-Err-clause-refused : goal.returns-in-Err-clause-refused
returns-in-Err-clause-refused c =
    let total : Reading = reading_of c.args.lines.now in
    let i = c.lines.invariant in
    refused_as {X = TgffValue} Tgff as_seen graphs_stated total c.in-Err.refusal c.of_file.result c.of_file.ensures
    (refused_alone later at_end i.0 c.lines.lines c.next.new.self c.in-Err.refusal total (rw c.in-Err.is at c.in-Some.ensures.line) i.1.so_far)

pub returns-in-Err-take_line-clause-refused : goal.returns-in-Err-take_line-clause-refused
returns-in-Err-take_line-clause-refused c =
    let total : Reading = reading_of c.args.lines.now in
    let i = c.lines.invariant in
    let line = c.in-Ok.line in
    let ws : Words = texts (words_in line.content) in
    let s = c.in-Err-take_line.ensures.stops in
    stopped {X = TgffValue} Tgff as_seen graphs_stated total line.number (first_broken (tests c.lines.state ws)) s.stop c.in-Err-take_line.fault s.fault_is s.stops
    (λ why e. line_refused i.0 c.lines.lines c.next.new.self c.lines.state total line ws why i.1 (rw c.in-Ok.is at c.in-Some.ensures.line) refl e)

pub lines-preserved : goal.lines-preserved
lines-preserved c =
    let total : Reading = reading_of c.args.lines.now in
    let i = c.lines.invariant in
    let line = c.in-Ok.line in
    let ws : Words = texts (words_in line.content) in
    let t = c.in-Ok-take_line.ensures.takes in (
      i.0 ++ record { number = line.number; words = ws } ∷ [],
      line_done i.0 c.lines.lines c.next.new.self c.lines.state c.take_line.new.state total line ws i.1 (rw c.in-Ok.is at c.in-Some.ensures.line) refl t.words t.takes.fine t.takes.state_is,
    )

pub returns-then-is_open-clause-refused : goal.returns-then-is_open-clause-refused
returns-then-is_open-clause-refused c =
    let total : Reading = reading_of c.args.lines.now in
    let i = c.lines.invariant in
    let e = c.in_default.ensures.end in
    let inside : is_open c.lines.state.current ≡ true = sym c.is_open.ensures ∙ c.if-is_open.true in
    stopped {X = TgffValue} Tgff as_seen graphs_stated total c.end_line.result (Some Unclosed) (Broken Unclosed) c.at_line.result c.at_line.ensures refl
    (λ why is. file_refused i.0 c.lines.lines c.next.new.self c.lines.state c.end_line.result total why i.1 e.0 e.1 c.end_line.ensures (open_end c.lines.state inside ∙ is))

pub returns-clause-takes : goal.returns-clause-takes
returns-clause-takes c =
    let total : Reading = reading_of c.args.lines.now in
    let i = c.lines.invariant in
    let e = c.in_default.ensures.end in
    let outside : is_open c.lines.state.current ≡ false = sym c.is_open.ensures ∙ c.if-is_open.false in
    record {
      statements = i.0;
      gives = file_done i.0 c.lines.lines c.next.new.self c.lines.state total i.1 e.0 e.1 outside;
      state_is = i.1.state_is;
      facts = closed_file c.lines.state i.1.stands outside;
    }
