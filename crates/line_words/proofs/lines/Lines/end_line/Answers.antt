use Rattle.std.proofs.Common.{◌≡◌, ℕ, [], List, length, sym, ap, ◌∙◌, arith}
use Rattle.std.proofs.lemmas.List.{nil_from_length}
use Rattle.std.proofs.lemmas.Bool.{eqb-true}
use Rattle.line_words.specs.Text.{lines}
use Rattle.line_words.proofs.FirstLine.{lines-nil}
use Rattle.line_words.proofs.lines.Lines.end_line.Goals as goal

pub returns : goal.returns
returns c =
    let rest = c.loop-rest.rest.now in
    let empty : rest ≡ [] = nil_from_length rest (eqb-true (length rest) 0 (sym c.is_empty.ensures ∙ c.loop-rest-test.false)) in
    let no_lines : length (lines rest) ≡ 0 = ap (λ (bs : List ℕ). length (lines bs)) empty ∙ ap length lines-nil in
    omega (arith, no_lines, c.loop-rest.invariant.count)
