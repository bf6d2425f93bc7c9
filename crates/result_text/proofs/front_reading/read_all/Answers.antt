use Rattle.std.proofs.Common.{◌≡◌, ◌++◌, ◌∷◌, [], length, refl, sym, ap, ◌∙◌, arith}
use Rattle.std.proofs.lemmas.List.{nil_from_length}
use Rattle.std.proofs.lemmas.Bool.{eqb-true}
use Rattle.line_words.specs.Rules.{first_broken}
use Rattle.line_words.specs.Run.{run}
use Rattle.line_words.specs.declared.refusals.FileTag.TheVariants as files
use Rattle.line_words.proofs.Answering.{stopped}
use Rattle.spelled_lines.specs.Lines.{pieces}
use Rattle.spelled_lines.proofs.FirstPiece.{pieces-nil}
use Rattle.result_text.specs.Fronts.{front_of}
use Rattle.result_text.specs.FrontLines.{FrontStated, front_nothing, front_with_line, front_rules, front_in}
use Rattle.result_text.specs.FrontAnswers.{front_state}
use Rattle.result_text.proofs.FrontGoing.{front_line_tests, front_line_at, front_with_lines-push, length-front, front_goes_on, front_stops_here, front_ends}
use Rattle.result_text.proofs.front_reading.read_all.Goals as goal

pub returns-in-Err : goal.returns-in-Err
returns-in-Err c =
    let s = c.args.spec.now in
    let i = c.loop-rest.invariant in
    let piece = c.first_piece.result.0.now in
    stopped files.Front front_of (front_in s) _ c.loop-rest.number (first_broken (front_line_tests s (front_state c.loop-rest.seen) piece)) c.in-Err.stop c.at_line.result c.at_line.ensures
    c.in-Err.ensures
    (λ why e. front_stops_here s c.loop-rest.number i.0 (front_state c.loop-rest.seen) piece (pieces c.first_piece.result.1.now) (pieces c.loop-rest.rest.now) _ why i.1
    c.first_piece.ensures.pieces i.2 e)

pub loop-rest-preserved : goal.loop-rest-preserved
loop-rest-preserved c =
    let s = c.args.spec.now in
    let i = c.loop-rest.invariant in
    let piece = c.first_piece.result.0.now in
    let line = front_line_at c.loop-rest.number piece in
    let taken = c.in_default.ensures in (
      i.0 ++ line ∷ [],
      front_goes_on s c.loop-rest.number i.0 (front_state c.loop-rest.seen) piece (pieces c.first_piece.result.1.now) (pieces c.loop-rest.rest.now) _ i.1 c.first_piece.ensures.pieces i.2 taken.0,
      taken.1 ∙ ap (λ (x : FrontStated). front_with_line s x piece) i.2 ∙ sym (front_with_lines-push s (front_nothing s) i.0 line piece refl),
      ap (λ (x : FrontStated). length x.current.design) taken.1 ∙ length-front s (front_state c.loop-rest.seen) piece i.3,
      omega (arith, i.4, c.first_piece.ensures.shorter),
    )

pub returns : goal.returns
returns c =
    let s = c.args.spec.now in
    let i = c.loop-rest.invariant in
    let rest = c.loop-rest.rest.now in
    let empty : rest ≡ [] = nil_from_length rest (eqb-true (length rest) 0 (sym c.is_empty.ensures ∙ c.loop-rest-test.false)) in
    let none : pieces rest ≡ [] = ap pieces empty ∙ pieces-nil in
    front_ends s c.loop-rest.number i.0 (front_state c.loop-rest.seen) _ c.front_at_end.result (ap (run (front_rules s) c.loop-rest.number i.0) (sym none) ∙ i.1) i.2 c.front_at_end.ensures
