use Rattle.std.proofs.Common.{◌≡◌, ◌++◌, ◌∷◌, [], length, sym, ap, ◌∙◌, arith}
use Rattle.std.proofs.lemmas.List.{nil_from_length}
use Rattle.std.proofs.lemmas.Bool.{eqb-true}
use Rattle.line_words.specs.Rules.{first_broken}
use Rattle.line_words.specs.Run.{run}
use Rattle.line_words.specs.declared.refusals.FileTag.TheVariants.{Front}
use Rattle.line_words.proofs.Answering.{stopped}
use Rattle.spelled_lines.specs.Lines.{pieces, words_of}
use Rattle.result_text.specs.Statements.{Stated, nothing, with_line, result_rules}
use Rattle.result_text.specs.Answers.{as_seen, entry_of, state_of}
use Rattle.spelled_lines.proofs.FirstPiece.{pieces-nil}
use Rattle.result_text.proofs.Going.{tests_of, line_at, with_lines-push, length-with_line, goes_on, stops_here, ends}
use Rattle.result_text.proofs.reading.read_all.Goals as goal

pub returns-in-Err : goal.returns-in-Err
returns-in-Err c =
    let s = c.args.spec.now in
    let i = c.loop-rest.invariant in
    let piece = c.first_piece.result.0.now in
    stopped Front as_seen (entry_of s) _ c.loop-rest.number (first_broken (tests_of s (state_of c.loop-rest.seen) piece)) c.in-Err.stop c.at_line.result c.at_line.ensures c.in-Err.ensures
    (λ why e. stops_here s c.loop-rest.number i.0 (state_of c.loop-rest.seen) piece (pieces c.first_piece.result.1.now) (pieces c.loop-rest.rest.now) _ why i.1 c.first_piece.ensures.pieces i.2 e)

pub loop-rest-preserved : goal.loop-rest-preserved
loop-rest-preserved c =
    let s = c.args.spec.now in
    let i = c.loop-rest.invariant in
    let piece = c.first_piece.result.0.now in
    let taken = c.in_default.ensures in (
      i.0 ++ line_at c.loop-rest.number piece ∷ [],
      goes_on s c.loop-rest.number i.0 (state_of c.loop-rest.seen) piece (pieces c.first_piece.result.1.now) (pieces c.loop-rest.rest.now) _ i.1 c.first_piece.ensures.pieces i.2 taken.0,
      taken.1 ∙ ap (λ (x : Stated). with_line s x (words_of piece)) i.2 ∙ sym (with_lines-push s (nothing s) i.0 (line_at c.loop-rest.number piece)),
      ap (λ (x : Stated). length x.design) taken.1 ∙ length-with_line s (state_of c.loop-rest.seen) (words_of piece) ∙ i.3,
      omega (arith, i.4, c.first_piece.ensures.shorter),
    )

pub returns : goal.returns
returns c =
    let s = c.args.spec.now in
    let i = c.loop-rest.invariant in
    let rest = c.loop-rest.rest.now in
    let empty : rest ≡ [] = nil_from_length rest (eqb-true (length rest) 0 (sym c.is_empty.ensures ∙ c.loop-rest-test.false)) in
    let none : pieces rest ≡ [] = ap pieces empty ∙ pieces-nil in
    ends s c.loop-rest.number i.0 (state_of c.loop-rest.seen) _ c.entry_of.result (ap (run (result_rules s) c.loop-rest.number i.0) (sym none) ∙ i.1) i.2 c.entry_of.ensures
