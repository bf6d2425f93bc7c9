use Rattle.std.proofs.Common.{sym, ap, ◌∙◌, ◌≡◌, subst, false}
use Rattle.std.specs.List.{list_any}
use Rattle.line_words.specs.Rules.{Words, said}
use Rattle.spelled_lines.specs.Lines.{words_of, is_empty}
use Rattle.result_text.specs.Fronts.{front_of}
use Rattle.front_model.specs.Fronts.{vectors_of}
use Rattle.front_model.specs.Judging.{judge_line}
use Rattle.proof_checker.specs.Takings.{given_of, GivesTaken}
use Rattle.proof_checker.proofs.Shapes.{without_lf, shaped}
use Rattle.proof_checker.proofs.lines.judge_piece.Goals as goal

pub returns-then-lacks_lf : goal.returns-then-lacks_lf
returns-then-lacks_lf c =
    without_lf c.args.spec.now (vectors_of (front_of c.args.front.now)) (given_of c.args.given.now c.args.covers) c.args.piece.now (sym c.lacks_lf.ensures ∙ c.if-lacks_lf.true)

pub returns : goal.returns
returns c =
    let s = c.args.spec.now in
    let us = vectors_of (front_of c.args.front.now) in
    let g = given_of c.args.given.now c.args.covers in
    let piece = c.args.piece.now in
    let one : said c.deref.result.now ≡ words_of piece = ap said c.deref.ensures.value ∙ c.in_ok-words.ensures in
    let two : said c.deref-2.result.now ≡ words_of piece = ap said c.deref-2.ensures.value ∙ c.in_ok-words.ensures in
    let full : list_any is_empty (words_of piece) ≡ false = sym (ap (list_any is_empty) one) ∙ (sym c.any_empty.ensures ∙ c.if-any_empty.false) in
    let is = shaped s us g piece (sym c.lacks_lf.ensures ∙ c.if-lacks_lf.false) full in
    rw is (subst (λ (ws : Words). GivesTaken g (judge_line s us g ws) c.judge_line.result) two c.judge_line.ensures)
