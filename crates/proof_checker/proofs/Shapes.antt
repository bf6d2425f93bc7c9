-- Lines that have their LF and single spaces, and those that haven't.
use Rattle.std.proofs.Common.{◌≡◌, ℕ, Bool, true, false, cond, List, Err, ap, ◌∙◌}
use Rattle.std.specs.Prelude.{◌||◌}
use Rattle.std.specs.List.{list_any}
use Rattle.pb_rules.specs.Frames.{Given}
use Rattle.spec_model.specs.Spec.{SpecValue}
use Rattle.spelled_lines.specs.Lines.{lacks_lf, words_of, is_empty}
use Rattle.front_model.specs.declared.refusals.ProofWhy.TheVariants.{BadStep}
use Rattle.front_model.specs.Judging.{judge_line, judge_piece}

pub without_lf : (s : SpecValue) (us : List (List ℕ)) (g : Given) (piece : List ℕ) → lacks_lf piece ≡ true → judge_piece s us g piece ≡ Err BadStep
without_lf s us g piece h = ap (λ (b : Bool). cond (b || list_any is_empty (words_of piece)) (Err BadStep) (judge_line s us g (words_of piece))) h

pub shaped : (s : SpecValue) (us : List (List ℕ)) (g : Given) (piece : List ℕ) → lacks_lf piece ≡ false → list_any is_empty (words_of piece) ≡ false
    → judge_piece s us g piece ≡ judge_line s us g (words_of piece)
shaped s us g piece h full =
    ap (λ (b : Bool). cond (b || list_any is_empty (words_of piece)) (Err BadStep) (judge_line s us g (words_of piece))) h
    ∙ ap (λ (b : Bool). cond b (Err BadStep) (judge_line s us g (words_of piece))) full
