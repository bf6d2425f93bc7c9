-- A piece that ends with LF is its words, spelled.
use Rattle.std.proofs.Common.{◌≡◌, ℕ, suc, ◌+◌, ◌<◌, ◌≤◌, Bool, false, List, [], ◌∷◌, ◌++◌, length, take, get_or, refl, sym, ap, ◌∙◌, arith, inl, inr}
use Rattle.std.specs.Prelude.{◌||◌}
use Rattle.std.specs.List.{list_any, position_or_len}
use Rattle.std.proofs.lemmas.Bool.{cases_Bool, eqb-true}
use Rattle.std.proofs.lemmas.List.{take_more, take_at, length-take}
use Rattle.std.proofs.lemmas.List.Sums.{passes_at_first}
use Rattle.std.proofs.lemmas.List.Splits.{join_with_byte-slice_split}
use Rattle.line_words.specs.Front.{is_lf}
use Rattle.spelled_lines.specs.Lines.{body_of, words_of, spelled}

cut : (bs : List ℕ) → position_or_len is_lf bs < length bs → position_or_len is_lf (take (position_or_len is_lf bs + 1) bs) ≡ position_or_len is_lf bs
cut [] lt = absurd (omega (arith, lt))
cut (b ∷ bs) lt =
    elim (cases_Bool (is_lf b)) [
      | inl t ↦ let n : position_or_len is_lf (b ∷ bs) ≡ 0 = rw t refl in let m : position_or_len is_lf (b ∷ []) ≡ 0 = rw t refl in rw n m
      | inr f ↦
          let k = position_or_len is_lf bs in
          let n : position_or_len is_lf (b ∷ bs) ≡ suc (position_or_len is_lf bs) = rw f (omega arith) in
          let next : suc (position_or_len is_lf bs) + 1 ≡ suc (position_or_len is_lf bs + 1) = omega arith in
          let m : position_or_len is_lf (b ∷ take (k + 1) bs) ≡ suc (position_or_len is_lf (take (k + 1) bs)) = rw f (omega arith) in
          rw (n, next) (m ∙ ap (λ (j : ℕ). suc j) (cut bs (omega (arith, lt, n))))
    ]

-- a piece that ends with LF is what stands before it, and LF
pub piece_ended : (bs : List ℕ) → position_or_len is_lf bs < length bs → take (position_or_len is_lf bs + 1) bs ≡ body_of (take (position_or_len is_lf bs + 1) bs) ++ 10 ∷ []
piece_ended bs lt =
    let n = position_or_len is_lf bs in
    let piece = take (n + 1) bs in
    let body = take n bs in
    let lf : get_or bs n 0 ≡ 10 = eqb-true (get_or bs n 0) 10 (passes_at_first is_lf bs 0 lt) in
    let ended : piece ≡ body ++ 10 ∷ [] = take_more bs n 0 lt ∙ ap (λ (b : ℕ). take n bs ++ b ∷ []) lf in
    let len : length body ≡ n = omega (arith, length-take n bs, lt) in
    let front : body_of piece ≡ body = ap (λ (k : ℕ). take k piece) (cut bs lt) ∙ ap (take n) ended ∙ take_at body (10 ∷ []) n len in
    ended ∙ ap (λ (t : List ℕ). t ++ 10 ∷ []) (sym front)

-- so it is its words, spelled
pub ended_spelled : (piece : List ℕ) → piece ≡ body_of piece ++ 10 ∷ [] → piece ≡ spelled (words_of piece)
ended_spelled piece ended = ended ∙ ap (λ (t : List ℕ). t ++ 10 ∷ []) (sym (join_with_byte-slice_split 32 (body_of piece)))

-- no byte is an LF where none is found
pub no_lf : (bs : List ℕ) → length bs ≤ position_or_len is_lf bs → list_any is_lf bs ≡ false
no_lf [] h = refl
no_lf (b ∷ bs) h =
    elim (cases_Bool (is_lf b)) [
      | inl t ↦ absurd (let n : position_or_len is_lf (b ∷ bs) ≡ 0 = rw t refl in omega (arith, n, h))
      | inr f ↦
          let n : position_or_len is_lf (b ∷ bs) ≡ suc (position_or_len is_lf bs) = rw f (omega arith) in
          ap (λ (x : Bool). x || list_any is_lf bs) f ∙ no_lf bs (omega (arith, n, h))
    ]
