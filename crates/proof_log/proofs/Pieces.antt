-- The pieces of a text join to it, and a piece with its LF is its words, spelled.
use Rattle.std.proofs.Common.{◌≡◌, ℕ, suc, ◌+◌, ◌≤◌, Bool, true, false, not, List, [], ◌∷◌, ◌++◌, length, refl, sym, ap, ◌∙◌, subst, arith, inl, inr}
use Rattle.std.specs.List.{concat, list_any, position_or_len, before_first, join_with_byte, onto_first, AllByRecursion}
use Rattle.std.proofs.lemmas.Bool.{cases_Bool, eqb-true}
use Rattle.std.proofs.lemmas.List.Splits.{join_with_byte-slice_split}
use Rattle.line_words.specs.Front.{is_lf}
use Rattle.spelled_lines.specs.Lines.{pieces, lacks_lf, words_of}
use Rattle.spelled_lines.proofs.FirstPiece.{pieces-nil, pieces_end, pieces_byte}

join_first : (b : ℕ) (ps : List (List ℕ)) → concat (onto_first b ps) ≡ b ∷ concat ps
join_first b [] = refl
join_first b (p ∷ ps) = refl

-- the pieces of a text make the text
pub pieces_join : (bs : List ℕ) → concat (pieces bs) ≡ bs
pieces_join [] = ap concat pieces-nil
pieces_join (b ∷ bs) =
    elim (cases_Bool (is_lf b)) [
      | inl t ↦ ap concat (pieces_end b bs t) ∙ ap (λ (cs : List ℕ). b ∷ cs) (pieces_join bs)
      | inr f ↦ ap concat (pieces_byte b bs f) ∙ (join_first b (pieces bs) ∙ ap (λ (cs : List ℕ). b ∷ cs) (pieces_join bs))
    ]

-- no LF stands before the last byte
abbrev pub Cut : List ℕ → Type 0
Cut p = length p ≤ position_or_len is_lf p + 1

cut_first : (b : ℕ) (ps : List (List ℕ)) → is_lf b ≡ false → AllByRecursion Cut ps → AllByRecursion Cut (onto_first b ps)
cut_first b [] f h = (omega arith, tt)
cut_first b (p ∷ ps) f h =
    let n : position_or_len is_lf (b ∷ p) ≡ suc (position_or_len is_lf p) = rw f (omega arith) in
    (omega (arith, h.0, n), h.1)

-- no piece has an LF before its last byte
pub pieces_cut : (bs : List ℕ) → AllByRecursion Cut (pieces bs)
pieces_cut [] = subst (AllByRecursion Cut) (sym pieces-nil) tt
pieces_cut (b ∷ bs) =
    elim (cases_Bool (is_lf b)) [
      | inl t ↦ subst (AllByRecursion Cut) (sym (pieces_end b bs t)) (omega arith, pieces_cut bs)
      | inr f ↦ subst (AllByRecursion Cut) (sym (pieces_byte b bs f)) (cut_first b (pieces bs) f (pieces_cut bs))
    ]

-- ---- the words of a piece

-- a piece with an LF, which stands last, is its words joined
ends : (bs : List ℕ) → length bs ≤ position_or_len is_lf bs + 1 → list_any is_lf bs ≡ true → bs ≡ before_first is_lf bs ++ 10 ∷ []
ends [] h some = absurd (let c : false ≡ true = some in cc)
ends (b ∷ bs) h some =
    elim (cases_Bool (is_lf b)) [
      | inl t ↦
          let n : position_or_len is_lf (b ∷ bs) ≡ 0 = rw t refl in
          rw n (last bs (omega (arith, h, n)) (eqb-true b 10 t))
      | inr f ↦
          let n : position_or_len is_lf (b ∷ bs) ≡ suc (position_or_len is_lf bs) = rw f (omega arith) in
          let later : list_any is_lf bs ≡ true = rw f at some in
          rw n (ap (λ (cs : List ℕ). b ∷ cs) (ends bs (omega (arith, h, n)) later))
    ]
  where
    last : (cs : List ℕ) → length (b ∷ cs) ≤ 1 → b ≡ 10 → b ∷ cs ≡ 10 ∷ []
    last [] h e = ap (λ (x : ℕ). x ∷ []) e
    last (c ∷ cs) h e = absurd (omega arith)

pub joined_words : (piece : List ℕ) → length piece ≤ position_or_len is_lf piece + 1 → lacks_lf piece ≡ false → piece ≡ join_with_byte 32 (words_of piece) ++ 10 ∷ []
joined_words piece h has =
    let some : list_any is_lf piece ≡ true = unnot (list_any is_lf piece) has in
    ends piece h some ∙ ap (λ (cs : List ℕ). cs ++ 10 ∷ []) (sym (join_with_byte-slice_split 32 (before_first is_lf piece)))
  where
    unnot : (b : Bool) → not b ≡ false → b ≡ true
    unnot true e = refl
    unnot false e = absurd cc
