-- Lists in which no two places hold the same.
use Rattle.std.proofs.Common.{◌≡◌, ◌<◌, inl, inr, List, [], ◌∷◌, ◌++◌, length, get_or, sym, ◌∙◌, arith, Contains, length-append}
use Rattle.std.proofs.lemmas.Bool.{cases_lt}
use Rattle.std.proofs.lemmas.List.{get_or_append_left, get_or_push, get_or_default}
use Rattle.spec_model.specs.WellFormed.{AreDistinct}

-- one element more that isn't there
pub distinct_push : {A : Type 0} (xs : List A) (x : A) → AreDistinct xs → ¬ Contains xs x → AreDistinct (xs ++ x ∷ [])
distinct_push {A = A} xs x old new i j d l h e = elim (cases_lt j (length xs)) [
  | inl lj ↦ old i j d l lj (sym (get_or_append_left xs (x ∷ []) d i (omega (arith, l, lj))) ∙ e ∙ get_or_append_left xs (x ∷ []) d j lj)
  | inr gj ↦
      let end : length xs ≡ j = omega (arith, gj, h, length-append xs (x ∷ [])) in
      let li : i < length xs = omega (arith, l, end) in
      new (i, li, get_or_default xs i x d li ∙ sym (get_or_append_left xs (x ∷ []) d i li) ∙ e ∙ get_or_push xs x d j end)
]
