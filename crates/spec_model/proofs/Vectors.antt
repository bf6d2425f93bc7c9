-- Vectors in order, and the vector of a design that is given in two ways.
use Rattle.std.proofs.Common.{◌≡◌, ℕ, zero, suc, ◌<◌, ◌≤◌, Bool, cond, List, [], ◌∷◌, length, sym, ap, ◌∙◌, arith, ◌⊎◌, inl, inr}
use Rattle.std.proofs.lemmas.Bool.{cases_lt}
use Rattle.std.proofs.lemmas.List.{same_lists, get_or_default}
use Rattle.spec_model.specs.Spec.{SpecValue, Bits, design_variables}
use Rattle.spec_model.specs.Vectors.{weight, weight_if_true, vector_at, vector_of, IsAtMost}
use Rattle.spec_model.specs.Genotypes.{IsSameDesign}
use Rattle.spec_model.specs.Laws.{SameDesignSameVector, AtMostItself, AtMostThrough, AtMostBoth, AtMostOrNot}
use Rattle.spec_model.proofs.Sums.{sums_agree, lists_agree}

-- a vector is at most itself
pub at_most_itself : AtMostItself
at_most_itself u j = omega arith

-- and at most what a greater one is at most
pub at_most_through : AtMostThrough
at_most_through u v w h g j = omega (arith, h j, g j)

-- vectors at most each other are the same
pub at_most_both : AtMostBoth
at_most_both u v e h g = same_lists u v e (λ k d lt. get_or_default u k d 0 lt ∙ omega (arith, h k, g k) ∙ sym (get_or_default v k d 0 (omega (arith, lt, e))))

at_most_first : (x : ℕ) (u : List ℕ) → x ≤ 0 → IsAtMost u [] → IsAtMost (x ∷ u) []
at_most_first x u none h zero = omega (arith, none)
at_most_first x u none h (suc j) = omega (arith, h j)

-- a vector is at most another one or isn't
pub at_most_or_not : AtMostOrNot
at_most_or_not [] v = inl (λ j. omega arith)
at_most_or_not (x ∷ u) [] =
    elim (cases_lt 0 x) [
      | inl some ↦ inr (λ h. omega (arith, some, h 0))
      | inr none ↦ elim (at_most_or_not u []) [
        | inl h ↦ inl (at_most_first x u none h)
        | inr h ↦ inr (λ g. h (λ j. omega (arith, g (suc j))))
      ]
    ]
at_most_or_not (x ∷ u) (y ∷ v) =
    elim (cases_lt y x) [
      | inl more ↦ inr (λ h. omega (arith, more, h 0))
      | inr less ↦ elim (at_most_or_not u v) [
        | inl h ↦ inl (both h less)
        | inr h ↦ inr (λ g. h (λ j. g (suc j)))
      ]
    ]
  where
    both : IsAtMost u v → x ≤ y → IsAtMost (x ∷ u) (y ∷ v)
    both h less zero = omega (arith, less)
    both h less (suc j) = h j

-- the same design has the same number in each objective,
pub same_number : (s : SpecValue) (f g : Bits) → IsSameDesign s f g → (j : ℕ) → vector_at s f j ≡ vector_at s g j
unfolding vector_at
same_number s f g h j = sums_agree (weight_if_true s f j) (weight_if_true s g j) (design_variables s) (λ x l. ap (λ (c : Bool). cond c (weight s j x) 0) (h x l))

-- and so the same vector
pub same_vector : SameDesignSameVector
same_vector s f g h = lists_agree (vector_at s f) (vector_at s g) (length s.objectives) (λ j l. same_number s f g h j)
