-- Of some vectors one that no other dominates and that is at most a given one.
use Rattle.std.proofs.Common.{◌≡◌, ℕ, zero, suc, ◌+◌, ◌<◌, ◌≤◌, List, [], ◌∷◌, length, refl, sym, ap₂, ◌∙◌, subst, arith, ◌⊎◌, inl, inr}
use Rattle.std.specs.Prelude.{Contains}
use Rattle.std.proofs.lemmas.Bool.{cases_lt}
use Rattle.std.proofs.lemmas.List.Elements.{All-head, All-tail, All-contains}
use Rattle.spec_model.specs.Vectors.{IsAtMost, Dominates}
use Rattle.spec_model.proofs.Vectors.{at_most_itself, at_most_through, at_most_both, at_most_or_not}
use Rattle.front_model.proofs.Exact.{before_all, split}
use Rattle.front_lists.specs.Lists.{AreLong, IsUndominated}

-- the numbers of a vector, added up
abbrev total : List ℕ → ℕ
total [] = 0
total (x ∷ u) = x + total u

total-le : (u v : List ℕ) → length u ≡ length v → IsAtMost u v → total u ≤ total v
total-le [] [] e h = omega arith
total-le [] (y ∷ v) e h = omega arith
total-le (x ∷ u) [] e h = absurd (omega (arith, e))
total-le (x ∷ u) (y ∷ v) e h =
    let first : x ≤ y = h 0 in
    let len : length u ≡ length v = omega (arith, e) in
    omega (arith, first, total-le u v len (λ j. h (suc j)))

total_less : (u v : List ℕ) → length u ≡ length v → Dominates u v → total u < total v
total_less [] [] e d = absurd (d.1 refl)
total_less [] (y ∷ v) e d = absurd (omega (arith, e))
total_less (x ∷ u) [] e d = absurd (omega (arith, e))
total_less (x ∷ u) (y ∷ v) e d =
    let first : x ≤ y = d.0 0 in
    let len : length u ≡ length v = omega (arith, e) in
    let rest : IsAtMost u v = λ j. d.0 (suc j) in
    elim (cases_lt x y) [
      | inl less ↦ omega (arith, less, total-le u v len rest)
      | inr more ↦
          let same : x ≡ y = omega (arith, first, more) in
          omega (arith, same, total_less u v len (rest, λ q. d.1 (ap₂ (λ (a : ℕ) (more : List ℕ). a ∷ more) same q)))
    ]

-- a vector of some that dominates the given one
record HasDominating (us : List (List ℕ)) (v : List ℕ) : Type 0 where
  pub vector : List ℕ
  pub there : Contains us vector
  pub dominates : Dominates vector v

-- one dominates another, or not
pub dominates_or_not : (u v : List ℕ) → length u ≡ length v → Dominates u v ⊎ (¬ Dominates u v)
dominates_or_not u v e =
    elim (at_most_or_not u v) [
      | inr fails ↦ inr (λ d. fails d.0)
      | inl le ↦ elim (at_most_or_not v u) [
        | inl back ↦ inr (λ d. d.1 (at_most_both u v e le back))
        | inr fails ↦ inl (le, λ q. fails (subst (λ (w : List ℕ). IsAtMost v w) (sym q) (at_most_itself v)))
      ]
    ]

dominated_or_not : (k : ℕ) (us : List (List ℕ)) (v : List ℕ) → AreLong k us → length v ≡ k → HasDominating us v ⊎ IsUndominated us v
dominated_or_not k [] v all e = inr (λ u c. (let l = c.1 in absurd (omega arith)))
dominated_or_not k (u ∷ us) v all e =
    let long : length u ≡ length v = All-head (λ (w : List ℕ). length w ≡ k) u us all ∙ sym e in
    elim (dominates_or_not u v long) [
      | inl d ↦ inl (record { vector = u; there = (0, omega arith, refl); dominates = d })
      | inr fails ↦ elim (dominated_or_not k us v (All-tail (λ (w : List ℕ). length w ≡ k) u us all) e) [
        | inl h ↦ inl (record { vector = h.vector; there = before_all u us h.vector h.there; dominates = h.dominates })
        | inr none ↦ inr (λ w c. elim (split u us w c) [
          | inl q ↦ subst (λ (x : List ℕ). ¬ Dominates x v) q fails
          | inr later ↦ none w later
        ])
      ]
    ]

-- a vector of some that no other dominates, at most the given one
pub record HasLeast (us : List (List ℕ)) (v : List ℕ) : Type 0 where
  pub vector : List ℕ
  pub there : Contains us vector
  pub below : IsAtMost vector v
  pub undominated : IsUndominated us vector

least_below : (k n : ℕ) (us : List (List ℕ)) (v : List ℕ) → AreLong k us → Contains us v → total v < n → HasLeast us v
least_below k zero us v all c l = absurd (omega (arith, l))
least_below k (suc n) us v all c l =
    let e : length v ≡ k = All-contains (λ (w : List ℕ). length w ≡ k) us v all c in
    elim (dominated_or_not k us v all e) [
      | inr none ↦ record { vector = v; there = c; below = at_most_itself v; undominated = none }
      | inl d ↦
          let long : length d.vector ≡ length v = All-contains (λ (w : List ℕ). length w ≡ k) us d.vector all d.there ∙ sym e in
          let r = least_below k n us d.vector all d.there (omega (arith, l, total_less d.vector v long d.dominates)) in
          record { vector = r.vector; there = r.there; below = at_most_through r.vector d.vector v r.below d.dominates.0; undominated = r.undominated }
    ]

pub least : (k : ℕ) (us : List (List ℕ)) (v : List ℕ) → AreLong k us → Contains us v → HasLeast us v
least k us v all c = least_below k (total v + 1) us v all c (omega arith)
