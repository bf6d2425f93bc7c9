-- Vectors that rise, and one more among them.
use Rattle.std.proofs.Common.{◌≡◌, ℕ, zero, suc, ◌+◌, ◌-◌, ◌<◌, ◌≤◌, List, [], ◌∷◌, length, get_or, refl, sym, ap, ap₂, ◌∙◌, subst, arith, ◌⊎◌, inl, inr}
use Rattle.std.specs.Prelude.{Contains, slice_index}
use Rattle.std.specs.List.{insert}
use Rattle.std.proofs.lemmas.Bool.{cases_lt}
use Rattle.std.proofs.lemmas.List.Edits.{length-insert, get_or-insert_at, get_or-insert_below, get_or-insert_above}
use Rattle.std.proofs.lemmas.List.Elements.{Contains-get_or}
use Rattle.front_model.specs.Fronts.{StandsBefore, Rise}
use Rattle.front_model.proofs.Rising.{through}
use Rattle.front_lists.specs.Lists.{AreLong}
use Rattle.front_search.specs.Turns.{IsPlaceFor}

-- ---- dominating

-- ---- one stands before the other

ahead : (x y : ℕ) (u v : List ℕ) → x ≡ y → StandsBefore u v → StandsBefore (x ∷ u) (y ∷ v)
ahead x y u v e b = record { place = suc b.place; same = agree; less = b.less }
  where
    agree : (j : ℕ) → j < suc b.place → slice_index (x ∷ u) j ≡ slice_index (y ∷ v) j
    agree zero l = e
    agree (suc j) l = b.same j (omega (arith, l))

less_first : (x y : ℕ) (u v : List ℕ) → x < y → StandsBefore (x ∷ u) (y ∷ v)
less_first x y u v l = record { place = 0; same = λ j k. absurd (omega (arith, k)); less = l }

-- of two vectors of one length one stands before the other, or they are the same
before_or_same : (u v : List ℕ) → length u ≡ length v → StandsBefore u v ⊎ ((u ≡ v) ⊎ StandsBefore v u)
before_or_same [] [] e = inr (inl refl)
before_or_same [] (y ∷ v) e = absurd (omega (arith, e))
before_or_same (x ∷ u) [] e = absurd (omega (arith, e))
before_or_same (x ∷ u) (y ∷ v) e =
    elim (cases_lt x y) [
      | inl l ↦ inl (less_first x y u v l)
      | inr h ↦ elim (cases_lt y x) [
        | inl l ↦ inr (inr (less_first y x v u l))
        | inr g ↦
            let same : x ≡ y = omega (arith, h, g) in
            elim (before_or_same u v (omega (arith, e))) [
              | inl b ↦ inl (ahead x y u v same b)
              | inr other ↦ elim other [
                | inl q ↦ inr (inl (ap₂ (λ (n : ℕ) (w : List ℕ). n ∷ w) same q))
                | inr b ↦ inr (inr (ahead y x v u (sym same) b))
              ]
            ]
      ]
    ]

-- ---- one more at its place

module _ (us : List (List ℕ)) (v : List ℕ) (k : ℕ) (rising : Rise us) (long : AreLong (length v) us) (new : ¬ Contains us v) (place : IsPlaceFor us v k) where
  -- it stands before the one that is there,
  before_there : (d : List ℕ) → k < length us → StandsBefore v (get_or us k d)
  before_there d l =
      elim (before_or_same (get_or us k d) v (long k d l)) [
        | inl b ↦ absurd (place.stops d l b)
        | inr other ↦ elim other [
          | inl q ↦ absurd (new (subst (Contains us) q (Contains-get_or us k d l)))
          | inr b ↦ b
        ]
      ]

  -- and before those behind
  before_behind : (m : ℕ) (d : List ℕ) → k ≤ m → m < length us → StandsBefore v (get_or us m d)
  before_behind m d le l =
      elim (cases_lt k m) [
        | inl lt ↦ through v (get_or us k d) (get_or us m d) (before_there d (omega (arith, lt, l))) (rising k m d lt l)
        | inr g ↦
            let e : k ≡ m = omega (arith, le, g) in
            subst (λ (n : ℕ). StandsBefore v (get_or us n d)) e (before_there d (omega (arith, l, e)))
      ]

  abbrev more : List (List ℕ)
  more = insert us k v

  many : length more ≡ length us + 1
  many = length-insert us k v place.within

  below_place : (i : ℕ) (d : List ℕ) → i < k → get_or more i d ≡ get_or us i d
  below_place i d l = get_or-insert_below us k v d i l place.within

  at_place : (i : ℕ) (d : List ℕ) → i ≡ k → get_or more i d ≡ v
  at_place i d e = ap (λ (n : ℕ). get_or more n d) e ∙ get_or-insert_at us k v d place.within

  above_place : (i : ℕ) (d : List ℕ) → k < i → get_or more i d ≡ get_or us (i - 1) d
  above_place i d l =
      let e : (i - 1) + 1 ≡ i = omega (arith, l) in
      sym (ap (λ (n : ℕ). get_or more n d) e) ∙ get_or-insert_above us k v d (i - 1) (omega (arith, l)) place.within

  pair : (a b x y : List ℕ) → a ≡ x → b ≡ y → StandsBefore x y → StandsBefore a b
  pair a b x y p q h = subst (λ (w : List ℕ). StandsBefore w b) (sym p) (subst (StandsBefore x) (sym q) h)

  pub rises_more : Rise more
  rises_more i j d lt l =
      elim (cases_lt j k) [
        | inl low ↦ pair _ _ (get_or us i d) (get_or us j d) (below_place i d (omega (arith, lt, low))) (below_place j d low) (rising i j d lt (omega (arith, low, place.within)))
        | inr high ↦ elim (cases_lt k j) [
          | inr at ↦
              let e : j ≡ k = omega (arith, high, at) in
              pair _ _ (get_or us i d) v (below_place i d (omega (arith, lt, e))) (at_place j d e) (place.behind i d (omega (arith, lt, e)))
          | inl above ↦
              let end : j - 1 < length us = omega (arith, l, many, above) in
              elim (cases_lt i k) [
                | inl low ↦ pair _ _ (get_or us i d) (get_or us (j - 1) d) (below_place i d low) (above_place j d above) (rising i (j - 1) d (omega (arith, low, above)) end)
                | inr from ↦ elim (cases_lt k i) [
                  | inr at ↦
                      let e : i ≡ k = omega (arith, from, at) in
                      pair _ _ v (get_or us (j - 1) d) (at_place i d e) (above_place j d above) (before_behind (j - 1) d (omega (arith, above)) end)
                  | inl over ↦ pair _ _ (get_or us (i - 1) d) (get_or us (j - 1) d) (above_place i d over) (above_place j d above) (rising (i - 1) (j - 1) d (omega (arith, lt, over)) end)
                ]
              ]
        ]
      ]

pub rise_insert : (us : List (List ℕ)) (v : List ℕ) (k : ℕ) → Rise us → AreLong (length v) us → ¬ Contains us v → IsPlaceFor us v k → Rise (insert us k v)
rise_insert us v k rising long new place = rises_more us v k rising long new place
