-- There is one list of the undominated entries.
use Rattle.std.proofs.Common.{◌≡◌, ℕ, zero, suc, ◌+◌, ◌<◌, List, [], ◌∷◌, get_or, refl, sym, ap, ap₂, subst, arith, ◌⊎◌, inl, inr}
use Rattle.std.specs.Prelude.{Contains}
use Rattle.std.proofs.lemmas.Bool.{cases_lt}
use Rattle.std.proofs.lemmas.List.Elements.{All-contains}
use Rattle.result_text.specs.Answers.{EntryValue}
use Rattle.front_model.specs.Fronts.{vector_in, StandsBefore, Rise}
use Rattle.front_lists.specs.Lists.{vectors_in, IsKept}
use Rattle.front_lists.specs.Laws.{UndominatedIsOne}
use Rattle.front_lists.proofs.Kept.{vector_there, not_before_itself}

-- not both before each other
both_ways : (u v : List ℕ) → StandsBefore u v → StandsBefore v u → ⊥
both_ways u v a b =
    elim (cases_lt a.place b.place) [
      | inl l ↦ absurd (omega (arith, a.less, b.same a.place l))
      | inr m ↦ elim (cases_lt b.place a.place) [
        | inl l ↦ absurd (omega (arith, b.less, a.same b.place l))
        | inr n ↦
            let e : a.place ≡ b.place = omega (arith, m, n) in
            let less : get_or u b.place 0 < get_or v b.place 0 = subst (λ (k : ℕ). get_or u k 0 < get_or v k 0) e a.less in
            absurd (omega (arith, less, b.less))
      ]
    ]

rises_rest : (e : EntryValue) (es : List EntryValue) → Rise (vectors_in (e ∷ es)) → Rise (vectors_in es)
rises_rest e es h i j d lt l = h (suc i) (suc j) d (omega (arith, lt)) (omega (arith, l))

-- the first stands before each later one
first_before : (e f : EntryValue) (es : List EntryValue) → Rise (vectors_in (e ∷ es)) → Contains es f → StandsBefore e.vector f.vector
first_before e f es h c =
    let there = vector_there es f c in
    subst (StandsBefore e.vector) there.2 (h 0 (suc there.0) f.vector (omega arith) (omega (arith, there.1)))

later : (e f : EntryValue) (es : List EntryValue) → Contains (e ∷ es) f → (e ≡ f) ⊎ Contains es f
later e f es (zero, l, q) = inl q
later e f es (suc k, l, q) = inr (k, omega (arith, l), q)

onto : (e f : EntryValue) (es : List EntryValue) → Contains es f → Contains (e ∷ es) f
onto e f es c =
    let q : suc c.0 ≡ c.0 + 1 = omega arith in
    (c.0 + 1, omega (arith, c.1), subst (λ (n : ℕ). get_or (e ∷ es) n f ≡ f) q c.2)

-- each entry of the one list is in the other
abbrev Within : List EntryValue → List EntryValue → Type 0
Within es fs = (e : EntryValue) → Contains es e → Contains fs e

rest_within : (e : EntryValue) (es fs : List EntryValue) → Rise (vectors_in (e ∷ es)) → Within (e ∷ es) (e ∷ fs) → Within es fs
rest_within e es fs h w f c =
    elim (later e f fs (w f (onto e f es c))) [
      | inl q ↦ absurd (not_before_itself e.vector f.vector (ap vector_in q) (first_before e f es h c))
      | inr k ↦ k
    ]

same_first : (e f : EntryValue) (es fs : List EntryValue) → Rise (vectors_in (e ∷ es)) → Rise (vectors_in (f ∷ fs)) → Within (e ∷ es) (f ∷ fs) → Within (f ∷ fs) (e ∷ es) → e ≡ f
same_first e f es fs h g w v =
    elim (later f e fs (w e (0, omega arith, refl))) [
      | inl q ↦ sym q
      | inr k ↦ elim (later e f es (v f (0, omega arith, refl))) [
        | inl q ↦ q
        | inr m ↦ absurd (both_ways e.vector f.vector (first_before e f es h m) (first_before f e fs g k))
      ]
    ]

same_rising : (es fs : List EntryValue) → Rise (vectors_in es) → Rise (vectors_in fs) → Within es fs → Within fs es → es ≡ fs
same_rising [] [] h g w v = refl
same_rising [] (f ∷ fs) h g w v = absurd (let l = (v f (0, omega arith, refl)).1 in omega arith)
same_rising (e ∷ es) [] h g w v = absurd (let l = (w e (0, omega arith, refl)).1 in omega arith)
same_rising (e ∷ es) (f ∷ fs) h g w v =
    let q : e ≡ f = same_first e f es fs h g w v in
    let g' : Rise (vectors_in (e ∷ fs)) = subst (λ (x : EntryValue). Rise (vectors_in (x ∷ fs))) (sym q) g in
    let w' : Within (e ∷ es) (e ∷ fs) = subst (λ (x : EntryValue). Within (e ∷ es) (x ∷ fs)) (sym q) w in
    let v' : Within (e ∷ fs) (e ∷ es) = subst (λ (x : EntryValue). Within (x ∷ fs) (e ∷ es)) (sym q) v in
    ap₂ (λ (x : EntryValue) (xs : List EntryValue). x ∷ xs) q (same_rising es fs (rises_rest e es h) (rises_rest e fs g') (rest_within e es fs h w') (rest_within e fs es g' v'))

pub undominated_is_one : UndominatedIsOne
undominated_is_one found front other a b =
    same_rising front other a.rising b.rising (λ e c. b.each e (All-contains (IsKept found) front e a.only c)) (λ e c. a.each e (All-contains (IsKept found) other e b.only c))
