-- How many numbers below n pass a test.
use Rattle.std.proofs.Common.{◌≡◌, ℕ, zero, suc, ◌+◌, ◌<◌, ◌≤◌, Bool, true, false, cond, List, [], ◌∷◌, ◌++◌, refl, sym, ap, ◌∙◌, subst, arith, inl, inr, add-one}
use Rattle.std.specs.Prelude.{◌&&◌, map}
use Rattle.std.specs.List.{count_by, filter}
use Rattle.std.proofs.lemmas.List.Sums.{sum_by-append, sum_by-cons}
use Rattle.std.proofs.lemmas.Bool.{and_parts}
use Rattle.spec_model.specs.Spec.{below, those}
use Rattle.std.specs.List.{flat_map}
use Rattle.std.proofs.lemmas.Bool.{cases_lt}
use Rattle.spec_model.proofs.Those.{below_more, cases_suc, count_by-those_suc}
use Rattle.spec_model.proofs.Pieces.{flat-suc}

-- a bit as 0 or 1
abbrev pub bit : Bool → ℕ
bit b = cond b 1 0

-- the count with one entry more
pub count-cons : {X : Type 0} (f : X → Bool) (x : X) (xs : List X) → count_by f (x ∷ xs) ≡ cond (f x) 1 0 + count_by f xs
count-cons f x xs = sum_by-cons (λ y. cond (f y) 1 0) x xs

-- the count of two lists is the sum of both
pub count-append : {X : Type 0} (f : X → Bool) (xs ys : List X) → count_by f (xs ++ ys) ≡ count_by f xs + count_by f ys
count-append f xs ys = sum_by-append (λ y. cond (f y) 1 0) xs ys

-- at suc n, on which `below` computes
pub count-below_suc : (f : ℕ → Bool) (n : ℕ) → count_by f (below (suc n)) ≡ count_by f (below n) + cond (f n) 1 0
count-below_suc f n =
    let at : count_by f (below (n + 1)) ≡ count_by f (below n) + cond (f n) 1 0 = ap (count_by f) (below_more n)
    ∙ (count-append f (below n) (n ∷ []) ∙ ap (λ k. count_by f (below n) + k) (count-cons f n [] ∙ omega arith)) in
    subst (λ (k : ℕ). count_by f (below k) ≡ count_by f (below n) + cond (f n) 1 0) (add-one n) at

-- the count of what is made of entries
pub count-map : {X : Type 0} (f : ℕ → Bool) (g : X → ℕ) (xs : List X) → count_by f (map g xs) ≡ count_by (λ x. f (g x)) xs
count-map f g [] = refl
count-map f g (x ∷ xs) = count-cons f (g x) (map g xs) ∙ (ap (λ k. cond (f (g x)) 1 0 + k) (count-map f g xs) ∙ sym (count-cons (λ y. f (g y)) x xs))

count-filter_step : (f p : ℕ → Bool) (x : ℕ) (xs : List ℕ) (b : Bool) → count_by f (filter p xs) ≡ count_by (λ y. p y && f y) xs
    → count_by f (cond b (x ∷ filter p xs) (filter p xs)) ≡ bit (b && f x) + count_by (λ y. p y && f y) xs
count-filter_step f p x xs true e = count-cons f x (filter p xs) ∙ ap (λ k. bit (f x) + k) e
count-filter_step f p x xs false e = e ∙ omega arith

pub count-filter : (f p : ℕ → Bool) (xs : List ℕ) → count_by f (filter p xs) ≡ count_by (λ x. p x && f x) xs
count-filter f p [] = refl
count-filter f p (x ∷ xs) = count-filter_step f p x xs (p x) (count-filter f p xs) ∙ sym (count-cons (λ y. p y && f y) x xs)

-- one that passes
abbrev Passes : (ℕ → Bool) → ℕ → Type 0
Passes f n = (i : ℕ) × (i < n) × (f i ≡ true)

some_step : (f : ℕ → Bool) (n : ℕ) (b : Bool) → f n ≡ b → 1 ≤ count_by f (below (suc n)) → (1 ≤ count_by f (below n) → Passes f n) → Passes f (suc n)
some_step f n true e h before = (n, omega arith, e)
some_step f n false e h before =
    let rest : count_by f (below (suc n)) ≡ count_by f (below n) + 0 = count-below_suc f n ∙ ap (λ k. count_by f (below n) + k) (ap bit e) in
    let x = before (omega (arith, rest, h)) in
    (x.0, omega (arith, x.1), x.2)

-- where some are counted, one passes
pub some_below : (f : ℕ → Bool) (n : ℕ) → 1 ≤ count_by f (below n) → (i : ℕ) × (i < n) × (f i ≡ true)
some_below f zero h = absurd (omega (arith, h))
some_below f (suc n) h = some_step f n (f n) refl h (some_below f n)

-- where one passes, some are counted
pub counted_below : (f : ℕ → Bool) (n i : ℕ) → i < n → f i ≡ true → 1 ≤ count_by f (below n)
counted_below f zero i h t = absurd (omega arith)
counted_below f (suc n) i h t =
    elim (cases_suc i n h) [
      | inl e ↦
          let t' : f n ≡ true = subst (λ (x : ℕ). f x ≡ true) e t in
          let whole : count_by f (below (suc n)) ≡ count_by f (below n) + 1 = count-below_suc f n ∙ ap (λ k. count_by f (below n) + k) (ap bit t') in
          omega (arith, whole)
      | inr l ↦ omega (arith, counted_below f n i l t, count-below_suc f n)
    ]

-- two that pass are one, where at most one does
pub same_below : (f : ℕ → Bool) (n i j : ℕ) → i < n → j < n → f i ≡ true → f j ≡ true → count_by f (below n) ≤ 1 → i ≡ j
same_below f zero i j hi hj ti tj one = absurd (omega arith)
same_below f (suc n) i j hi hj ti tj one =
    elim (cases_suc i n hi) [
      | inl ei ↦ elim (cases_suc j n hj) [
        | inl ej ↦ ei ∙ sym ej
        | inr lj ↦ absurd (clash i j ei ti lj tj)
      ]
      | inr li ↦ elim (cases_suc j n hj) [
        | inl ej ↦ absurd (clash j i ej tj li ti)
        | inr lj ↦ same_below f n i j li lj ti tj (omega (arith, one, count-below_suc f n))
      ]
    ]
  where
    clash : (k l : ℕ) → k ≡ n → f k ≡ true → l < n → f l ≡ true → ⊥
    clash k l e tk ll tl =
        let t' : f n ≡ true = subst (λ (x : ℕ). f x ≡ true) e tk in
        let whole : count_by f (below (suc n)) ≡ count_by f (below n) + 1 = count-below_suc f n ∙ ap (λ k. count_by f (below n) + k) (ap bit t') in
        omega (arith, whole, counted_below f n l ll tl, one)

-- one among those
pub some_those : (f p : ℕ → Bool) (n : ℕ) → 1 ≤ count_by f (those p n) → (i : ℕ) × (i < n) × (p i ≡ true) × (f i ≡ true)
some_those f p n h =
    let x = some_below (λ i. p i && f i) n (omega (arith, h, count-filter f p (below n))) in
    let e = and_parts (p x.0) (f x.0) x.2 in
    (x.0, x.1, e.0, e.1)

-- the first number apart
pub count-below_first : (f : ℕ → Bool) (n : ℕ) → count_by f (below (suc n)) ≡ bit (f 0) + count_by (λ t. f (1 + t)) (below n)
count-below_first f zero = omega arith
count-below_first f (suc n) =
    let e : 1 + n ≡ suc n = omega arith in
    omega (arith, count-below_suc f (suc n), count-below_first f n, count-below_suc (λ t. f (1 + t)) n, ap (λ (k : ℕ). bit (f k)) e)

-- tests that agree count the same
pub count_agree : {X : Type 0} (f g : X → Bool) (xs : List X) → ((x : X) → f x ≡ g x) → count_by f xs ≡ count_by g xs
count_agree f g [] h = refl
count_agree f g (x ∷ xs) h = omega (arith, count-cons f x xs, count-cons g x xs, count_agree f g xs h, ap bit (h x))

-- where any two that pass are one, at most one passes
pub at_most_one : (f : ℕ → Bool) (n : ℕ) → ((i j : ℕ) → i < n → j < n → f i ≡ true → f j ≡ true → i ≡ j) → count_by f (below n) ≤ 1
at_most_one f zero h = omega arith
at_most_one f (suc n) h = at (f n) refl (at_most_one f n (λ i j hi hj ti tj. h i j (omega arith) (omega arith) ti tj))
  where
    at : (b : Bool) → f n ≡ b → count_by f (below n) ≤ 1 → count_by f (below (suc n)) ≤ 1
    at false e before = omega (arith, before, count-below_suc f n, ap bit e)
    at true e before =
        elim (cases_lt 0 (count_by f (below n))) [
          | inl l ↦
              let x = some_below f n (omega (arith, l)) in
              let same = h x.0 n (omega (arith, x.1)) (omega arith) x.2 e in
              absurd (omega (arith, same, x.1))
          | inr l ↦ omega (arith, l, count-below_suc f n, ap bit e)
        ]

-- those that pass a further test are no more
pub count-and_le : (f p q : ℕ → Bool) (n : ℕ) → count_by f (those (λ i. p i && q i) n) ≤ count_by f (those p n)
count-and_le f p q zero = omega arith
count-and_le f p q (suc n) =
    omega (arith, count_by-those_suc f (λ i. p i && q i) n, count_by-those_suc f p n, count-and_le f p q n, at (p n) (q n))
  where
    at : (a b : Bool) → cond (a && b) (cond (f n) 1 0) 0 ≤ cond a (cond (f n) 1 0) 0
    at true true = omega arith
    at true false = omega arith
    at false b = omega arith

-- of the pieces each has no more than all
pub count_piece_le : (f : ℕ → Bool) (g : ℕ → List ℕ) (n i : ℕ) → i < n → count_by f (g i) ≤ count_by f (flat_map g (below n))
count_piece_le f g zero i h = absurd (omega (arith, h))
count_piece_le f g (suc n) i h =
    let whole : count_by f (flat_map g (below (suc n))) ≡ count_by f (flat_map g (below n)) + count_by f (g n) = ap (count_by f) (flat-suc g n) ∙ count-append f (flat_map g (below n)) (g n) in
    elim (cases_suc i n h) [
      | inl e ↦ subst (λ (k : ℕ). count_by f (g k) ≤ count_by f (flat_map g (below (suc n)))) (sym e) (omega (arith, whole))
      | inr l ↦ omega (arith, whole, count_piece_le f g n i l)
    ]

-- a piece that has one, where all together have one
pub some_piece : (f : ℕ → Bool) (g : ℕ → List ℕ) (n : ℕ) → 1 ≤ count_by f (flat_map g (below n)) → (i : ℕ) × (i < n) × (1 ≤ count_by f (g i))
some_piece f g zero h = absurd (omega (arith, h))
some_piece f g (suc n) h =
    let whole : count_by f (flat_map g (below (suc n))) ≡ count_by f (flat_map g (below n)) + count_by f (g n) = ap (count_by f) (flat-suc g n) ∙ count-append f (flat_map g (below n)) (g n) in
    elim (cases_lt 0 (count_by f (g n))) [
      | inl l ↦ (n, omega arith, omega (arith, l))
      | inr l ↦ let x = some_piece f g n (omega (arith, h, whole, l)) in (x.0, omega (arith, x.1), x.2)
    ]
