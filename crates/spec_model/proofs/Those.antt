-- One number more: what a loop over the numbers below n adds.
use Rattle.std.proofs.Common.{◌≡◌, ℕ, zero, suc, ◌+◌, ◌<◌, ◌≤◌, Bool, true, false, cond, List, [], ◌∷◌, ◌++◌, refl, sym, ap, ◌∙◌, arith, subst, ◌⊎◌, inl, inr, add-one, append_assoc, length}
use Rattle.std.specs.Prelude.{map}
use Rattle.std.specs.List.{range_with_len, filter, count_by, sum_by, flat_map}
use Rattle.std.proofs.lemmas.List.Elements.{filter-append}
use Rattle.std.proofs.lemmas.List.Sums.{sum_by-append, sum_by-cons, length-filter, count_by-le-length}
use Rattle.std.proofs.lemmas.Grind.{flat_map-append}
use Rattle.std.proofs.lemmas.List.{append-nil, map-append}
use Rattle.std.proofs.lemmas.Bool.{cases_lt}
use Rattle.std.proofs.lemmas.List.FromFn.{length-range_with_len}
use Rattle.spec_model.specs.Spec.{below, those}

range_more : (n a : ℕ) → range_with_len a (suc n) ≡ range_with_len a n ++ (a + n) ∷ []
range_more zero a = ap (λ (x : ℕ). x ∷ []) (omega arith)
range_more (suc n) a =
    let e : (a + 1) + n ≡ a + suc n = omega arith in
    ap (λ (xs : List ℕ). a ∷ xs) (range_more n (a + 1) ∙ ap (λ (x : ℕ). range_with_len (a + 1) n ++ x ∷ []) e)

-- one number more stands behind the others
pub below_more : (n : ℕ) → below (n + 1) ≡ below n ++ n ∷ []
below_more n =
    let e : 0 + n ≡ n = omega arith in
    rw add-one (range_more n 0 ∙ ap (λ (x : ℕ). range_with_len 0 n ++ x ∷ []) e)

-- and passes or doesn't
pub those_more : (p : ℕ → Bool) (n : ℕ) → those p (n + 1) ≡ those p n ++ cond (p n) (n ∷ []) []
those_more p n = ap (filter p) (below_more n) ∙ filter-append p (below n) (n ∷ [])

-- no more of those than there are numbers
pub few_those : (p : ℕ → Bool) (n : ℕ) → length (those p n) ≤ n
few_those p n = omega (arith, length-filter p (below n), count_by-le-length p (below n), length-range_with_len 0 n)

-- the sum over those that pass, with one number more
pub sum_by-those_more : (f : ℕ → ℕ) (p : ℕ → Bool) (n : ℕ) → sum_by f (those p (n + 1)) ≡ sum_by f (those p n) + cond (p n) (f n) 0
sum_by-those_more f p n = ap (sum_by f) (those_more p n) ∙ (sum_by-append f (those p n) (cond (p n) (n ∷ []) []) ∙ ap (λ x. sum_by f (those p n) + x) (one (p n)))
  where
    one : (b : Bool) → sum_by f (cond b (n ∷ []) []) ≡ cond b (f n) 0
    one true = omega arith
    one false = refl

-- one number more in a sum
pub sum_by-below_more : (g : ℕ → ℕ) (n : ℕ) → sum_by g (below (n + 1)) ≡ sum_by g (below n) + g n
sum_by-below_more g n = ap (sum_by g) (below_more n) ∙ omega (arith, sum_by-append g (below n) (n ∷ []))

pub count_by-those_more : (f p : ℕ → Bool) (n : ℕ) → count_by f (those p (n + 1)) ≡ count_by f (those p n) + cond (p n) (cond (f n) 1 0) 0
count_by-those_more f p n = sum_by-those_more (λ x. cond (f x) 1 0) p n

-- the same at suc n, which the list computes on: it can't be rewritten there
pub count_by-those_suc : (f p : ℕ → Bool) (n : ℕ) → count_by f (those p (suc n)) ≡ count_by f (those p n) + cond (p n) (cond (f n) 1 0) 0
count_by-those_suc f p n = subst (λ (k : ℕ). count_by f (those p k) ≡ count_by f (those p n) + cond (p n) (cond (f n) 1 0) 0) (add-one n) (count_by-those_more f p n)

-- what one number more gives stands behind what the others give
pub flat_map-below_more : {A : Type 0} (g : ℕ → List A) (n : ℕ) → flat_map g (below (n + 1)) ≡ flat_map g (below n) ++ g n
flat_map-below_more g n = ap (flat_map g) (below_more n) ∙ (flat_map-append g (below n) (n ∷ []) ∙ ap (λ xs. flat_map g (below n) ++ xs) (append-nil (g n)))

-- a number below suc n is below n, or it is n
pub cases_suc : (i n : ℕ) → i < suc n → (i ≡ n) ⊎ (i < n)
cases_suc i n h = elim (cases_lt i n) [ inl l ↦ inr l | inr l ↦ inl (omega arith) ]

-- the steps in the form that an answer takes: a loop that keeps those that pass, and one that appends a family
pub those_more_yes : (p : ℕ → Bool) (n : ℕ) (xs ys : List ℕ) → xs ≡ those p n → p n ≡ true → ys ≡ xs ++ n ∷ [] → ys ≡ those p (n + 1)
those_more_yes p n xs ys e t h = h ∙ (ap (λ (zs : List ℕ). zs ++ n ∷ []) e ∙ sym (those_more p n ∙ ap (λ (b : Bool). those p n ++ cond b (n ∷ []) []) t))

pub those_more_no : (p : ℕ → Bool) (n : ℕ) (xs ys : List ℕ) → xs ≡ those p n → p n ≡ false → ys ≡ xs → ys ≡ those p (n + 1)
those_more_no p n xs ys e t h = h ∙ (e ∙ sym (those_more p n ∙ (ap (λ (b : Bool). those p n ++ cond b (n ∷ []) []) t ∙ append-nil (those p n))))

pub family_more : {A : Type 0} (g : ℕ → List A) (n : ℕ) (start now next : List A) → now ≡ start ++ flat_map g (below n) → next ≡ now ++ g n → next ≡ start ++ flat_map g (below (n + 1))
family_more g n start now next e h = h ∙ (ap (λ zs. zs ++ g n) e ∙ (append_assoc start (flat_map g (below n)) (g n) ∙ ap (λ zs. start ++ zs) (sym (flat_map-below_more g n))))

-- the steps of a loop over the numbers below n
pub ruleset those_steps = (count_by-those_more, sum_by-those_more, those_more, below_more, flat_map-below_more, those_more_yes, those_more_no, family_more)

-- what is made of one number more stands behind the others
pub map-below_more : {A : Type 0} (g : ℕ → A) (n : ℕ) → map g (below (n + 1)) ≡ map g (below n) ++ g n ∷ []
map-below_more g n = ap (map g) (below_more n) ∙ map-append g (below n) (n ∷ [])

-- a loop that appends one for each number
pub map_more : {A : Type 0} (g : ℕ → A) (n : ℕ) (start now next : List A) → now ≡ start ++ map g (below n) → next ≡ now ++ g n ∷ [] → next ≡ start ++ map g (below (n + 1))
map_more g n start now next e h = h ∙ (ap (λ zs. zs ++ g n ∷ []) e ∙ (append_assoc start (map g (below n)) (g n ∷ []) ∙ ap (λ zs. start ++ zs) (sym (map-below_more g n))))

pub ruleset map_steps = (map_more, map-below_more)
