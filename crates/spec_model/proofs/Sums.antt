-- Sums and counts over lists that are mapped, and over numbers below n.
use Rattle.std.proofs.Common.{◌≡◌, ℕ, zero, suc, ◌+◌, ◌<◌, ◌≤◌, Bool, true, false, cond, List, [], ◌∷◌, ◌++◌, length, get_or, map, take, refl, sym, ap, ◌∙◌, subst, arith, add-one, All}
use Rattle.std.specs.List.{sum_by, count_by, filter}
use Rattle.std.proofs.lemmas.List.Sums.{sum_by-cons, sum_by_more, count_by_more_yes, count_by_more_no}
use Rattle.std.proofs.lemmas.List.{length-append, take_all}
use Rattle.std.proofs.lemmas.List.Elements.{All-head, All-tail}
use Rattle.spec_model.specs.Spec.{below, those}
use Rattle.spec_model.proofs.Those.{those_more, sum_by-below_more, map-below_more}

-- the sum over what is made of entries
pub sum_by_map : {A B : Type 0} (f : B → ℕ) (g : A → B) (xs : List A) → sum_by f (map g xs) ≡ sum_by (λ x. f (g x)) xs
sum_by_map f g [] = refl
sum_by_map f g (x ∷ xs) = sum_by-cons f (g x) (map g xs) ∙ (ap (λ (n : ℕ). f (g x) + n) (sum_by_map f g xs) ∙ sym (sum_by-cons (λ x. f (g x)) x xs))

-- equal terms, equal sums
pub sum_by_same : {A : Type 0} (f g : A → ℕ) (xs : List A) → All (λ x. f x ≡ g x) xs → sum_by f xs ≡ sum_by g xs
sum_by_same f g [] h = refl
sum_by_same f g (x ∷ xs) h =
    let e = All-head (λ y. f y ≡ g y) x xs h in
    let more = sum_by_same f g xs (All-tail (λ y. f y ≡ g y) x xs h) in
    sum_by-cons f x xs ∙ (omega (arith, e, more) ∙ sym (sum_by-cons g x xs))

-- the places below n that pass are as many as the elements before n that pass
length_those : {A : Type 0} (p : A → Bool) (d : A) (q : ℕ → Bool) (xs : List A) → ((i : ℕ) → q i ≡ p (get_or xs i d)) → (n : ℕ) → n ≤ length xs → length (those q n) ≡ count_by p (take n xs)
length_those p d q xs same zero h = refl
length_those p d q xs same (suc n) h = subst (λ (k : ℕ). length (those q k) ≡ count_by p (take k xs)) (add-one n) (step (p (get_or xs n d)) refl (length_those p d q xs same n (omega (arith, h))))
  where
    step : (b : Bool) → p (get_or xs n d) ≡ b → length (those q n) ≡ count_by p (take n xs) → length (those q (n + 1)) ≡ count_by p (take (n + 1) xs)
    step true e before =
        ap length (those_more q n ∙ ap (λ (b : Bool). those q n ++ cond b (n ∷ []) []) (same n ∙ e)) ∙ (length-append (those q n) (n ∷ []) ∙ omega (arith, before, count_by_more_yes p xs n d h e))
    step false e before =
        ap length (those_more q n ∙ ap (λ (b : Bool). those q n ++ cond b (n ∷ []) []) (same n ∙ e)) ∙ (length-append (those q n) [] ∙ omega (arith, before, count_by_more_no p xs n d h e))

-- as many places pass as entries
pub count_those : {A : Type 0} (p : A → Bool) (d : A) (q : ℕ → Bool) (xs : List A) → ((i : ℕ) → q i ≡ p (get_or xs i d)) → length (those q (length xs)) ≡ count_by p xs
count_those {A = A} p d q xs same = length_those p d q xs same (length xs) (omega arith) ∙ ap (count_by p) (take_all (length xs) xs (omega arith))

-- values that are equal below n: equal sums, and equal lists
pub sums_agree : (g h : ℕ → ℕ) (n : ℕ) → ((x : ℕ) → x < n → g x ≡ h x) → sum_by g (below n) ≡ sum_by h (below n)
sums_agree g h zero e = refl
sums_agree g h (suc n) e =
    subst (λ (k : ℕ). sum_by g (below k) ≡ sum_by h (below k)) (add-one n) (omega (
      arith,
      sum_by-below_more g n,
      sum_by-below_more h n,
      sums_agree g h n (λ x l. e x (omega (arith, l))),
      e n (omega arith),
    ))

pub lists_agree : (g h : ℕ → ℕ) (n : ℕ) → ((x : ℕ) → x < n → g x ≡ h x) → map g (below n) ≡ map h (below n)
lists_agree g h zero e = refl
lists_agree g h (suc n) e =
    subst (λ (k : ℕ). map g (below k) ≡ map h (below k)) (add-one n)
    (map-below_more g n ∙ (ap (λ (x : ℕ). map g (below n) ++ x ∷ []) (e n (omega arith)) ∙ (ap (λ (xs : List ℕ). xs ++ h n ∷ []) (lists_agree g h n (λ x l. e x (omega (arith, l))))
    ∙ sym (map-below_more h n))))
