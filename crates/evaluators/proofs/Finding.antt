-- The first that is found among the numbers below n that pass.
use Rattle.std.proofs.Common.{◌≡◌, ℕ, zero, suc, ◌+◌, ◌-◌, ◌<◌, Bool, true, false, cond, List, [], ◌∷◌, refl, sym, ap, ◌∙◌, subst, arith, add-one, Option, Some, None}
use Rattle.std.specs.List.{find, count_by, range_with_len}
use Rattle.std.specs.Option.{option_or}
use Rattle.std.proofs.lemmas.Option.{none-some}
use Rattle.std.proofs.lemmas.List.Folds.{find-append}
use Rattle.std.proofs.lemmas.List.Sums.{sum_by-cons}
use Rattle.spec_model.specs.Spec.{below, those}
use Rattle.spec_model.proofs.Those.{those_more, below_more}

-- what is found stays found
find-those_kept : (f p : ℕ → Bool) (n i : ℕ) → find f (those p n) ≡ Some i → find f (those p (n + 1)) ≡ Some i
find-those_kept f p n i e = ap (find f) (those_more p n) ∙ (find-append f (those p n) (cond (p n) (n ∷ []) []) ∙ ap (λ (o : Option ℕ). option_or o (find f (cond (p n) (n ∷ []) []))) e)

pub find-those_later : (f p : ℕ → Bool) (n i k : ℕ) → find f (those p n) ≡ Some i → find f (those p (n + k)) ≡ Some i
find-those_later f p n i zero e = let z : n ≡ n + 0 = omega arith in subst (λ (j : ℕ). find f (those p j) ≡ Some i) z e
find-those_later f p n i (suc k) e = let z : (n + k) + 1 ≡ n + suc k = omega arith in subst (λ (j : ℕ). find f (those p j) ≡ Some i) z (find-those_kept f p (n + k) i (find-those_later f p n i k e))

-- the next number passes and is the first that is found
pub find-those_here : (f p : ℕ → Bool) (n k : ℕ) → find f (those p n) ≡ None → p n ≡ true → f n ≡ true → n < k → find f (those p k) ≡ Some n
find-those_here f p n k e pn fn l =
    let here : find f (those p (n + 1)) ≡ Some n =
    ap (find f) (those_more p n) ∙ (find-append f (those p n) (cond (p n) (n ∷ []) []) ∙ (ap (λ (o : Option ℕ). option_or o (find f (cond (p n) (n ∷ []) []))) e
    ∙ (ap (λ (b : Bool). find f (cond b (n ∷ []) [])) pn ∙ ap (λ (b : Bool). cond b (Some n) None) fn))) in
    let far : (n + 1) + (k - (n + 1)) ≡ k = omega (arith, l) in
    subst (λ (j : ℕ). find f (those p j) ≡ Some n) far (find-those_later f p (n + 1) n (k - (n + 1)) here)

-- the next number doesn't pass, or isn't looked for
pub find-those_none : (f p : ℕ → Bool) (n : ℕ) → find f (those p n) ≡ None → (p n ≡ true → f n ≡ false) → find f (those p (n + 1)) ≡ None
find-those_none f p n e fails =
    ap (find f) (those_more p n) ∙ (find-append f (those p n) (cond (p n) (n ∷ []) []) ∙ (ap (λ (o : Option ℕ). option_or o (find f (cond (p n) (n ∷ []) []))) e ∙ at (p n) fails))
  where
    at : (b : Bool) → (b ≡ true → f n ≡ false) → find f (cond b (n ∷ []) []) ≡ None
    at true h = ap (λ (c : Bool). cond c (Some n) None) (h refl)
    at false h = refl

-- where nothing is found, nothing is counted
pub count_by-none : (f : ℕ → Bool) (xs : List ℕ) → find f xs ≡ None → count_by f xs ≡ 0
count_by-none f [] e = refl
count_by-none f (x ∷ xs) e = at (f x) refl e (count_by-none f xs)
  where
    at : (b : Bool) → f x ≡ b → cond b (Some x) (find f xs) ≡ None → (find f xs ≡ None → count_by f xs ≡ 0) → count_by f (x ∷ xs) ≡ 0
    at true fx g rest = absurd (none-some x (sym g))
    at false fx g rest = sum_by-cons (λ y. cond (f y) 1 0) x xs ∙ omega (arith, ap (λ (b : Bool). cond {A = ℕ} b 1 0) fx, rest g)

-- ---- the first of the numbers below n

-- no number below i passes, and i does
pub find-below_here : (p : ℕ → Bool) (n i : ℕ) → i < n → p i ≡ true → ((k : ℕ) → k < i → p k ≡ false) → find p (below n) ≡ Some i
find-below_here p n i l pi none = from n 0 i l (subst (λ (j : ℕ). p j ≡ true) (sym zero_left) pi) (λ k h. subst (λ (j : ℕ). p j ≡ false) (left k) (none k h)) ∙ ap Some zero_left
  where
    zero_left : 0 + i ≡ i
    zero_left = omega arith

    left : (k : ℕ) → k ≡ 0 + k
    left k = omega arith

    from : (n a i : ℕ) → i < n → p (a + i) ≡ true → ((k : ℕ) → k < i → p (a + k) ≡ false) → find p (range_with_len a n) ≡ Some (a + i)
    from zero a i h q none' = absurd (omega (arith, h))
    from (suc n) a zero h q none' = let z : a + 0 ≡ a = omega arith in ap (λ (b : Bool). cond b (Some a) (find p (range_with_len (a + 1) n))) (subst (λ (j : ℕ). p j ≡ true) z q) ∙ ap Some (sym z)
    from (suc n) a (suc i) h q none' =
        let z : a + 0 ≡ a = omega arith in
        let y : (a + 1) + i ≡ a + suc i = omega arith in
        ap (λ (b : Bool). cond b (Some a) (find p (range_with_len (a + 1) n))) (subst (λ (j : ℕ). p j ≡ false) z (none' 0 (omega arith)))
        ∙ (from n (a + 1) i (omega (arith, h)) (subst (λ (j : ℕ). p j ≡ true) (sym y) q) (λ k l. let x : a + suc k ≡ (a + 1) + k = omega arith in
        subst (λ (j : ℕ). p j ≡ false) x (none' (suc k) (omega (arith, l))))
        ∙ ap Some y)

pub find-below_none : (p : ℕ → Bool) (n : ℕ) → ((k : ℕ) → k < n → p k ≡ false) → find p (below n) ≡ None
find-below_none p zero none = refl
find-below_none p (suc n) none =
    subst (λ (k : ℕ). find p (below k) ≡ None) (add-one n)
    (ap (find p) (below_more n) ∙ (find-append p (below n) (n ∷ []) ∙ (ap (λ (o : Option ℕ). option_or o (find p (n ∷ []))) (find-below_none p n (λ k l. none k (omega (arith, l))))
    ∙ ap (λ (b : Bool). cond b (Some n) None) (none n (omega arith)))))
