-- The greatest of a list, one number more.
use Rattle.std.proofs.Common.{◌≡◌, ℕ, zero, suc, ◌+◌, ◌≤◌, max, Bool, true, false, cond, List, [], ◌∷◌, ◌++◌, map, sym, ap, ◌∙◌, subst, arith, add-one}
use Rattle.std.proofs.lemmas.List.{map-append, append-nil}
use Rattle.spec_model.specs.Spec.{below, those}
use Rattle.spec_model.specs.Schedule.{greatest}
use Rattle.spec_model.proofs.Those.{those_more, map-below_more}

pub greatest-push : (xs : List ℕ) (y : ℕ) → greatest (xs ++ y ∷ []) ≡ max (greatest xs) y
greatest-push [] y = omega arith
greatest-push (x ∷ xs) y = ap (max x) (greatest-push xs y) ∙ omega arith

pub greatest-below_more : (g : ℕ → ℕ) (n : ℕ) → greatest (map g (below (n + 1))) ≡ max (greatest (map g (below n))) (g n)
greatest-below_more g n = ap greatest (map-below_more g n) ∙ greatest-push (map g (below n)) (g n)

-- the numbers below n that pass are below n
greatest-those_small : (p : ℕ → Bool) (n : ℕ) → greatest (those p n) ≤ n
greatest-those_small p zero = omega arith
greatest-those_small p (suc n) = subst (λ (k : ℕ). greatest (those p k) ≤ k) (add-one n) (small (p n) (greatest-those_small p n))
  where
    small : (b : Bool) → greatest (those p n) ≤ n → greatest (those p (n + 1)) ≤ n + 1
    small b h = subst (λ (xs : List ℕ). greatest xs ≤ n + 1) (sym (those_more p n)) (one (p n))
      where
        one : (c : Bool) → greatest (those p n ++ cond c (n ∷ []) []) ≤ n + 1
        one true = omega (arith, h, greatest-push (those p n) n)
        one false = subst (λ (xs : List ℕ). greatest xs ≤ n + 1) (sym (append-nil (those p n))) (omega (arith, h))

-- one number more among those that pass: it is the greatest if it passes
pub greatest-those_more : (p : ℕ → Bool) (n : ℕ) → greatest (those p (n + 1)) ≡ cond (p n) n (greatest (those p n))
greatest-those_more p n = ap greatest (those_more p n) ∙ at (p n)
  where
    at : (b : Bool) → greatest (those p n ++ cond b (n ∷ []) []) ≡ cond b n (greatest (those p n))
    at true = greatest-push (those p n) n ∙ omega (arith, greatest-those_small p n)
    at false = ap greatest (append-nil (those p n))

-- one more among those that pass and are measured
pub greatest-map_those_more : (g : ℕ → ℕ) (p : ℕ → Bool) (n : ℕ) → greatest (map g (those p (n + 1))) ≡ cond (p n) (max (greatest (map g (those p n))) (g n)) (greatest (map g (those p n)))
greatest-map_those_more g p n = ap (λ (xs : List ℕ). greatest (map g xs)) (those_more p n) ∙ at (p n)
  where
    at : (b : Bool) → greatest (map g (those p n ++ cond b (n ∷ []) [])) ≡ cond b (max (greatest (map g (those p n))) (g n)) (greatest (map g (those p n)))
    at true = ap greatest (map-append g (those p n) (n ∷ [])) ∙ greatest-push (map g (those p n)) (g n)
    at false = ap (λ (xs : List ℕ). greatest (map g xs)) (append-nil (those p n))

pub ruleset greatest_steps = (greatest-below_more, greatest-those_more, greatest-map_those_more)
