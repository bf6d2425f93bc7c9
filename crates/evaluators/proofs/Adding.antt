-- Sums over the numbers below n, one number more.
use Rattle.std.proofs.Common.{◌≡◌, ℕ, ◌+◌, Bool, true, false, cond, List, [], ◌∷◌, ap, ◌∙◌, arith}
use Rattle.std.specs.List.{count_by, filter, sum_by}
use Rattle.std.proofs.lemmas.List.Sums.{sum_by-append}
use Rattle.std.proofs.lemmas.List.Elements.{filter-append}
use Rattle.spec_model.specs.Spec.{below, those}
use Rattle.spec_model.proofs.Those.{those_more, sum_by-below_more}

pub count_by-below_more : (f : ℕ → Bool) (n : ℕ) → count_by f (below (n + 1)) ≡ count_by f (below n) + cond (f n) 1 0
count_by-below_more f n = sum_by-below_more (λ x. cond (f x) 1 0) n

-- of those that pass one test, those that pass a second one are added up
pub sum_by_filtered_more : (g : ℕ → ℕ) (f p : ℕ → Bool) (n : ℕ) → sum_by g (filter f (those p (n + 1))) ≡ sum_by g (filter f (those p n)) + cond (p n) (cond (f n) (g n) 0) 0
sum_by_filtered_more g f p n =
    ap (λ (xs : List ℕ). sum_by g (filter f xs)) (those_more p n)
    ∙ (ap (sum_by g) (filter-append f (those p n) (cond (p n) (n ∷ []) []))
    ∙ (sum_by-append g (filter f (those p n)) (filter f (cond (p n) (n ∷ []) [])) ∙ ap (λ (k : ℕ). sum_by g (filter f (those p n)) + k) (at (p n))))
  where
    one : (b : Bool) → sum_by g (cond b (n ∷ []) []) ≡ cond b (g n) 0
    one true = omega arith
    one false = omega arith

    at : (b : Bool) → sum_by g (filter f (cond b (n ∷ []) [])) ≡ cond b (cond (f n) (g n) 0) 0
    at true = one (f n)
    at false = omega arith

pub ruleset adding_steps = (count_by-below_more, sum_by-below_more, sum_by_filtered_more)
