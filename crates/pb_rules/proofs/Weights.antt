use Rattle.std.proofs.Common.{◌≡◌, ℕ, ◌+◌, ◌<◌, ◌≤◌, Bool, true, false, cond, List, length, get_or, take, arith, subst, sym}
use Rattle.std.proofs.lemmas.List.Sums.{sum_by_more_le_part}
use Rattle.pb_rules.specs.declared.Term.{Term}
use Rattle.pb_rules.specs.Literal.{lit_true}
use Rattle.pb_rules.specs.Linear.{total, true_weight}

cond-le : (b : Bool) (n : ℕ) → cond b n 0 ≤ n
cond-le true n = omega arith
cond-le false n = omega arith

-- the sum so far and the next coefficient are within the total
pub true_weight_fits : (v : ℕ → Bool) (ts : List Term) (i : ℕ) (t : Term) → i < length ts → t ≡ get_or ts i t → true_weight v (take i ts) + t.coef ≤ total ts
true_weight_fits v ts i t h e =
    let m = sum_by_more_le_part (λ (t : Term). cond (lit_true v t.lit) t.coef 0) (λ (t : Term). t.coef) ts i t h (λ t. cond-le (lit_true v t.lit) t.coef) in
    let P : Term → Type 0 = λ u. true_weight v (take i ts) + u.coef ≤ total ts in
    subst P (sym e) m
