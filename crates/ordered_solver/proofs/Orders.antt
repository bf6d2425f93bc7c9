-- An order has each variable once.
use Rattle.std.proofs.Common.{◌≡◌, ℕ, ◌<◌, List, length, get_or, map, sym, ◌∙◌, arith}
use Rattle.std.specs.Prelude.{All, Contains}
use Rattle.std.specs.List.{range_with_len}
use Rattle.std.proofs.lemmas.List.{get_or-map, length-map}
use Rattle.std.proofs.lemmas.List.FromFn.{get_or-range_with_len, length-range_with_len}
use Rattle.std.proofs.lemmas.List.Sorted.{All-permutation, Contains-permutation}
use Rattle.pb_rules.specs.Literal.{Literal}
use Rattle.variable_order.specs.Order.{var_of, IsOrder}
use Rattle.ordered_solver.specs.Trails.{IsVarBelow, Covers}

abbrev IsLess : ℕ → ℕ → Type 0
IsLess n x = x < n

pub order_below : (order : List Literal) (n : ℕ) → IsOrder order → length order ≡ n → All (IsVarBelow n) order
order_below order n o e k d h =
    let m : ℕ = length order in
    let numbers : All (IsLess m) (range_with_len 0 m) = λ i x l.
    (let len = length-range_with_len 0 m in
    let at = get_or-range_with_len 0 m i x (omega arith) in
    omega arith) in
    let all = All-permutation (IsLess m) (range_with_len 0 m) (map var_of order) o numbers in
    let len : length (map var_of order) ≡ m = length-map order var_of in
    let at : get_or (map var_of order) k d.var ≡ (get_or order k d).var = get_or-map var_of order k d d.var h in
    let below = all k d.var (omega arith) in
    omega arith

pub order_covers : (order : List Literal) (n : ℕ) → IsOrder order → length order ≡ n → Covers order n
order_covers order n o e x h =
    let m : ℕ = length order in
    let len = length-range_with_len 0 m in
    let there : Contains (range_with_len 0 m) x = (x, omega arith, get_or-range_with_len 0 m x x (omega arith) ∙ omega arith) in
    let r = Contains-permutation (range_with_len 0 m) (map var_of order) x o there in
    let len' : length (map var_of order) ≡ m = length-map order var_of in
    let lt : r.0 < length order = omega (arith, r.1) in
    (r.0, lt, λ d. sym (get_or-map var_of order r.0 d x lt) ∙ r.2)
