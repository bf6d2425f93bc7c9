-- The numbers of variables stay in range.
use Rattle.std.proofs.Common.{◌≡◌, ℕ, zero, suc, ◌+◌, ◌*◌, ◌<◌, ◌≤◌, List, [], length, take, get_or, refl, sym, ap, ◌∙◌, arith}
use Rattle.std.specs.List.{sum_by}
use Rattle.std.proofs.lemmas.List.Sums.{sum_by_more, sum_by-take-le}
use Rattle.std.proofs.lemmas.Nat.{mul-add-lt}
use Rattle.spec_model.specs.Spec.{SpecValue, Message, message_at, further, base, design_variables, all_variables, step_var, covered_var, arc_var, resource_var, link_var}

-- the first message's variables stand behind those of designs
pub base-zero : (s : SpecValue) → base s 0 ≡ design_variables s
unfolding base
base-zero s = omega arith

-- the next message's stand behind those of the one before
pub base_more : (s : SpecValue) (m : ℕ) → m < length s.messages → base s (m + 1) ≡ base s m + further s (message_at s m)
unfolding base
base_more s m h = omega (arith, sum_by_more (further s) s.messages m (record { sender = 0; receivers = []; limit = 0; delay = 0; quantity = 0 }) h)

pub base-le : (s : SpecValue) (m : ℕ) → base s m ≤ all_variables s
unfolding base all_variables
base-le s m = omega (arith, sum_by-take-le (further s) s.messages m)

-- design variables are variables
pub design_variables-le : (s : SpecValue) → design_variables s ≤ all_variables s
unfolding all_variables
design_variables-le s = omega arith

-- the place of a step in its message's variables
pub step_place_lt : (r t n h : ℕ) → r < n → t ≤ h → r * (h + 1) + t < n * (h + 1)
step_place_lt r t n h lr lt = omega (arith, mul-add-lt r (h + 1) t n lr (omega arith))

-- the variable of a step is a variable
pub step_var-lt : (s : SpecValue) (m r t : ℕ) → m < length s.messages → r < length s.resources → t ≤ (message_at s m).limit → step_var s m r t < all_variables s
step_var-lt s m r t hm hr ht =
    omega (arith, step_place_lt r t (length s.resources) (message_at s m).limit hr ht, base_more s m hm, base-le s (m + 1))

-- the variable of a covered resource is one
pub covered_var-lt : (s : SpecValue) (m r : ℕ) → m < length s.messages → r < length s.resources → covered_var s m r < all_variables s
covered_var-lt s m r hm hr = omega (arith, base_more s m hm, base-le s (m + 1))

pub ruleset numbers = (base-zero, base_more, base-le, design_variables-le, step_var-lt, covered_var-lt)
