use Rattle.std.proofs.Common.{◌≡◌, ◌≤◌, ◌-◌, ℕ, None, length, get_or}
use Rattle.trail_state.proofs.grow_values.Given as goal

abbrev pub invariant-loop-values : goal.invariant-loop-values
invariant-loop-values l = record {
  same : (x : ℕ) → get_or l.values.items x None ≡ get_or l.fn.values.items x None;
  longer : length l.fn.values.items ≤ length l.values.items;
}

abbrev pub decreases-loop-values : goal.decreases-loop-values
decreases-loop-values l = l.count - length l.values.items
