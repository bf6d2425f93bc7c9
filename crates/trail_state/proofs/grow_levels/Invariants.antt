use Rattle.std.proofs.Common.{◌≡◌, ◌≤◌, ◌-◌, ℕ, length, get_or}
use Rattle.trail_state.proofs.grow_levels.Given as goal

abbrev pub invariant-loop-levels : goal.invariant-loop-levels
invariant-loop-levels l = record {
  same : (x : ℕ) → get_or l.levels.items x 0 ≡ get_or l.fn.levels.items x 0;
  longer : length l.fn.levels.items ≤ length l.levels.items;
}

abbrev pub decreases-loop-levels : goal.decreases-loop-levels
decreases-loop-levels l = l.count - length l.levels.items
