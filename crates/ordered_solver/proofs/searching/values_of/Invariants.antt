use Rattle.std.proofs.Common.{◌≡◌, ℕ, Bool, false, Some, ◌<◌, length, get_or}
use Rattle.trail_state.specs.Trail.{value_in}
use Rattle.ordered_solver.proofs.searching.values_of.Given as goal

abbrev pub invariant-loop-x : goal.invariant-loop-x
invariant-loop-x l = record {
  one_each : length l.values.items ≡ l.x;
  each : (y : ℕ) (b : Bool) → y < l.x → value_in l.trail.entries y ≡ Some b → get_or l.values.items y false ≡ b;
}
