use Rattle.std.proofs.Common.{◌≡◌, ◌-◌, ◌+◌, ℕ, length, get_or}
use Rattle.ordered_solver.proofs.descent.first_places.Given as goal

abbrev pub invariant-loop-places : goal.invariant-loop-places
invariant-loop-places l = (n : ℕ) → get_or l.places.items n 0 ≡ 0

abbrev pub decreases-loop-places : goal.decreases-loop-places
decreases-loop-places l = l.variables + 1 - length l.places.items
