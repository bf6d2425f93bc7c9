use Rattle.std.proofs.Common.{◌≡◌, length}
use Rattle.trail_state.proofs.Trail.clear.Given as goal

abbrev pub invariant-loop-self : goal.invariant-loop-self
invariant-loop-self l = l.self.variables ≡ l.initial.self.variables

abbrev pub decreases-loop-self : goal.decreases-loop-self
decreases-loop-self l = length l.self.entries
