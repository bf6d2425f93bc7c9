use Rattle.std.proofs.Common.{◌-◌, length}
use Rattle.ordered_solver.specs.Trails.{HasPassed}
use Rattle.ordered_solver.proofs.descent.next_decision.Given as goal

abbrev pub invariant-loop-place : goal.invariant-loop-place
invariant-loop-place l = HasPassed l.order l.place l.trail.entries

abbrev pub decreases-loop-place : goal.decreases-loop-place
decreases-loop-place l = length l.order - l.place
