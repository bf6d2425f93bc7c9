use Rattle.std.proofs.Common.{◌≡◌, map}
use Rattle.spec_model.specs.Spec.{bits_of, below}
use Rattle.spec_model.specs.Schedule.{greatest, busy_time}
use Rattle.evaluators.proofs.sums.peakload.Given as goal

abbrev pub invariant-loop-r : goal.invariant-loop-r
invariant-loop-r l = l.peak ≡ greatest (map (busy_time l.spec (bits_of l.design)) (below l.r))
