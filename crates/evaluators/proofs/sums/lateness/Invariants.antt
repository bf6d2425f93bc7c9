use Rattle.std.proofs.Common.{◌≡◌, map, take}
use Rattle.spec_model.specs.Spec.{bits_of}
use Rattle.spec_model.specs.Schedule.{greatest, lateness_for}
use Rattle.evaluators.proofs.sums.lateness.Given as goal

abbrev pub invariant-loop-i : goal.invariant-loop-i
invariant-loop-i l = l.late ≡ greatest (map (lateness_for l.spec (bits_of l.design)) (take l.i l.spec.deadlines))
