use Rattle.std.proofs.Common.{◌≡◌, ◌≤◌, ◌*◌, ◌^◌}
use Rattle.std.specs.List.{sum_by}
use Rattle.spec_model.specs.Spec.{bits_of, below}
use Rattle.spec_model.specs.Schedule.{message_traffic}
use Rattle.evaluators.proofs.sums.hopsum.Given as goal

abbrev pub invariant-loop-m : goal.invariant-loop-m
invariant-loop-m l = (l.sum ≤ l.m * 2 ^ 51) × (l.sum ≡ sum_by (message_traffic l.spec (bits_of l.design)) (below l.m))
