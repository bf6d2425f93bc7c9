use Rattle.std.proofs.Common.{◌≡◌, ◌+◌, ◌*◌, drop}
use Rattle.dominance_lanes.specs.Weighted.{weighted}
use Rattle.dominance_lanes.proofs.weights.groups_sum.Given as goal

abbrev pub invariant-loop-group : goal.invariant-loop-group
invariant-loop-group l = l.total + weighted (drop (l.group * 8) l.bits) (drop (l.group * 8) l.weights) ≡ weighted l.bits l.weights
