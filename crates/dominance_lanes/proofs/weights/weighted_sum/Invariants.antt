use Rattle.std.proofs.Common.{◌≡◌, ◌+◌, drop}
use Rattle.dominance_lanes.specs.Weighted.{weighted}
use Rattle.dominance_lanes.proofs.weights.weighted_sum.Given as goal

abbrev pub invariant-loop-k : goal.invariant-loop-k
invariant-loop-k l = l.total + weighted (drop l.k l.bits) (drop l.k l.weights) ≡ weighted l.bits l.weights
