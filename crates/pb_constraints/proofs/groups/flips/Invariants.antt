use Rattle.std.proofs.Common.{◌≡◌, ◌≤◌, take, sum_by}
use Rattle.pb_constraints.specs.Groups.{magnitude, flipped}
use Rattle.pb_constraints.proofs.groups.flips.Given as goal

abbrev pub invariant-loop-g : goal.invariant-loop-g
invariant-loop-g l = (l.sum ≡ sum_by flipped (take l.g-index l.groups)) × (l.sum ≤ sum_by magnitude (take l.g-index l.groups))
