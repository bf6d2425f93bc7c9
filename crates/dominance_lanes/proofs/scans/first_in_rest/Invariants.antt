use Rattle.std.proofs.Common.{map, vec_items}
use Rattle.dominance_lanes.specs.Groups.{is_below_at, NoneBetween}
use Rattle.dominance_lanes.proofs.scans.first_in_rest.Given as goal

abbrev pub invariant-loop-k : goal.invariant-loop-k
invariant-loop-k l = NoneBetween (is_below_at (map vec_items l.columns) l.v) l.start l.k
