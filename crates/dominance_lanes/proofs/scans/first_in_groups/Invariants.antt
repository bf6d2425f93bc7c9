use Rattle.std.proofs.Common.{◌*◌, map, vec_items}
use Rattle.dominance_lanes.specs.Groups.{is_below_at, NoneBetween}
use Rattle.dominance_lanes.proofs.scans.first_in_groups.Given as goal

abbrev pub invariant-loop-group : goal.invariant-loop-group
invariant-loop-group l = NoneBetween (is_below_at (map vec_items l.columns) l.v) 0 (l.group * 8)
