use Rattle.std.proofs.Common.{◌≡◌, map, true, vec_items}
use Rattle.dominance_lanes.specs.Columns.{row_at}
use Rattle.dominance_lanes.specs.Groups.{is_at_most_to}
use Rattle.dominance_lanes.proofs.places.is_above.Given as goal

abbrev pub invariant-loop-j : goal.invariant-loop-j
invariant-loop-j l = is_at_most_to l.j l.v (row_at (map vec_items l.columns) l.k) ≡ true
