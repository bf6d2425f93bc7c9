use Rattle.std.proofs.Common.{◌≡◌, map, take, vec_items}
use Rattle.dominance_lanes.specs.Groups.{with_row}
use Rattle.dominance_lanes.proofs.edits.push_row.Given as goal

abbrev pub invariant-loop-j : goal.invariant-loop-j
invariant-loop-j l = map vec_items l.columns ≡ with_row (map vec_items l.fn.columns) (take l.j l.v)
