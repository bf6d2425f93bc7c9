use Rattle.std.proofs.Common.{◌≡◌, ◌++◌, map, take, drop, vec_items}
use Rattle.dominance_lanes.specs.Columns.{unmarked}
use Rattle.dominance_lanes.proofs.edits.keep_each.Given as goal

abbrev pub invariant-loop-column : goal.invariant-loop-column
invariant-loop-column l = map vec_items l.columns ≡ map (unmarked l.marks) (take l.column-index (map vec_items l.fn.columns)) ++ drop l.column-index (map vec_items l.fn.columns)
