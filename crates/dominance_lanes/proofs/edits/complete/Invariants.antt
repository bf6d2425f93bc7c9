use Rattle.std.proofs.Common.{◌≡◌, ◌≤◌, ◌-◌, ◌++◌, [], map, replicate, vec_len, vec_items}
use Rattle.dominance_lanes.proofs.edits.complete.Given as goal

abbrev pub invariant-loop-alloc : goal.invariant-loop-alloc
invariant-loop-alloc l = record {
  more : map vec_items l.columns.items ≡ map vec_items l.fn.columns.items ++ replicate (vec_len l.columns - vec_len l.fn.columns) [];
  longer : vec_len l.fn.columns ≤ vec_len l.columns;
  bound : vec_len l.columns ≤ l.width;
}

abbrev pub decreases-loop-alloc : goal.decreases-loop-alloc
decreases-loop-alloc l = l.width - vec_len l.columns
