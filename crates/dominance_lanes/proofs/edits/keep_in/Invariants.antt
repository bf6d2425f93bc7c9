use Rattle.std.proofs.Common.{◌≡◌, ◌≤◌, vec_len}
use Rattle.dominance_lanes.proofs.ColumnEdits.{IsKept}
use Rattle.dominance_lanes.proofs.edits.keep_in.Given as goal

abbrev pub invariant-loop-k : goal.invariant-loop-k
invariant-loop-k l = record {
  within : l.kept ≤ l.k;
  same_len : vec_len l.column ≡ vec_len l.fn.column;
  parts : IsKept l.marks l.fn.column.items l.column.items l.k l.kept;
}
