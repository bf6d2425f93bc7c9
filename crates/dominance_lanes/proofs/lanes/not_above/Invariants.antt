use Rattle.std.proofs.Common.{◌≡◌, ℕ, ◌+◌, ◌<◌, length, map, get_or, eqb, vec_items}
use Rattle.dominance_lanes.specs.Columns.{row_at}
use Rattle.dominance_lanes.specs.Groups.{is_at_most_to}
use Rattle.dominance_lanes.proofs.lanes.not_above.Given as goal

abbrev pub invariant-loop-j : goal.invariant-loop-j
invariant-loop-j l = record {
  lanes : length l.lanes ≡ 8;
  each : (i : ℕ) → i < 8 → eqb (get_or l.lanes i 0) 0 ≡ is_at_most_to l.j l.v (row_at (map vec_items l.columns) (l.at + i));
}
