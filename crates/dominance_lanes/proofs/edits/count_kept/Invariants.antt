use Rattle.std.proofs.Common.{◌≡◌, take, count_by, not}
use Rattle.dominance_lanes.proofs.edits.count_kept.Given as goal

abbrev pub invariant-loop-mark : goal.invariant-loop-mark
invariant-loop-mark l = l.kept ≡ count_by not (take l.mark-index l.marks)
