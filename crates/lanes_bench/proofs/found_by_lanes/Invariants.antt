use Rattle.std.proofs.Common.{◌≡◌, vec_len}
use Rattle.lanes_bench.proofs.found_by_lanes.Given as goal

abbrev pub invariant-loop-place : goal.invariant-loop-place
invariant-loop-place l = l.columns.width ≡ l.task.width

abbrev pub invariant-loop-round : goal.invariant-loop-round
invariant-loop-round l = vec_len l.asked ≡ l.task.width
