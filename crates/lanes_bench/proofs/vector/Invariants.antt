use Rattle.std.proofs.Common.{◌≡◌, vec_len}
use Rattle.lanes_bench.proofs.vector.Given as goal

abbrev pub invariant-loop-column : goal.invariant-loop-column
invariant-loop-column l = vec_len l.numbers ≡ l.column
