use Rattle.std.proofs.Common.{◌≡◌}
use Rattle.decode_bench.proofs.of_one.Given as goal

abbrev pub invariant-loop-name : goal.invariant-loop-name
invariant-loop-name g l = l.decoder.spec ≡ l.spec
