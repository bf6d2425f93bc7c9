use Rattle.std.proofs.Common.{◌≡◌}
use Rattle.spec_join.proofs.QuantityLines.{set_first}
use Rattle.spec_join.proofs.joiner.Joiner.set_quantities.Given as goal

abbrev pub invariant-loop-m : goal.invariant-loop-m
invariant-loop-m l = l.self ≡ set_first l.initial.self l.table l.column l.rows l.m
