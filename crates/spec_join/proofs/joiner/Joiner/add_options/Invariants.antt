use Rattle.std.proofs.Common.{◌≡◌}
use Rattle.tgff_reader.specs.Looking.{table_at}
use Rattle.spec_join.specs.Effects.{with_plan}
use Rattle.spec_join.specs.Tables.{with_made}
use Rattle.spec_join.proofs.joiner.Joiner.add_options.Given as goal

abbrev pub invariant-loop-t : goal.invariant-loop-t
invariant-loop-t l =
    l.self ≡ with_plan l.initial.self (with_made l.initial.self (table_at l.initial.self.tables l.table) l.resource l.keys l.t)
