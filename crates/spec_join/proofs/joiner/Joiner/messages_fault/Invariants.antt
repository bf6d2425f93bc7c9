use Rattle.tgff_reader.specs.Looking.{table_at}
use Rattle.spec_join.specs.Quantities.{MessageBreaks}
use Rattle.spec_join.proofs.Lowest.{IsLeastBelow}
use Rattle.spec_join.proofs.joiner.Joiner.messages_fault.Given as goal

abbrev pub invariant-loop-m : goal.invariant-loop-m
invariant-loop-m l = IsLeastBelow (MessageBreaks l.self (table_at l.self.tables l.table) l.column l.rows) l.m l.fault
