use Rattle.tgff_reader.specs.Looking.{table_at}
use Rattle.spec_join.specs.Tables.{TaskBreaks}
use Rattle.spec_join.proofs.Lowest.{IsLeastBelow}
use Rattle.spec_join.proofs.joiner.Joiner.tasks_fault.Given as goal

abbrev pub invariant-loop-t : goal.invariant-loop-t
invariant-loop-t l = IsLeastBelow (TaskBreaks l.self (table_at l.self.tables l.table) l.keys) l.t l.fault
