use Rattle.std.proofs.Common.{take}
use Rattle.tgff_reader.specs.Looking.{table_at, row_at}
use Rattle.spec_join.specs.Tables.{KeyBreaks}
use Rattle.spec_join.proofs.Lowest.{IsLeastIn}
use Rattle.spec_join.proofs.joiner.Joiner.keys_fault.Given as goal

abbrev pub invariant-loop-key : goal.invariant-loop-key
invariant-loop-key l = IsLeastIn (KeyBreaks l.self (row_at (table_at l.self.tables l.table) l.row)) (take l.key-index l.keys) l.fault
