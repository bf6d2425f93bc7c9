use Rattle.std.proofs.Common.{take}
use Rattle.tgff_reader.specs.Looking.{table_at}
use Rattle.spec_join.specs.Tables.{PlaceBreaks}
use Rattle.spec_join.proofs.Lowest.{IsLeastIn}
use Rattle.spec_join.proofs.joiner.Joiner.places_fault.Given as goal

abbrev pub invariant-loop-place : goal.invariant-loop-place
invariant-loop-place l = IsLeastIn (PlaceBreaks l.self (table_at l.self.tables l.table)) (take l.place-index l.places) l.fault
