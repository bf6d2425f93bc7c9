use Rattle.std.proofs.Common.{take, All}
use Rattle.spec_join.proofs.Keys.{IsOther}
use Rattle.spec_join.proofs.table_faults.column_of.Given as goal

abbrev pub invariant-loop-word : goal.invariant-loop-word
invariant-loop-word l = All (IsOther l.key) (take l.word-index l.keys)
