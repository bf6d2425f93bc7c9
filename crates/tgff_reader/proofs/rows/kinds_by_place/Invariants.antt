use Rattle.std.proofs.Common.{◌≡◌, ◌++◌, drop}
use Rattle.tgff_reader.specs.Rows.{kinds_from}
use Rattle.tgff_reader.proofs.rows.kinds_by_place.Given as goal

-- the entries so far, and those of the rows that are left
abbrev pub invariant-loop-place : goal.invariant-loop-place
invariant-loop-place l = l.kinds.items ++ kinds_from l.place (drop l.place l.rows) ≡ kinds_from 0 l.rows
