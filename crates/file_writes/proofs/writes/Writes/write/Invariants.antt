use Rattle.std.proofs.Common.{◌≡◌, map, take}
use Rattle.file_writes.specs.Writes.{AreWritten, Leaves, file_of}
use Rattle.file_writes.proofs.writes.Writes.write.Given as goal

-- the files so far were written, and no call failed
abbrev pub invariant-loop-write : goal.invariant-loop-write
invariant-loop-write g l = Leaves (g.D.Desk.files l.fn.desk) (g.D.Desk.files l.desk) (AreWritten (map file_of (take l.write-index l.write-items)))
    × (g.D.Desk.said l.desk ≡ g.D.Desk.said l.fn.desk)
    × (g.D.Desk.faults l.desk ≡ g.D.Desk.faults l.fn.desk)
