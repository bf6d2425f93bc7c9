use Rattle.std.proofs.Common.{◌≡◌}
use Rattle.file_writes.proofs.Filling.{IsFilled}
use Rattle.file_writes.proofs.pieces.put_proof.Given as goal

-- the file and the piece are the text of the lines so far, and no call failed
abbrev pub invariant-loop-i : goal.invariant-loop-i
invariant-loop-i g l = IsFilled (g.D.Desk.files l.fn.desk) (g.D.Desk.files l.desk) l.name l.log.lines l.i l.piece.items
    × (g.D.Desk.said l.desk ≡ g.D.Desk.said l.fn.desk)
    × (g.D.Desk.faults l.desk ≡ g.D.Desk.faults l.fn.desk)
