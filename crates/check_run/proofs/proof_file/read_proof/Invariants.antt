use Rattle.std.proofs.Common.{◌-◌, ◌≡◌, ◌≤◌, length, IfSome}
use Rattle.desk_io.specs.Files.{content}
use Rattle.check_run.specs.Taking.{IsReadTo}
use Rattle.check_run.proofs.proof_file.read_proof.Given as goal

-- the bytes up to a place are taken, and the desk is as it was
abbrev pub invariant-loop-at : goal.invariant-loop-at
invariant-loop-at g l = IsReadTo (g.D.Desk.files l.fn.desk) l.name l.at l.fn.checker l.lines
    × (l.at ≤ l.len)
    × IfSome (g.D.Desk.files l.fn.desk) (λ all. l.len ≡ length (content all l.name))
    × (g.D.Desk.files l.desk ≡ g.D.Desk.files l.fn.desk)
    × (g.D.Desk.said l.desk ≡ g.D.Desk.said l.fn.desk)
    × (g.D.Desk.faults l.desk ≡ g.D.Desk.faults l.fn.desk)

abbrev pub decreases-loop-at : goal.decreases-loop-at
decreases-loop-at g l = l.len - l.at
