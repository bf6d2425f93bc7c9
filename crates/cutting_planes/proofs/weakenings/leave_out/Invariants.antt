use Rattle.std.proofs.Common.{length, ◌-◌, ◌+◌, ◌≤◌}
use Rattle.cutting_planes.proofs.Weakened.{IsAlong}
use Rattle.cutting_planes.proofs.weakenings.leave_out.Given as goal

abbrev pub invariant-loop-i : goal.invariant-loop-i
invariant-loop-i l = record {
  i : l.i ≤ length l.terms;
  j : l.j ≤ length l.vars;
  along : IsAlong l.terms l.vars l.initial.left.degree l.i l.j l.left.terms.items l.left.degree;
}

abbrev pub decreases-loop-i : goal.decreases-loop-i
decreases-loop-i l = (length l.terms - l.i) + (length l.vars - l.j)
