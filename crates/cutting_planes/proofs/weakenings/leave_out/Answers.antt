use Rattle.std.proofs.Common.{◌≤◌, ◌⊎◌, inl, inr, arith, length}
use Rattle.cutting_planes.proofs.Weakened.{along_kept, along_missed, along_end}
use Rattle.cutting_planes.proofs.weakenings.leave_out.Goals as goal
use Rattle.cutting_planes.proofs.weakenings.leave_out.Goals.{then-loop-i-test+else-j-vars, else-loop-i-test}

pub loop-i-preserved-then-var-vars : goal.loop-i-preserved-then-var-vars
loop-i-preserved-then-var-vars c =
    let t = c.index-terms-i.result in
    record {
      i = omega (arith, c.loop-i-test.true);
      j = c.loop-i.invariant.j;
      along = along_kept c.args.terms.now c.args.vars.now c.args.degree c.loop-i.i c.loop-i.j c.loop-i.left.degree c.loop-i.left.terms.items c.push.new.self.items t c.requires.rising
          c.loop-i-test.true c.if-j-vars.true c.index-terms-i.is (omega (arith, c.if-var-vars.true, c.var.ensures.value)) c.in_ok-push.ensures.items c.loop-i.invariant.along;
    }

pub loop-i-preserved-then-vars-j : goal.loop-i-preserved-then-vars-j
loop-i-preserved-then-vars-j c = record {
  i = c.loop-i.invariant.i;
  j = omega (arith, c.if-j-vars.true);
  along = along_missed c.args.terms.now c.args.vars.now c.args.degree c.loop-i.i c.loop-i.j c.loop-i.left.degree c.loop-i.left.terms.items c.index-terms-i.result c.requires.normal
      c.loop-i-test.true c.if-j-vars.true c.index-terms-i.is (omega (arith, c.if-vars-j.true, c.var-else-var-vars.ensures.value)) c.loop-i.invariant.along;
}

pub returns : goal.returns
returns c =
    let ts = c.args.terms.now in
    let xs = c.args.vars.now in
    let done : (length ts ≤ c.loop-i.i) ⊎ (length xs ≤ c.loop-i.j) = elim c.loop-i-test.branch [
      | then-loop-i-test+else-j-vars w ↦ inr w.if-j-vars.false
      | else-loop-i-test w ↦
          inl w.loop-i-test.false
    ] in
    along_end ts xs c.args.degree c.loop-i.i c.loop-i.j c.loop-i.left.degree c.loop-i.left.terms.items c.extend_from_slice.new.self.items done c.in_ok-extend_from_slice.ensures.items
    c.loop-i.invariant.along
