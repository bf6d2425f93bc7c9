use Rattle.std.proofs.Common.{◌+◌, sym, subst, arith}
use Rattle.evaluators.specs.Marks.{AreChainMarks, AreDepthsBelow}
use Rattle.evaluators.proofs.Deepening.{chains_more, depths_more, depths_end, written}
use Rattle.evaluators.proofs.chains.depths_of.Goals as goal

pub loop-n-preserved : goal.loop-n-preserved
loop-n-preserved c =
    let s = c.args.spec.now in
    let n = c.loop-n.n in
    let chains = subst (AreChainMarks s n) (sym c.deref.ensures.value) c.loop-n.invariant.1 in
    let chains-2 = subst (AreChainMarks s n) (sym c.deref-in-loop-n.ensures.value) c.loop-n.invariant.1 in
    let before = subst (AreDepthsBelow s n) (sym c.deref_mut.ensures.value) c.loop-n.invariant.0 in
    let more : AreDepthsBelow s (n + 1) c.deepen.new.depths = depths_more s c.deref.result.now c.deref_mut.result.now c.deepen.new.depths n chains before c.deepen.ensures.len
    c.deepen.ensures.marked in (
      subst (AreDepthsBelow s (n + 1)) (sym (written c.deepen.new.depths _ _ (omega (arith, c.deepen.ensures.len, c.deref_mut.ensures.len)))) more,
      chains_more s c.deref-in-loop-n.result.now c.in_ok-marks-2.marks.items n c.facts.ensures chains-2 c.in_ok-marks-2.ensures.each c.in_ok-marks-2.ensures.marked,
    )

pub returns : goal.returns
returns c = depths_end c.args.spec.now c.loop-n.depths.items c.loop-n.n (omega arith) c.loop-n.invariant.0
