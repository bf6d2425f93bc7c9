use Rattle.evaluators.specs.Marks.{AreChainMarks, AreDepthsBelow}
use Rattle.evaluators.proofs.chains.depths_of.Given as goal

abbrev pub invariant-loop-n : goal.invariant-loop-n
invariant-loop-n l = AreDepthsBelow l.spec l.n l.depths.items × AreChainMarks l.spec l.n l.marks.items
