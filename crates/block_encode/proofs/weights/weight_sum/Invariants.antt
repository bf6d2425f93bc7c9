use Rattle.block_encode.proofs.Adding.{IsSum}
use Rattle.block_encode.proofs.weights.weight_sum.Given as goal

abbrev pub invariant-loop-x : goal.invariant-loop-x
invariant-loop-x l = IsSum l.spec l.j l.x l.sum
