use Rattle.std.proofs.Common.{◌+◌, refl}
use Rattle.block_encode.proofs.Adding.{IsSum-more}
use Rattle.block_encode.proofs.weights.weight_sum.Goals as goal

pub loop-x-preserved : goal.loop-x-preserved
loop-x-preserved c =
    IsSum-more c.args.spec.now c.args.j c.loop-x.x c.loop-x.sum (c.loop-x.sum + c.weight-sum.result) c.weight-sum.result c.loop-x.invariant c.weight-sum.ensures.weight c.weight-sum.ensures.small refl
