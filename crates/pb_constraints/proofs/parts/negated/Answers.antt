use Rattle.std.proofs.Common.{arith, ap}
use Rattle.std.proofs.lemmas.Int.{ints}
use Rattle.pb_constraints.specs.SignedSums.{on_negated}
use Rattle.pb_constraints.proofs.IntegerSums.{sum_z_more}
use Rattle.pb_constraints.proofs.parts.negated.Goals as goal

pub loop-p-preserved : goal.loop-p-preserved
loop-p-preserved c =
    let e = sum_z_more on_negated c.args.parts.now c.loop-p.p-index c.p-item.result (omega arith) in
    let i = ap on_negated c.p-item.is in
    (omega (arith, ints, e, i), omega (arith, ints), omega (arith, ints))
