use Rattle.std.proofs.Common.{arith}
use Rattle.std.specs.Prelude.{slice_index}
use Rattle.std.proofs.lemmas.Bool.{lt-ltb}
use Rattle.encode_model.specs.Block.{total_weight}
use Rattle.proof_checker.proofs.Places.{first_is, none_is}
use Rattle.proof_checker.proofs.covers.first_above.Goals as goal

pub returns-then-weight_sum-v : goal.returns-then-weight_sum-v
returns-then-weight_sum-v c =
    let s = c.args.spec.now in
    let v = c.args.v.now in
    let j = c.loop-j.j in
    first_is s v j (omega arith) c.loop-j.invariant (lt-ltb (total_weight s j) (slice_index v j) (omega (arith, c.weight_sum.ensures.sum, c.if-weight_sum-v.true)))

pub returns : goal.returns
returns c = none_is c.args.spec.now c.args.v.now c.loop-j.j (omega arith) c.loop-j.invariant
