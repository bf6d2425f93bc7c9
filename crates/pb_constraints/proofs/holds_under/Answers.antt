use Rattle.std.proofs.Common.{◌<◌, ◌^◌, arith}
use Rattle.pb_rules.proofs.Weights.{true_weight_fits}
use Rattle.pb_rules.specs.Linear.{bits_of, total}
use Rattle.pb_constraints.proofs.holds_under.Goals as goal

pub overflow_add-sum : goal.overflow_add-sum
overflow_add-sum c =
    let h = true_weight_fits (bits_of c.args.values.now) c.terms-terms.result.now c.loop-t.t-index c.t-item.result (omega arith) c.t-item.is in
    let s : total c.terms-terms.result.now < 2 ^ 63 = rw c.terms-terms.ensures.value c.terms-terms.ensures.normal.small in
    omega arith
