use Rattle.std.proofs.Common.{sym, ◌∙◌, arith}
use Rattle.spec_model.specs.Spec.{bits_of}
use Rattle.impl_rules.proofs.Adding.{sum_more_true, sum_more_false}
use Rattle.impl_rules.proofs.vector.vector_at.Goals.{then-get, else-get}
use Rattle.impl_rules.proofs.vector.vector_at.Goals as goal

pub overflow_add-sum : goal.overflow_add-sum
overflow_add-sum c = omega (arith, c.weight-sum.ensures.small, c.loop-v.invariant.0)

pub loop-v-preserved : goal.loop-v-preserved
loop-v-preserved c =
    let s = c.args.spec.now in
    let f = bits_of c.args.design.now in
    elim c.if-get.branch [
      | then-get w ↦ sum_more_true s f c.args.j c.loop-v.v c.loop-v.sum c.if-get.sum _ c.loop-v.invariant (sym c.get.ensures ∙ w.if-get.true) w.weight-sum.ensures.weight w.weight-sum.ensures.small
          w.sum-is
      | else-get w ↦ sum_more_false s f c.args.j c.loop-v.v c.loop-v.sum c.if-get.sum c.loop-v.invariant (sym c.get.ensures ∙ w.if-get.false) w.sum-is
    ]

pub returns-clause-small : goal.returns-clause-small
returns-clause-small c = omega (arith, c.loop-v.invariant.0)
