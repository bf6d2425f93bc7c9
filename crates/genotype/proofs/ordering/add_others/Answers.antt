use Rattle.std.proofs.Common.{length, arith}
use Rattle.genotype.proofs.Placing.{others_step}
use Rattle.genotype.proofs.ordering.add_others.Goals as goal

pub loop-var-preserved : goal.loop-var-preserved
loop-var-preserved c =
    let old = c.args.literals.now in
    let kept = c.loop-var.invariant in
    (others_step old.items c.loop-var.literals.items c.push.new.self.items c.no.result (length old.items) c.loop-var.var kept.0 c.in_ok-push.ensures.items c.no.ensures kept.1, omega arith)
