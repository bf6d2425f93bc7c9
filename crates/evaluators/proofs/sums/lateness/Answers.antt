use Rattle.std.proofs.Common.{arith}
use Rattle.spec_model.specs.Spec.{bits_of}
use Rattle.evaluators.proofs.Timing.{late_at, late_more}
use Rattle.evaluators.proofs.sums.lateness.Goals as goal

pub loop-i-preserved : goal.loop-i-preserved
loop-i-preserved c =
    let at = late_at c.args.spec.now (bits_of c.args.design.now) c.args.ends.now c.loop-i.i _ _ c.saturating_sub.result c.requires.ends c.deadline-time.ensures.there c.deadline-time.ensures.task
    c.deadline-time.ensures.time c.saturating_sub.ensures in
    late_more c.args.spec.now (bits_of c.args.design.now) c.loop-i.i _ _ _ (omega arith) c.loop-i.invariant at c.max-late.ensures
