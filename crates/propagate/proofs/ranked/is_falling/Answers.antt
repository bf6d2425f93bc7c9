use Rattle.std.proofs.Common.{arith}
use Rattle.propagate.proofs.Ranking.{falling_none, falling_more, bound_more}
use Rattle.propagate.proofs.ranked.is_falling.Goals as goal

pub loop-t-init : goal.loop-t-init
loop-t-init c = record { falling = falling_none c.args.terms.now; bound = λ k d h. absurd (omega arith) }

pub loop-t-preserved : goal.loop-t-preserved
loop-t-preserved c =
    let ts = c.args.terms.now in
    let k = c.loop-t.t-index in
    let t = c.t-item.result in
    let i = c.loop-t.invariant in
    record {
      falling = falling_more ts k c.loop-t.last t c.loop-t-test.true c.t-item.is i.falling i.bound c.if-t-last.false;
      bound = bound_more ts k c.loop-t.last t c.loop-t-test.true c.t-item.is i.bound c.if-t-last.false;
    }
