use Rattle.std.proofs.Common.{arith}
use Rattle.front_search.proofs.Steps.{given_next}
use Rattle.front_search.proofs.covering.add_all.Goals as goal

pub loop-c-preserved : goal.loop-c-preserved
loop-c-preserved c =
    let i = c.loop-c.invariant in
    record {
      solver = given_next c.args.solver.now c.loop-c.solver c.add_constraint.new.self c.args.first c.args.constraints.now c.loop-c.c-index c.loop-c.id c.c-item.result (omega arith) c.c-item.is
          i.counted i.solver c.in_ok-add_constraint.ensures.ok;
      counted = omega (arith, i.counted);
    }
