use Rattle.std.proofs.Common.{arith}
use Rattle.pb_rules.proofs.Merges.{total_more}
use Rattle.cutting_planes.proofs.terms.coefficient_sum.Goals as goal

pub overflow_add-sum : goal.overflow_add-sum
overflow_add-sum c = let m = total_more c.args.terms.now c.loop-t.t-index c.t-item.result c.loop-t-test.true c.t-item.is in let e = m.1 in omega arith
