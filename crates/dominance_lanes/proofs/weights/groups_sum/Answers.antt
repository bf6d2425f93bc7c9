use Rattle.std.proofs.Common.{arith, ◌*◌}
use Rattle.dominance_lanes.proofs.WeightedSums.{group_step, group_next, left_fits}
use Rattle.dominance_lanes.proofs.weights.groups_sum.Goals as goal

pub overflow_add-total : goal.overflow_add-total
overflow_add-total c = left_fits _ _ _ _ _ c.requires.bits c.requires.small (group_step c.loop-group.total c.group_sum-total.result (c.loop-group.group * 8) c.args.bits.now c.args.weights.now
    c.requires.same (omega arith) c.group_sum-total.ensures c.loop-group.invariant)

pub loop-group-preserved : goal.loop-group-preserved
loop-group-preserved c =
    group_next c.loop-group.total c.group_sum-total.result c.loop-group.group c.args.bits.now c.args.weights.now c.requires.same (omega arith) c.group_sum-total.ensures c.loop-group.invariant
