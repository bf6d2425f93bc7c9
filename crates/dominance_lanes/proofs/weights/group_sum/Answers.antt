use Rattle.dominance_lanes.proofs.WeightedSums.{group_fits, group_sum_fits, group_sum_is}
use Rattle.dominance_lanes.proofs.weights.group_sum.Goals as goal

pub overflow_mul-result : goal.overflow_mul-result
overflow_mul-result c = group_fits c.args.at c.args.bits.now c.args.weights.now c.requires.bits c.type_inv.weights

pub overflow_add-result : goal.overflow_add-result
overflow_add-result c = group_sum_fits c.args.at c.args.bits.now c.args.weights.now c.requires.bits c.requires.small

pub returns : goal.returns
returns c = group_sum_is c.args.at c.args.bits.now c.args.weights.now
