use Rattle.pb_constraints.proofs.Grouping.{any_order_gives}
use Rattle.pb_constraints.proofs.groups.groups_of.Goals as goal

pub returns : goal.returns
returns c =
    any_order_gives c.args.parts.now c.as_slice.result.now c.in_ok-sorted.sorted.items c.grouped.result c.in_ok-sorted.ensures.permutation c.as_slice.ensures.value c.grouped.ensures
