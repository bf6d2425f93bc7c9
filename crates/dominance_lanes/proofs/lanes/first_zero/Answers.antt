use Rattle.dominance_lanes.proofs.OneGroup.{first_zero_is}
use Rattle.dominance_lanes.proofs.lanes.first_zero.Goals as goal

pub returns : goal.returns
returns c = first_zero_is c.args.lanes c.first_set.result c.requires c.first_set.ensures
