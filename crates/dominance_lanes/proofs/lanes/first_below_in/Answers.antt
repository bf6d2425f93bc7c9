use Rattle.std.proofs.Common.{map, vec_items}
use Rattle.dominance_lanes.specs.Groups.{is_below_at}
use Rattle.dominance_lanes.proofs.OneGroup.{first_in_group}
use Rattle.dominance_lanes.proofs.lanes.first_below_in.Goals as goal

pub returns-then-first-lt-LANES : goal.returns-then-first-lt-LANES
returns-then-first-lt-LANES c =
    first_in_group (is_below_at (map vec_items c.args.columns.now) c.args.v.now) c.not_below.result c.args.at c.first_zero-first.result c.not_below.ensures.each c.first_zero-first.ensures
    c.if-first-lt-LANES.true
