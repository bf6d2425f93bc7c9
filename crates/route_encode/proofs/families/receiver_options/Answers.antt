use Rattle.route_encode.proofs.Rows.{receiver_options_are}
use Rattle.route_encode.proofs.families.receiver_options.Goals as goal

pub returns : goal.returns
returns c = receiver_options_are c.args.index.now c.args.m c.args.r c.options_on-options.result.now c.in_ok-found.found.items (c.in_ok-found.ensures {u = tt}) c.options_on-options.ensures
