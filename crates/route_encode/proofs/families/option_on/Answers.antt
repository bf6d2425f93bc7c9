use Rattle.route_encode.proofs.Rows.{option_on_is}
use Rattle.route_encode.proofs.families.option_on.Goals as goal

pub returns : goal.returns
returns c = option_on_is c.args.index.now c.args.t c.args.r c.options_of-options.result.now c.in_ok-found.found.items (c.in_ok-found.ensures {u = tt}) c.options_of-options.ensures
