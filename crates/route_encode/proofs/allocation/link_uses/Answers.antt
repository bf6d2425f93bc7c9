use Rattle.std.proofs.Common.{length}
use Rattle.spec_model.specs.Rules.{of_link}
use Rattle.route_encode.proofs.Rows.{those_below}
use Rattle.route_encode.proofs.allocation.link_uses.Goals as goal

pub uses-requires-clause-arcs : goal.uses-requires-clause-arcs
uses-requires-clause-arcs c = those_below (of_link c.args.index.now c.args.l) (length c.args.index.now.arcs) _ c.arcs_of-arcs.ensures
