use Rattle.spec_graph.proofs.Reading.{few_design, design_is}
use Rattle.spec_graph.proofs.spec.Spec.design_variables.Goals as goal

pub returns-clause-few : goal.returns-clause-few
returns-clause-few c =
    few_design c.args.self.now _ c.facts.ensures (design_is c.args.self.now _ _ _ _ _ c.options.ensures.count c.messages.ensures.count c.arcs.ensures.count c.resources.ensures.count
    c.links.ensures.count)
