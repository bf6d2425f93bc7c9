use Rattle.std.proofs.Common.{ap, ◌∙◌}
use Rattle.spec_model.specs.Spec.{SpecValue}
use Rattle.spec_graph.proofs.Finishing.{finished_variables_is}
use Rattle.spec_graph.proofs.builder.SpecBuilder.finished_variables.Goals as goal

pub returns : goal.returns
returns c = finished_variables_is c.args.self.now _ _ _ _ _ _ _ c.deref.result.now c.options.ensures.count c.messages.ensures.count c.arcs.ensures.count c.resources-resources.ensures.count
    c.links.ensures.count c.most_hops.ensures.most (c.deref.ensures.value ∙ ap (λ (s : SpecValue). s.messages) c.self.view_is) c.sum_further.ensures.sum
