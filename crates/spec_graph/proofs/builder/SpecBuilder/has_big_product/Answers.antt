use Rattle.std.proofs.Common.{ap, ◌∙◌, map}
use Rattle.spec_model.specs.Spec.{SpecValue}
use Rattle.spec_graph.specs.Lists.{arc_value}
use Rattle.spec_graph.specs.Held.{held_spec}
use Rattle.spec_graph.proofs.Finishing.{links_weighted, product_tells}
use Rattle.spec_graph.proofs.builder.SpecBuilder.has_big_product.Goals as goal

pub has_big_message-requires : goal.has_big_message-requires
has_big_message-requires c =
    links_weighted (held_spec c.self.inside.held) c.deref-2.result.now c.deref-3.result.now c.self.invariant.plan (ap (map arc_value) c.deref-2.ensures.value) c.deref-3.ensures.value

pub returns : goal.returns
returns c = product_tells c.args.self.now c.deref-2.result.now c.deref-3.result.now c.deref.result.now c.has_big_message.result
    (ap (map arc_value) c.deref-2.ensures.value ∙ ap (λ (s : SpecValue). s.arcs) c.self.view_is) (c.deref-3.ensures.value ∙ ap (λ (s : SpecValue). s.traffic_weights) c.self.view_is)
    (c.deref.ensures.value ∙ ap (λ (s : SpecValue). s.messages) c.self.view_is) c.has_big_message.ensures
