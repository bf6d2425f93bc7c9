use Rattle.std.proofs.Common.{List, ℕ, ◌-◌, ◌*◌, ap, ◌∙◌, arith}
use Rattle.spec_model.specs.Spec.{SpecValue}
use Rattle.spec_model.specs.Vectors.{weight_in}
use Rattle.spec_graph.proofs.Reading.{option_weight_is, arc_weight_at, resource_weight_at, link_weight_at}
use Rattle.spec_graph.proofs.spec.Spec.weight.Goals as goal

pub returns-then-variable-options-clause-weight : goal.returns-then-variable-options-clause-weight
returns-then-variable-options-clause-weight c =
    let rows = ap (λ (rows : List (List ℕ)). weight_in rows c.args.j c.args.variable) (c.deref.ensures.value ∙ ap (λ (s : SpecValue). s.option_weights) c.self.view_is) in
    option_weight_is c.args.self.now c.args.j c.args.variable c.weight_in.result (omega (arith, c.if-variable-options.true, c.options-options.ensures.count)) (c.weight_in.ensures ∙ rows)

pub returns-then-after-uses-clause-weight : goal.returns-then-after-uses-clause-weight
returns-then-after-uses-clause-weight c =
    arc_weight_at c.args.self.now c.args.j c.args.variable c.options-options.result c.messages.result c.arcs-arcs.result c.arc_weight.result c.options-options.ensures.count
    c.arcs-arcs.ensures.count c.messages.ensures.count (omega arith) (omega arith) c.arc_weight.ensures.weight

pub returns-then-after-resources-clause-weight : goal.returns-then-after-resources-clause-weight
returns-then-after-resources-clause-weight c =
    let place : ℕ = (c.args.variable - c.options-options.result) - c.messages.result * c.arcs-arcs.result in
    let rows = ap (λ (rows : List (List ℕ)). weight_in rows c.args.j place) (c.deref-then-after-resources.ensures.value ∙ ap (λ (s : SpecValue). s.resource_weights) c.self.view_is) in
    resource_weight_at c.args.self.now c.args.j c.args.variable c.options-options.result c.messages.result c.arcs-arcs.result c.resources-resources.result c.weight_in-then-after-resources.result
    c.options-options.ensures.count c.arcs-arcs.ensures.count c.messages.ensures.count c.resources-resources.ensures.count (omega arith) (omega arith) (omega arith)
    (c.weight_in-then-after-resources.ensures ∙ rows)

pub returns-clause-weight : goal.returns-clause-weight
returns-clause-weight c =
    let place : ℕ = ((c.args.variable - c.options-options.result) - c.messages.result * c.arcs-arcs.result) - c.resources-resources.result in
    let rows = ap (λ (rows : List (List ℕ)). weight_in rows c.args.j place) (c.deref-2.ensures.value ∙ ap (λ (s : SpecValue). s.link_weights) c.self.view_is) in
    link_weight_at c.args.self.now c.args.j c.args.variable c.options-options.result c.messages.result c.arcs-arcs.result c.resources-resources.result c.weight_in-2.result
    c.options-options.ensures.count c.arcs-arcs.ensures.count c.messages.ensures.count c.resources-resources.ensures.count (omega arith) (omega arith) (omega arith) c.requires.variable_there
    (c.weight_in-2.ensures ∙ rows)
