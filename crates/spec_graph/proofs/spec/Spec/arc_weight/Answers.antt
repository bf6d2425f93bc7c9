use Rattle.std.proofs.Common.{List, ℕ, ap, ◌∙◌}
use Rattle.spec_model.specs.Spec.{SpecValue}
use Rattle.spec_model.specs.Vectors.{weight_in}
use Rattle.spec_graph.proofs.Reading.{arc_weight_is}
use Rattle.spec_graph.proofs.spec.Spec.arc_weight.Goals as goal

pub returns-clause-weight : goal.returns-clause-weight
returns-clause-weight c =
    let rows = ap (λ (rows : List (List ℕ)). weight_in rows c.args.j c.arc.result.link.0) (c.deref.ensures.value ∙ ap (λ (s : SpecValue). s.traffic_weights) c.self.view_is) in
    arc_weight_is c.args.self.now c.args.j c.args.m.0 c.args.a.0 c.arc.result.link.0 c.quantity.result c.weight_in.result c.arc.ensures.link c.quantity.ensures.quantity (c.weight_in.ensures ∙ rows)
