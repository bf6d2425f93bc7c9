use Rattle.std.proofs.Common.{length, ◌<◌, ◌≡◌, Contains, sym, ap, ◌∙◌, rules, arith, subst}
use Rattle.spec_model.specs.Spec.{SpecValue}
use Rattle.spec_graph.specs.Held.{held_spec}
use Rattle.spec_graph.specs.Refusals.{HasBig}
use Rattle.spec_graph.proofs.Growing.{plan_resource_at, row_added}
use Rattle.spec_graph.proofs.builder.SpecBuilder.resource.Goals as goal

pub invariant_of-self-2 : goal.invariant_of-self-2
invariant_of-self-2 c =
    let objectives : length c.self.inside.held.objectives ≡ length c.args.self.now.objectives = ap (λ (s : SpecValue). length s.objectives) c.self.view_is in
    let new : ¬ Contains c.self.inside.held.resources c.args.name.now = search rules in
    let small : ¬ HasBig c.args.weights.now = search rules in
    let room : length c.self.inside.held.resources < 256 = omega arith in
    let rows = row_added c.self.inside.held.resource_weights.items c.reserve.new.self.items c.push_reserved.new.self.items c.in_ok-weights.weights c.args.weights.now c.reserve.ensures.items
    c.push_reserved.ensures.items c.in_ok-weights.ensures in
    record {
      plan = plan_resource_at (held_spec c.self.inside.held) c.args.name.now c.args.weights.now _ _ c.in_ok-number.ensures.added rows c.self.invariant.plan new
          (c.requires.one_each ∙ sym objectives) small room;
      order = c.self.invariant.order;
      room = c.self.invariant.room;
    }

pub returns-then-contains-clause-refused : goal.returns-then-contains-clause-refused
returns-then-contains-clause-refused c = subst (λ (s : SpecValue). Contains s.resources c.args.name.now) c.self.view_is (c.contains.ensures.0 c.if-contains.true)
