use Rattle.std.proofs.Common.{◌≡◌, ◌≤◌, length, sym, ap, ◌∙◌, subst, arith, inl, inr, Contains}
use Rattle.spec_model.specs.Spec.{SpecValue}
use Rattle.spec_model.specs.WellFormed.{IsPlan}
use Rattle.task_order.specs.Order.{IsOrderOf}
use Rattle.spec_graph.specs.Held.{held_spec}
use Rattle.spec_graph.specs.Plan.{with_link}
use Rattle.spec_graph.specs.Refusals.{IsLinkAccepted}
use Rattle.spec_graph.proofs.Adding.{plan_link}
use Rattle.spec_graph.proofs.builder.SpecBuilder.link.Goals as goal

pub add_link-requires-clause-new : goal.add_link-requires-clause-new
add_link-requires-clause-new c = subst (λ (s : SpecValue). ¬ Contains s.links c.args.name.now) (sym c.self.view_is) c.in_default.ensures.once

pub invariant_of-self-2 : goal.invariant_of-self-2
invariant_of-self-2 c =
    let old : SpecValue = held_spec c.self.inside.held in
    let fine : IsLinkAccepted old c.args.name.now c.args.a.0 c.args.b.0 c.args.weights.now c.args.traffic.now
    = subst (λ (s : SpecValue). IsLinkAccepted s c.args.name.now c.args.a.0 c.args.b.0 c.args.weights.now c.args.traffic.now) (sym c.self.view_is) c.in_default.ensures in
    let new : held_spec c.add_link.new.self ≡ with_link old c.args.name.now c.args.a.0 c.args.b.0 c.args.two_way c.args.weights.now c.args.traffic.now = c.in_ok-add_link.ensures.added in
    let resources : length old.resources ≡ length c.args.self.now.resources = ap (λ (s : SpecValue). length s.resources) c.self.view_is in
    let objectives : length c.args.self.now.objectives ≡ length old.objectives = sym (ap (λ (s : SpecValue). length s.objectives) c.self.view_is) in
    record {
      plan = subst IsPlan (sym new) (plan_link old c.args.name.now c.args.a.0 c.args.b.0 c.args.two_way c.args.weights.now c.args.traffic.now c.self.invariant.plan fine.once
          (omega (arith, resources, c.requires.a_there)) (omega (arith, resources, c.requires.b_there)) fine.apart (c.requires.one_each ∙ objectives) (λ big. fine.small (inl big))
          (c.requires.traffic_one_each ∙ objectives) (λ big. fine.small (inr big)) fine.room);
      order = subst (λ (s : SpecValue). IsOrderOf c.self.inside.order s.messages) (sym new) c.self.invariant.order;
      room = subst (λ (s : SpecValue). length s.tasks ≤ length c.self.inside.order) (sym new) c.self.invariant.room;
    }
