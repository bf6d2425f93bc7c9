use Rattle.std.proofs.Common.{List, length, ◌<◌, Contains, sym, ap, ◌∙◌, subst, rules, arith}
use Rattle.spec_model.specs.Spec.{Name, SpecValue}
use Rattle.spec_graph.specs.Held.{held_spec}
use Rattle.spec_model.specs.WellFormed.{IsPlan}
use Rattle.spec_graph.proofs.Adding.{plan_objective}
use Rattle.spec_graph.proofs.builder.SpecBuilder.objective.Goals as goal

pub invariant_of-self-2 : goal.invariant_of-self-2
invariant_of-self-2 c =
    let new : ¬ Contains c.self.inside.held.objectives c.args.name.now = search rules in
    let free : length c.self.inside.held.objectives < 8 = omega arith in
    let resources = ap (λ (s : SpecValue). length s.resources) c.self.view_is ∙ c.requires.no_resource in
    let links = ap (λ (s : SpecValue). length s.links) c.self.view_is ∙ c.requires.no_link in
    let options = ap (λ (s : SpecValue). length s.options) c.self.view_is ∙ c.requires.no_option in
    record {
      plan = subst (λ (names : List Name). IsPlan (record (held_spec c.self.inside.held) { objectives = names })) (sym c.in_ok-add.ensures.added)
          (plan_objective (held_spec c.self.inside.held) c.args.name.now c.self.invariant.plan new resources links options free);
      order = c.self.invariant.order;
      room = c.self.invariant.room;
    }

pub returns-then-contains-clause-refused : goal.returns-then-contains-clause-refused
returns-then-contains-clause-refused c = subst (λ (s : SpecValue). Contains s.objectives c.args.name.now) c.self.view_is (c.contains.ensures.0 c.if-contains.true)
