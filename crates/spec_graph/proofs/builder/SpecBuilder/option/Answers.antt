use Rattle.std.proofs.Common.{length, ◌<◌, ◌≤◌, ◌^◌, ◌++◌, ◌∷◌, [], ◌≡◌, map, sym, ap, ◌∙◌, subst, rules, arith}
use Rattle.std.proofs.lemmas.List.{map-append, length-map}
use Rattle.spec_model.specs.Spec.{SpecValue, Choice, choice}
use Rattle.spec_graph.specs.Lists.{choice_value}
use Rattle.spec_graph.specs.Held.{held_spec}
use Rattle.spec_graph.specs.Refusals.{HasBig, IsMapped}
use Rattle.spec_graph.proofs.Growing.{plan_option_at, row_added}
use Rattle.spec_graph.proofs.builder.SpecBuilder.option.Goals as goal

pub invariant_of-self-2 : goal.invariant_of-self-2
invariant_of-self-2 c =
    let tasks : length c.self.inside.held.tasks ≡ length c.args.self.now.tasks = ap (λ (s : SpecValue). length s.tasks) c.self.view_is in
    let resources : length c.self.inside.held.resources ≡ length c.args.self.now.resources = ap (λ (s : SpecValue). length s.resources) c.self.view_is in
    let objectives : length c.self.inside.held.objectives ≡ length c.args.self.now.objectives = ap (λ (s : SpecValue). length s.objectives) c.self.view_is in
    let new : ¬ IsMapped (held_spec c.self.inside.held) c.args.task.0 c.args.resource.0 = search rules in
    let small : ¬ HasBig c.args.weights.now = search rules in
    let few : length c.self.inside.held.options < 16384 = omega arith in
    let room : length (held_spec c.self.inside.held).options < 16384 = omega (arith, few, length-map c.self.inside.held.options choice_value) in
    let o : Choice = choice c.args.task.0 c.args.resource.0 c.args.time in
    let time : c.args.time ≤ 2 ^ 40 = omega arith in
    let options : map choice_value c.push.new.self ≡ (held_spec c.self.inside.held).options ++ o ∷ [] = ap (map choice_value) c.in_ok-push.ensures.added
    ∙ map-append choice_value c.self.inside.held.options _ in
    let rows = row_added c.self.inside.held.option_weights.items c.reserve.new.self.items c.push_reserved.new.self.items c.in_ok-weights.weights c.args.weights.now c.reserve.ensures.items
    c.push_reserved.ensures.items c.in_ok-weights.ensures in
    record {
      plan = plan_option_at (held_spec c.self.inside.held) o c.args.weights.now _ _ options rows c.self.invariant.plan
          (record { task = omega (arith, tasks); resource = omega (arith, resources); time = time }) new (c.requires.one_each ∙ sym objectives) small room;
      order =
          c.self.invariant.order;
      room = c.self.invariant.room;
    }

pub returns-then-has-clause-refused : goal.returns-then-has-clause-refused
returns-then-has-clause-refused c = subst (λ (s : SpecValue). IsMapped s c.args.task.0 c.args.resource.0) c.self.view_is (c.has.ensures.0 c.if-has.true)
