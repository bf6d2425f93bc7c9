use Rattle.std.proofs.Common.{List, length, ◌<◌, Contains, sym, ap, subst, rules, arith, length-append, ◌∷◌, []}
use Rattle.spec_model.specs.Spec.{Name, SpecValue}
use Rattle.task_order.proofs.Orders.{order_same}
use Rattle.spec_graph.specs.Held.{held_spec}
use Rattle.spec_model.specs.WellFormed.{IsPlan}
use Rattle.spec_graph.proofs.Growing.{plan_task}
use Rattle.spec_graph.proofs.builder.SpecBuilder.task.Goals as goal

pub invariant_of-self-2 : goal.invariant_of-self-2
invariant_of-self-2 c =
    let new : ¬ Contains c.self.inside.held.tasks c.args.name.now = search rules in
    let free : length c.self.inside.held.tasks < 1024 = omega arith in
    record {
      plan =
          subst (λ (names : List Name). IsPlan (record (held_spec c.self.inside.held) { tasks = names })) (sym c.in_ok-number.ensures.added)
          (plan_task (held_spec c.self.inside.held) c.args.name.now c.self.invariant.plan new free);
      order = order_same c.self.inside.order c.make_room.new.self c.self.inside.held.messages.items c.make_room.ensures.same c.self.invariant.order;
      room = omega (arith, ap length c.in_ok-number.ensures.added, length-append c.self.inside.held.tasks (c.args.name.now ∷ []), c.in_ok-make_room.ensures.room, c.len-number.ensures);
    }

pub returns-then-contains-clause-refused : goal.returns-then-contains-clause-refused
returns-then-contains-clause-refused c = subst (λ (s : SpecValue). Contains s.tasks c.args.name.now) c.self.view_is (c.contains.ensures.0 c.if-contains.true)
