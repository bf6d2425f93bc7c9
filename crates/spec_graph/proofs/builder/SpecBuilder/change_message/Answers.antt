use Rattle.std.proofs.Common.{◌<◌, length, ap, arith}
use Rattle.spec_model.specs.Spec.{SpecValue}
use Rattle.spec_graph.specs.Held.{held_spec}
use Rattle.spec_graph.proofs.Changing.{changed_at, plan_one_changed, order_one_changed}
use Rattle.spec_graph.proofs.builder.SpecBuilder.change_message.Goals as goal

pub invariant_of-self : goal.invariant_of-self
invariant_of-self c =
    let there : c.args.m.0 < length c.self.inside.held.messages.items = omega (arith, c.requires.there, ap (λ (s : SpecValue). length s.messages) c.self.view_is) in
    let new = changed_at c.self.inside.held.messages.items c.args.m.0 c.args.change c.index_mut-message.result.now c.apply.new.message there c.index_mut-message.ensures.value c.apply.ensures in
    record {
      plan = plan_one_changed (held_spec c.self.inside.held) c.args.change c.args.m.0 _ new there c.requires.small c.self.invariant.plan;
      order = order_one_changed c.self.inside.order c.args.change c.args.m.0 c.self.inside.held.messages.items _ new there c.self.invariant.order;
      room = c.self.invariant.room;
    }
