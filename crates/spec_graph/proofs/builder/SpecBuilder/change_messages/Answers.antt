use Rattle.spec_graph.specs.Held.{held_spec}
use Rattle.spec_graph.specs.Changes.{changed}
use Rattle.spec_graph.proofs.Finishing.{put_back}
use Rattle.spec_graph.proofs.Changing.{plan_all_changed, order_all_changed}
use Rattle.spec_graph.proofs.builder.SpecBuilder.change_messages.Goals as goal

pub invariant_of-self : goal.invariant_of-self
invariant_of-self c =
    let new = put_back (changed c.args.change) c.self.inside.held.messages.items c.apply_to_all.new.messages c.deref_mut.result.now c.self.inside.held.messages.len c.self.inside.held.messages.ok.0
    c.deref_mut.ensures.value c.apply_to_all.ensures in
    record {
      plan = plan_all_changed (held_spec c.self.inside.held) c.args.change _ new c.requires c.self.invariant.plan;
      order = order_all_changed c.self.inside.order c.args.change c.self.inside.held.messages.items _ new c.self.invariant.order;
      room = c.self.invariant.room;
    }
