-- What a builder's fields keep.
use Rattle.std.specs.Prelude.{◌≤◌, length}
use Rattle.spec_model.specs.WellFormed.{IsPlan}
use Rattle.task_order.specs.Order.{IsOrderOf}
use Rattle.spec_graph.specs.Held.{held_spec}
use Rattle.spec_graph.specs.declared.builder.SpecBuilder.TheInside.{Inside}

-- the lists state a plan, and the order is that of its tasks
pub record HoldsPlan (b : Inside) : Type 0 where
  pub plan : IsPlan (held_spec b.held)
  pub order : IsOrderOf b.order b.held.messages.items
  pub room : length b.held.tasks ≤ length b.order
