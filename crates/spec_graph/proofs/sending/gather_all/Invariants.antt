use Rattle.std.proofs.Common.{List, map, take}
use Rattle.spec_model.specs.Spec.{Message}
use Rattle.task_order.specs.Order.{IsOrderOf, IsLed}
use Rattle.spec_graph.specs.Lists.{task_number}
use Rattle.spec_graph.proofs.sending.gather_all.Given as goal

abbrev pub invariant-loop-task : goal.invariant-loop-task
invariant-loop-task l = (ms : List Message) → IsOrderOf l.order ms → IsLed l.set ms (take l.task-index (map task_number l.tasks))
