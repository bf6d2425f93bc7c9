use Rattle.task_order.proofs.Sets.{Joining}
use Rattle.task_order.proofs.order.TaskOrder.join.Given as goal

abbrev pub invariant-loop-task : goal.invariant-loop-task
invariant-loop-task l = Joining l.initial.self-inside.rows.items l.sender l.after l.self-inside.rows.items l.task
