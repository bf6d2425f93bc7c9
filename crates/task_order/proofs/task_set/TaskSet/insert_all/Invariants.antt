use Rattle.task_order.proofs.Sets.{Merging}
use Rattle.task_order.proofs.task_set.TaskSet.insert_all.Given as goal

abbrev pub invariant-loop-task : goal.invariant-loop-task
invariant-loop-task l = Merging l.initial.self-inside.bits.items l.other l.self-inside.bits.items l.task
