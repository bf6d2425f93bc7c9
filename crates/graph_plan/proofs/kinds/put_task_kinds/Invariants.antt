use Rattle.std.proofs.Common.{◌≡◌, ◌++◌, take, map}
use Rattle.graph_plan.specs.Graphs.{kind_of_task}
use Rattle.graph_plan.proofs.kinds.put_task_kinds.Given as goal

abbrev pub invariant-loop-task : goal.invariant-loop-task
invariant-loop-task l = l.kinds.items ≡ l.initial.kinds.items ++ map kind_of_task (take l.task-index l.tasks)
