use Rattle.std.proofs.Common.{◌≡◌, ◌++◌, take, map}
use Rattle.graph_plan.specs.Graphs.{task_in}
use Rattle.graph_plan.proofs.graphs.add_tasks.Given as goal

abbrev pub invariant-loop-task : goal.invariant-loop-task
invariant-loop-task l = l.plan ≡ record l.initial.plan { tasks = l.initial.plan.tasks ++ map (task_in l.graph.index) (take l.task-index l.tasks) }
