use Rattle.std.proofs.Common.{◌≡◌, map, take}
use Rattle.spec_graph.specs.Lists.{task_number}
use Rattle.spec_graph.specs.Merged.{with_all_once}
use Rattle.spec_graph.proofs.gathered.Gathered.add_all.Given as goal

abbrev pub invariant-loop-task : goal.invariant-loop-task
invariant-loop-task l = l.self ≡ with_all_once l.initial.self (take l.task-index (map task_number l.tasks))
