use Rattle.std.proofs.Common.{map}
use Rattle.spec_graph.specs.Lists.{task_number}
use Rattle.spec_graph.proofs.Walking.{Seeing}
use Rattle.spec_graph.proofs.sending.has_twice.Given as goal

abbrev pub invariant-loop-task : goal.invariant-loop-task
invariant-loop-task l = Seeing (map task_number l.tasks) l.task-index l.seen
