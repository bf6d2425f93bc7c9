use Rattle.std.proofs.Common.{arith}
use Rattle.spec_graph.proofs.Parts.{fold_task}
use Rattle.spec_graph.proofs.gathered.Gathered.add_all.Goals as goal

pub loop-task-preserved : goal.loop-task-preserved
loop-task-preserved c = fold_task c.args.self.now c.args.tasks.now c.loop-task.task-index _ c.loop-task.self c.add.new.self (omega arith) c.loop-task.invariant c.in_ok-add.ensures
