use Rattle.std.proofs.Common.{arith}
use Rattle.spec_graph.proofs.Walking.{led_task, led_all}
use Rattle.spec_graph.proofs.sending.gather_all.Goals as goal

pub loop-task-preserved : goal.loop-task-preserved
loop-task-preserved c ms o = led_task c.args.order.now c.loop-task.set c.gather.new.set ms c.args.tasks.now c.loop-task.task-index _ (omega arith) o (c.loop-task.invariant ms o) c.gather.ensures

pub returns : goal.returns
returns c ms o = led_all c.loop-task.set ms c.args.tasks.now c.loop-task.task-index (omega arith) (c.loop-task.invariant ms o)
