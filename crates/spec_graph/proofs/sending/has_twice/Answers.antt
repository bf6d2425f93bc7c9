use Rattle.std.proofs.Common.{arith, sym, ◌∙◌}
use Rattle.spec_graph.proofs.Walking.{seeing_task}
use Rattle.spec_graph.proofs.sending.has_twice.Goals as goal

pub loop-task-preserved : goal.loop-task-preserved
loop-task-preserved c =
    seeing_task c.args.tasks.now c.loop-task.task-index _ c.loop-task.seen c.insert.new.self (omega arith) (sym c.has.ensures ∙ c.if-has.false) c.insert.ensures c.loop-task.invariant
