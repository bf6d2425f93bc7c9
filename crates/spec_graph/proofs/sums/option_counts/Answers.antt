use Rattle.spec_graph.specs.Sums.{options_of_task}
use Rattle.spec_graph.proofs.Mapped.{pushed}
use Rattle.spec_graph.proofs.sums.option_counts.Goals as goal

pub loop-task-preserved : goal.loop-task-preserved
loop-task-preserved c =
    pushed (options_of_task c.args.options.now) c.loop-task.task c.count_options.result c.loop-task.counts.items c.push.new.self.items c.loop-task.invariant c.count_options.ensures
    c.in_ok-push.ensures.items
