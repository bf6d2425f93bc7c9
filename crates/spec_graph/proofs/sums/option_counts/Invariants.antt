use Rattle.std.proofs.Common.{◌≡◌, map}
use Rattle.spec_model.specs.Spec.{below}
use Rattle.spec_graph.specs.Sums.{options_of_task}
use Rattle.spec_graph.proofs.sums.option_counts.Given as goal

abbrev pub invariant-loop-task : goal.invariant-loop-task
invariant-loop-task l = l.counts.items ≡ map (options_of_task l.options) (below l.task)
