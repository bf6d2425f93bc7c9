use Rattle.std.proofs.Common.{◌≡◌, ◌*◌, ◌≤◌, ◌^◌, take, sum_by}
use Rattle.spec_graph.specs.Sums.{count_at}
use Rattle.spec_graph.proofs.sums.sum_counts.Given as goal

abbrev pub invariant-loop-task : goal.invariant-loop-task
invariant-loop-task l = record {
  sum : l.sum ≡ sum_by (count_at l.counts) (take l.task-index l.tasks);
  small : l.sum ≤ l.task-index * 2 ^ 14;
}
