use Rattle.std.proofs.Common.{◌≡◌, All, length}
use Rattle.std.specs.List.{flat_map}
use Rattle.spec_model.specs.Spec.{below}
use Rattle.spec_model.specs.Schedule.{tasks_of_depth}
use Rattle.evaluators.specs.Marks.{IsBelow}
use Rattle.evaluators.proofs.chains.placing.Given as goal

abbrev pub invariant-loop-d : goal.invariant-loop-d
invariant-loop-d l = record {
  order : l.order.items ≡ flat_map (tasks_of_depth l.spec) (below l.d);
  tasks : All (IsBelow (length l.spec.tasks)) l.order.items;
}
