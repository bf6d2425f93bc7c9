use Rattle.std.proofs.Common.{◌≡◌, ◌++◌, All, length}
use Rattle.spec_model.specs.Spec.{SpecValue, those}
use Rattle.spec_model.specs.Schedule.{has_depth}
use Rattle.evaluators.specs.Marks.{AreDepths, IsBelow}
use Rattle.evaluators.proofs.chains.add_of_depth.Given as goal

abbrev pub invariant-loop-t : goal.invariant-loop-t
invariant-loop-t l = record {
  added : (s : SpecValue) → AreDepths s l.depths → l.order.items ≡ l.fn.order.items ++ those (has_depth s l.d) l.t;
  tasks : All (IsBelow (length l.depths)) l.fn.order.items → All (IsBelow (length l.depths)) l.order.items;
}
