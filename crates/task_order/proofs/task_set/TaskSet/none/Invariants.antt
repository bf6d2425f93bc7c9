use Rattle.std.proofs.Common.{◌≡◌, ℕ, false, length}
use Rattle.task_order.specs.Order.{is_in}
use Rattle.task_order.proofs.task_set.TaskSet.none.Given as goal

abbrev pub invariant-loop : goal.invariant-loop
invariant-loop l = record {
  long : length l.bits.items ≡ l.counter;
  none : (t : ℕ) → is_in l.bits.items t ≡ false;
}
