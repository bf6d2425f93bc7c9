use Rattle.std.proofs.Common.{◌≡◌, ℕ, false, length}
use Rattle.task_order.specs.Order.{is_in}
use Rattle.spec_graph.proofs.listed.no_marks.Given as goal

abbrev pub invariant-loop : goal.invariant-loop
invariant-loop l = record {
  long : length l.marks.items ≡ l.counter;
  none : (m : ℕ) → is_in l.marks.items m ≡ false;
}
