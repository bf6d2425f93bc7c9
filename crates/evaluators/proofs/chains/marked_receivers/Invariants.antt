use Rattle.std.proofs.Common.{◌≡◌, ℕ, length}
use Rattle.evaluators.specs.Marks.{is_marked, is_sent_to}
use Rattle.evaluators.proofs.chains.marked_receivers.Given as goal

abbrev pub invariant-loop-m : goal.invariant-loop-m
invariant-loop-m l = record {
  long : length l.next.items ≡ length l.spec.tasks;
  marked : (t : ℕ) → is_marked l.next.items t ≡ is_sent_to l.spec l.marks l.m t;
}
