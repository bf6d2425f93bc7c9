use Rattle.std.proofs.Common.{◌≡◌, ℕ, length, map, take, nat_eq}
use Rattle.std.specs.Prelude.{◌||◌}
use Rattle.std.specs.List.{list_any}
use Rattle.spec_graph.specs.Lists.{task_number}
use Rattle.evaluators.specs.Marks.{is_marked}
use Rattle.evaluators.proofs.receiving.mark_each.Given as goal

abbrev pub invariant-loop-t : goal.invariant-loop-t
invariant-loop-t l = record {
  long : length l.marks ≡ length l.fn.marks;
  marked : (k : ℕ) → is_marked l.marks k ≡ (is_marked l.fn.marks k || list_any (nat_eq k) (take l.t-index (map task_number l.tasks)));
}
