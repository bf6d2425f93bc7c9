use Rattle.std.proofs.Common.{◌≡◌, ◌≤◌, ◌++◌, length, take, drop}
use Rattle.constraint_store.specs.Spans.{live_from, Follow, renumbered}
use Rattle.constraint_store.proofs.spans.close_up.Given as goal

abbrev pub invariant-loop-place : goal.invariant-loop-place
invariant-loop-place l = record {
  live : live_from l.terms.items 0 (take l.used l.spans.items) ++ renumbered l.used (live_from l.terms.items l.place (drop l.place l.spans.items))
      ≡ renumbered 0 (live_from l.fn.terms.items 0 l.fn.spans.items);
  front : Follow 0 l.end (take l.used l.spans.items);
  rest : Follow l.end (length l.terms.items) (drop l.place l.spans.items);
  within : l.used ≤ l.place;
  as_many : length l.spans.items ≡ length l.fn.spans.items;
}
