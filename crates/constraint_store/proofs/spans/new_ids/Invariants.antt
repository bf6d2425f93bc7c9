use Rattle.std.proofs.Common.{◌≡◌, ◌≤◌, take}
use Rattle.constraint_store.specs.Spans.{ranks}
use Rattle.constraint_store.proofs.Tables.{count_of}
use Rattle.constraint_store.proofs.spans.new_ids.Given as goal

abbrev pub invariant-loop-span : goal.invariant-loop-span
invariant-loop-span l = record {
  ids : l.ids.items ≡ ranks 0 (take l.span-index l.spans);
  next : l.next ≡ count_of (take l.span-index l.spans);
  few : l.next ≤ l.span-index;
}
