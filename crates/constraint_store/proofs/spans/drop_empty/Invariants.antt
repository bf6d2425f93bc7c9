use Rattle.std.proofs.Common.{◌≡◌, ◌≤◌, List, length, take}
use Rattle.pb_rules.specs.declared.Term.{Term}
use Rattle.constraint_store.specs.Spans.{live_from}
use Rattle.constraint_store.proofs.spans.drop_empty.Given as goal

abbrev pub invariant-loop-filled : goal.invariant-loop-filled
invariant-loop-filled l = record {
  within : l.filled ≤ length l.spans.items;
  same : l.spans.items ≡ l.fn.spans.items;
  live : (ts : List Term) → live_from ts 0 (take l.filled l.spans.items) ≡ live_from ts 0 l.fn.spans.items;
}

abbrev pub decreases-loop-filled : goal.decreases-loop-filled
decreases-loop-filled l = l.filled
