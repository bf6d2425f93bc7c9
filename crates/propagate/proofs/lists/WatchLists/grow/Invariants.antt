use Rattle.std.proofs.Common.{◌≡◌, ◌≤◌, ◌-◌, ℕ, length, map}
use Rattle.propagate.specs.Watches.{watches_of}
use Rattle.propagate.proofs.lists.WatchLists.grow.Given as goal

abbrev pub invariant-loop-self : goal.invariant-loop-self
invariant-loop-self l = record {
  same : (k : ℕ) → watches_of (map (λ v. v.items) l.self-inside.lists.items) k ≡ watches_of (l.fn.self) k;
  longer : length l.fn.self ≤ length l.self-inside.lists.items;
}

abbrev pub decreases-loop-self : goal.decreases-loop-self
decreases-loop-self l = l.count - length l.self-inside.lists.items
