use Rattle.std.proofs.Common.{◌≡◌, ◌-◌, ℕ, None, length, slice_index_or}
use Rattle.propagate.specs.Watches.{watched_in}
use Rattle.propagate.proofs.watches.Watches.make_slots.Given as goal

abbrev pub invariant-loop-self : goal.invariant-loop-self
invariant-loop-self l = record {
  same : (i : ℕ) → slice_index_or l.self.slots.items i None ≡ slice_index_or l.initial.self.slots.items i None;
  attached : watched_in l.self ≡ watched_in l.initial.self;
  rest : l.self ≡ record l.initial.self { slots = l.self.slots };
}

abbrev pub decreases-loop-self : goal.decreases-loop-self
decreases-loop-self l = l.count - length l.self.slots.items
