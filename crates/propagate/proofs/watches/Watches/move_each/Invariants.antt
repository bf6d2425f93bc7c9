use Rattle.std.proofs.Common.{◌≡◌, length}
use Rattle.constraint_store.specs.Live.{new_id}
use Rattle.propagate.specs.Counters.{AreMoved}
use Rattle.propagate.proofs.watches.Watches.move_each.Given as goal

abbrev pub invariant-loop-slot : goal.invariant-loop-slot
invariant-loop-slot l = record {
  same_length : length l.self.slots.items ≡ length l.fn.self.slots.items;
  moved : AreMoved (new_id l.moves) l.slot l.fn.self.slots.items l.self.slots.items;
  same : l.self ≡ record l.fn.self { slots = l.self.slots };
}
