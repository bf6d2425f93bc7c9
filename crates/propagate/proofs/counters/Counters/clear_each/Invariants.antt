use Rattle.std.proofs.Common.{◌≡◌, take}
use Rattle.propagate.specs.Attached.{Drops}
use Rattle.propagate.specs.Counters.{attached_from, AreCleared}
use Rattle.propagate.proofs.counters.Counters.clear_each.Given as goal

abbrev pub invariant-loop-c : goal.invariant-loop-c
invariant-loop-c l = record {
  attached : Drops (take l.c-index l.dropped) (attached_from 0 l.fn.self.slots.items) (attached_from 0 l.self.slots.items);
  cleared : AreCleared l.fn.self.slots.items l.self.slots.items l.fn.self.rooms.items l.self.rooms.items;
  same : l.self ≡ record l.fn.self { slots = l.self.slots; rooms = l.self.rooms };
}
