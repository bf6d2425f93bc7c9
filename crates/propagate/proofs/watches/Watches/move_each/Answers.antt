use Rattle.std.proofs.Common.{◌∙◌, ap}
use Rattle.constraint_store.specs.Live.{new_id}
use Rattle.propagate.specs.declared.watches.Watches.{Watches}
use Rattle.propagate.proofs.Remapping.{moved_more}
use Rattle.propagate.proofs.watches.Watches.move_each.Goals as goal

pub loop-slot-preserved : goal.loop-slot-preserved
loop-slot-preserved c =
    let now = c.move_one.new.self in
    let e = c.move_one.ensures in
    let i = c.loop-slot.invariant in
    let with_slots : Watches → Watches = λ v. record { slots = now.slots; lists = v.lists; closed = v.closed } in
    record {
      same_length = e.same_length ∙ i.same_length;
      moved =
          moved_more (new_id c.args.moves.now) c.loop-slot.slot c.args.self.now.slots.items c.loop-slot.self.slots.items now.slots.items c.of-first.ensures.one_to_one
          c.of-first.ensures.never_rises i.moved e.moved;
      same = e.same ∙ ap with_slots i.same;
    }
