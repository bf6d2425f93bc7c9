use Rattle.std.proofs.Common.{◌≡◌, ◌∙◌, get_or, ap}
use Rattle.std.proofs.lemmas.List.{get_or_default}
use Rattle.pb_constraints.specs.declared.ConId.{ConId}
use Rattle.propagate.specs.declared.counters.Counters.{Counters}
use Rattle.propagate.specs.Counters.{attached_from}
use Rattle.propagate.proofs.Attaching.{empty}
use Rattle.propagate.proofs.Attachments.{changes_put}
use Rattle.propagate.proofs.Dropping.{drops_more}
use Rattle.propagate.proofs.Emptying.{cleared_more}
use Rattle.propagate.proofs.counters.Counters.clear_each.Goals as goal

abbrev none : ConId
none = record { 0 = 0 }

pub loop-c-preserved : goal.loop-c-preserved
loop-c-preserved c =
    let s = c.args.self.now in
    let m = c.loop-c.self in
    let n = c.clear.new.self in
    let ids = c.args.dropped.now in
    let k = c.loop-c.c-index in
    let h = c.loop-c-test.true in
    let p = c.loop-c.invariant in
    let e = c.clear.ensures in
    let id = get_or ids k none in
    let own : id ≡ get_or ids k id = get_or_default ids k none id h in
    let put = changes_put m.slots.items n.slots.items id empty e.slots in
    let with_slots : Counters → Counters = λ v. record {
      variables = v.variables;
      slots = n.slots;
      rooms = n.rooms;
      limits = v.limits;
      occurrences = v.occurrences;
      lits = v.lits;
      used =
          v.used;
      waiting = v.waiting;
    } in
    record {
      attached = drops_more ids k id (attached_from 0 s.slots.items) (attached_from 0 m.slots.items) (attached_from 0 n.slots.items) h own p.attached put;
      cleared = cleared_more s.slots.items m.slots.items n.slots.items s.rooms.items m.rooms.items n.rooms.items p.cleared e.cleared;
      same = e.same ∙ ap with_slots p.same;
    }
