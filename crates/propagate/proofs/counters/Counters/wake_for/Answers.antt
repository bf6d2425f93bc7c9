use Rattle.propagate.specs.Counters.{literal_number, counted_of, occurrences_of}
use Rattle.propagate.proofs.Backing.{given_woken}
use Rattle.propagate.proofs.Tying.{woke_by}
use Rattle.propagate.proofs.counters.Counters.wake_for.Goals as goal

pub returns-clause-woke : goal.returns-clause-woke
returns-clause-woke c off p =
    let s = c.args.self.now in
    let k = woke_by c.of.result.now (occurrences_of s.occurrences (literal_number c.args.lit)) c.deref-2.result.now s.limits.items c.deref.result.now s.rooms.items s.waiting c.wake.new.waiting
    c.of.ensures c.deref-2.ensures.value c.deref.ensures.value c.wake.ensures.woke in
    given_woken s.variables s.slots.items s.limits.items s.rooms.items s.occurrences s.waiting c.wake.new.waiting (counted_of s) off c.args.lit c.requires.built.built p k
