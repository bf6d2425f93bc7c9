use Rattle.std.proofs.Common.{◌≡◌, ◌+◌, List, sym, ap, subst, arith}
use Rattle.propagate.specs.Attached.{Attached}
use Rattle.propagate.specs.Propagator.{AreApart}
use Rattle.propagate.specs.Counters.{attached_from, counted_of}
use Rattle.propagate.specs.Watched.{wholes}
use Rattle.propagate.specs.Watches.{watched_in, AreWatched}
use Rattle.propagate.proofs.Attachments.{on_either}
use Rattle.propagate.proofs.Running.{watched_over, closed_with, closed_over}
use Rattle.propagate.proofs.propagator.Propagator.grow.Goals as goal

pub invariant_of-self : goal.invariant_of-self
invariant_of-self c =
    let i = c.self.invariant in
    let s = c.self.inside.counters in
    let w = c.self.inside.watches in
    let v = c.grow.new.self in
    let e = c.grow.ensures in
    let b : watched_in v ≡ watched_in w = ap (λ us. attached_from 0 (wholes us.items)) e.slots in
    let Q : List Attached → Type 0 = λ us. AreApart (attached_from 0 s.slots.items) us in
    record {
      built = i.built;
      step = i.step;
      watched = e.same s.variables i.watched;
      closed = closed_with (counted_of s) w v e.slots e.closed i.closed;
      apart = subst Q (sym b) i.apart;
    }

pub invariant_of-self-2 : goal.invariant_of-self-2
invariant_of-self-2 c =
    let i = c.self.invariant in
    let s = c.self.inside.counters in
    let w = c.self.inside.watches in
    let t = c.grow-2.new.self in
    let v = c.grow.new.self in
    let d = c.grow-2.ensures in
    let e = c.grow.ensures in
    let a : attached_from 0 t.slots.items ≡ attached_from 0 s.slots.items = ap (λ us. attached_from 0 us.items) d.slots in
    let b : watched_in v ≡ watched_in w = ap (λ us. attached_from 0 (wholes us.items)) e.slots in
    let P : List Attached → Type 0 = λ us. AreApart us (watched_in w) in
    let Q : List Attached → Type 0 = λ us. AreApart (attached_from 0 t.slots.items) us in
    let more = s.variables + c.args.more in
    let wide : AreWatched more v = c.in_ok-grow.ensures.room s.variables (omega arith) i.watched in
    record {
      built = d.built;
      step = d.step;
      watched = on_either c.grow-2.result (t.variables ≡ more) (t.variables ≡ s.variables) (AreWatched t.variables v) (λ q. watched_over more t.variables v q wide)
          (λ q. watched_over s.variables t.variables v q (e.same s.variables i.watched)) d.ok d.err;
      closed = closed_over (counted_of s) (counted_of t) v (sym d.counted) (closed_with (counted_of s) w v e.slots e.closed i.closed);
      apart = subst Q (sym b) (subst P (sym a) i.apart);
    }
