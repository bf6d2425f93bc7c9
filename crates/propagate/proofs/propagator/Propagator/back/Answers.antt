use Rattle.std.proofs.Common.{◌≡◌, ◌≤◌, List, take, ap, sym, subst, arith}
use Rattle.propagate.specs.Attached.{Attached}
use Rattle.propagate.specs.Propagator.{AreApart}
use Rattle.propagate.specs.Counters.{attached_from, counted_of}
use Rattle.propagate.specs.Watched.{wholes}
use Rattle.propagate.specs.Watches.{watched_in}
use Rattle.propagate.proofs.Running.{counted_fewer, watched_over, watched_same, closed_over}
use Rattle.propagate.proofs.propagator.Propagator.back.Goals as goal

pub invariant_of-self : goal.invariant_of-self
invariant_of-self c =
    let i = c.self.invariant in
    let s = c.self.inside.counters in
    let w = c.self.inside.watches in
    let t = c.uncount_to.new.self in
    let v = c.forget_beyond.new.self in
    let e = c.uncount_to.ensures in
    let f = c.forget_beyond.ensures in
    let kept = c.min-kept.result in
    let is = c.min-kept.ensures in
    let few : kept ≤ s.used = omega (arith, is) in
    let a : attached_from 0 t.slots.items ≡ attached_from 0 s.slots.items = ap (λ us. attached_from 0 us.items) e.slots in
    let b : watched_in v ≡ watched_in w = ap (λ us. attached_from 0 (wholes us.items)) f.slots in
    let P : List Attached → Type 0 = λ us. AreApart us (watched_in w) in
    let Q : List Attached → Type 0 = λ us. AreApart (attached_from 0 t.slots.items) us in
    record {
      built = e.built;
      step = e.step;
      watched = watched_over s.variables t.variables v e.variables (watched_same s.variables w v (ap (λ us. us.items) f.slots) f.lists i.watched);
      closed = closed_over (take kept (counted_of s)) (counted_of t) v (counted_fewer s t kept e.lits e.used few) (f.closed (counted_of s) i.closed);
      apart = subst Q (sym b) (subst P (sym a) i.apart);
    }
