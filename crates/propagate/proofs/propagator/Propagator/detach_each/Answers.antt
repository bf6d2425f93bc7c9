use Rattle.std.proofs.Common.{◌≡◌, List, ap, subst}
use Rattle.propagate.specs.Attached.{Attached, Drops}
use Rattle.propagate.specs.Propagator.{PropagatorView, attached_in}
use Rattle.propagate.specs.Counters.{attached_from, counted_of}
use Rattle.propagate.specs.Watches.{watched_in}
use Rattle.propagate.proofs.Joining.{drops_both, apart_dropped}
use Rattle.propagate.proofs.Running.{counted_same, watched_over, closed_over}
use Rattle.propagate.proofs.propagator.Propagator.detach_each.Goals as goal

pub invariant_of-self : goal.invariant_of-self
invariant_of-self c =
    let i = c.self.invariant in
    let s = c.self.inside.counters in
    let w = c.self.inside.watches in
    let t = c.empty_each.new.self in
    let v = c.empty_each-2.new.self in
    record {
      built = c.empty_each.ensures.built;
      step = c.empty_each.ensures.step;
      watched = watched_over s.variables t.variables v c.empty_each.ensures.variables (c.empty_each-2.ensures.built s.variables i.watched);
      closed = closed_over (counted_of s) (counted_of t) v (counted_same s t c.empty_each.ensures.lits c.empty_each.ensures.used) (c.empty_each-2.ensures.closed (counted_of s) i.closed);
      apart =
          apart_dropped c.args.dropped.now (attached_from 0 s.slots.items) (attached_from 0 t.slots.items) (watched_in w) (watched_in v) i.apart c.empty_each.ensures.attached
          c.empty_each-2.ensures.attached;
    }

pub returns-clause-attached : goal.returns-clause-attached
returns-clause-attached c =
    let s = c.self.inside.counters in
    let w = c.self.inside.watches in
    let t = c.empty_each.new.self in
    let v = c.empty_each-2.new.self in
    let held : attached_in s w ≡ c.args.self.now.attached = ap (λ (v : PropagatorView). v.attached) c.self.view_is in
    let P : List Attached → Type 0 = λ us. Drops c.args.dropped.now us (attached_in t v) in
    subst P held (drops_both c.args.dropped.now (attached_from 0 s.slots.items) (attached_from 0 t.slots.items) (watched_in w) (watched_in v) c.empty_each.ensures.attached
    c.empty_each-2.ensures.attached)
