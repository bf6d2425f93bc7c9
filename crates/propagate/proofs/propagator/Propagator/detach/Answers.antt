use Rattle.std.proofs.Common.{◌≡◌, List, None, ap, subst, inl}
use Rattle.propagate.specs.Attached.{Attached, ChangesOnly}
use Rattle.propagate.specs.Propagator.{PropagatorView, attached_in}
use Rattle.propagate.specs.Counters.{attached_from, counted_of}
use Rattle.propagate.specs.Watched.{wholes}
use Rattle.propagate.specs.Watches.{watched_in}
use Rattle.propagate.proofs.Attachments.{changes_put}
use Rattle.propagate.proofs.Joining.{changes_both, apart_changed}
use Rattle.propagate.proofs.Running.{counted_same, watched_over, closed_over}
use Rattle.propagate.proofs.propagator.Propagator.detach.Goals as goal

pub invariant_of-self : goal.invariant_of-self
invariant_of-self c =
    let i = c.self.invariant in
    let s = c.self.inside.counters in
    let w = c.self.inside.watches in
    let t = c.empty.new.self in
    let v = c.empty-2.new.self in
    let a = changes_put s.slots.items t.slots.items c.args.c None c.empty.ensures.slots in
    let b = changes_put (wholes w.slots.items) (wholes v.slots.items) c.args.c None c.empty-2.ensures.slots in
    record {
      built = c.empty.ensures.built;
      step = c.empty.ensures.step;
      watched = watched_over s.variables t.variables v c.empty.ensures.variables (c.empty-2.ensures.built s.variables i.watched);
      closed = closed_over (counted_of s) (counted_of t) v (counted_same s t c.empty.ensures.lits c.empty.ensures.used) (c.empty-2.ensures.closed (counted_of s) i.closed);
      apart = apart_changed (attached_from 0 s.slots.items) (attached_from 0 t.slots.items) (watched_in w) (watched_in v) c.args.c i.apart a.others b.others (inl a.here);
    }

pub returns-clause-attached : goal.returns-clause-attached
returns-clause-attached c =
    let s = c.self.inside.counters in
    let w = c.self.inside.watches in
    let t = c.empty.new.self in
    let v = c.empty-2.new.self in
    let a = changes_put s.slots.items t.slots.items c.args.c None c.empty.ensures.slots in
    let b = changes_put (wholes w.slots.items) (wholes v.slots.items) c.args.c None c.empty-2.ensures.slots in
    let held : attached_in s w ≡ c.args.self.now.attached = ap (λ (v : PropagatorView). v.attached) c.self.view_is in
    let P : List Attached → Type 0 = λ us. ChangesOnly us (attached_in t v) c.args.c None in
    subst P held (changes_both (attached_from 0 s.slots.items) (attached_from 0 t.slots.items) (watched_in w) (watched_in v) c.args.c a b)
