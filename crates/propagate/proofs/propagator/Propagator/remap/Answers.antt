use Rattle.std.proofs.Common.{◌≡◌, ℕ, List, ap, subst, sym}
use Rattle.std.proofs.lemmas.List.{length-map}
use Rattle.constraint_store.specs.Live.{new_id}
use Rattle.propagate.specs.Attached.{Attached, IsMoved}
use Rattle.propagate.specs.Propagator.{PropagatorView, attached_in}
use Rattle.propagate.specs.Counters.{attached_from, counted_of, AreMoved}
use Rattle.propagate.specs.Watched.{wholes, whole_in}
use Rattle.propagate.specs.Watches.{watched_in}
use Rattle.propagate.proofs.Remapping.{all_moved}
use Rattle.propagate.proofs.Joining.{moved_both, apart_moved}
use Rattle.propagate.proofs.Running.{counted_same, watched_over, closed_over}
use Rattle.propagate.proofs.propagator.Propagator.remap.Goals as goal

-- where the watched clauses went
moved_watched : (c : goal.After-remap-2) → IsMoved (new_id c.args.moves.now) (watched_in c.self.inside.watches) (watched_in c.remap-2.new.self)
moved_watched c =
    let old = c.self.inside.watches.slots.items in
    let new = c.remap-2.new.self.slots.items in
    let P : ℕ → Type 0 = λ n. AreMoved (new_id c.args.moves.now) n (wholes old) (wholes new) in
    all_moved (new_id c.args.moves.now) (wholes old) (wholes new) c.of-first.ensures.one_to_one (subst P (sym (length-map old whole_in)) c.remap-2.ensures.moved)

moved_counted : (c : goal.After-remap-2) → IsMoved (new_id c.args.moves.now) (attached_from 0 c.self.inside.counters.slots.items) (attached_from 0 c.remap.new.self.slots.items)
moved_counted c = all_moved (new_id c.args.moves.now) c.self.inside.counters.slots.items c.remap.new.self.slots.items c.of-first.ensures.one_to_one c.remap.ensures.moved

pub invariant_of-self : goal.invariant_of-self
invariant_of-self c =
    let i = c.self.invariant in
    let s = c.self.inside.counters in
    let w = c.self.inside.watches in
    let t = c.remap.new.self in
    let v = c.remap-2.new.self in
    record {
      built = c.remap.ensures.built;
      step = c.remap.ensures.step;
      watched = watched_over s.variables t.variables v c.remap.ensures.variables (c.remap-2.ensures.built s.variables i.watched);
      closed = closed_over (counted_of s) (counted_of t) v (counted_same s t c.remap.ensures.lits c.remap.ensures.used) (c.remap-2.ensures.closed (counted_of s) i.closed);
      apart = apart_moved c.args.moves.now (attached_from 0 s.slots.items) (attached_from 0 t.slots.items) (watched_in w) (watched_in v) i.apart (moved_counted c) (moved_watched c);
    }

pub returns-clause-attached : goal.returns-clause-attached
returns-clause-attached c =
    let s = c.self.inside.counters in
    let w = c.self.inside.watches in
    let t = c.remap.new.self in
    let v = c.remap-2.new.self in
    let held : attached_in s w ≡ c.args.self.now.attached = ap (λ (v : PropagatorView). v.attached) c.self.view_is in
    let P : List Attached → Type 0 = λ us. IsMoved (new_id c.args.moves.now) us (attached_in t v) in
    subst P held (moved_both (new_id c.args.moves.now) (attached_from 0 s.slots.items) (attached_from 0 t.slots.items) (watched_in w) (watched_in v) (moved_counted c) (moved_watched c))
