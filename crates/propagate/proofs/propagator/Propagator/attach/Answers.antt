use Rattle.std.proofs.Common.{◌≡◌, ◌∙◌, ℕ, Some, None, List, length, take, get_or, refl, sym, ap, subst, arith, inl, inr}
use Rattle.std.proofs.lemmas.List.{length-take-le, take-take}
use Rattle.pb_rules.specs.Linear.{Linear}
use Rattle.pb_rules.specs.Literal.{Literal}
use Rattle.constraint_store.specs.Live.{constraint_of}
use Rattle.propagate.specs.Attached.{Attached, attached_at, ChangesOnly}
use Rattle.propagate.specs.Propagator.{PropagatorView, AreApart, attached_in}
use Rattle.propagate.specs.Counters.{attached_from, counted_of, IsPut}
use Rattle.propagate.specs.Watched.{wholes}
use Rattle.propagate.specs.Watches.{watched_in}
use Rattle.propagate.proofs.Attaching.{attached_at_slot, empty}
use Rattle.propagate.proofs.Attachments.{changes_put, stays_attached, on_ok_map, on_either, same_parts, some_filled, none_filled, ready_counted}
use Rattle.propagate.proofs.Tying.{lits_of}
use Rattle.propagate.proofs.Joining.{at_first, at_apart, changes_first, changes_second, apart_changed}
use Rattle.propagate.proofs.Running.{watched_over, closed_longer}
use Rattle.propagate.proofs.propagator.Propagator.attach.Goals as goal
use Rattle.propagate.proofs.propagator.Propagator.attach.Goals.{then-is_filled-via-then-is_filled, then-is_filled-via-else-is_filled+then-is_filled-2}

pub returns-then-is_filled-clause-ok : goal.returns-then-is_filled-clause-ok
returns-then-is_filled-clause-ok c =
    let s = c.self.inside.counters in
    let w = c.self.inside.watches in
    let id = c.args.c in
    let k = constraint_of c.args.store.now id in
    let xs = attached_from 0 s.slots.items in
    let ys = watched_in w in
    let held : attached_in s w ≡ c.args.self.now.attached = ap (λ (v : PropagatorView). v.attached) c.self.view_is in
    let P : List Attached → Type 0 = λ us. ChangesOnly us us id (Some k) in
    let stored : (l : Linear) → attached_at (attached_in s w) id ≡ Some l → k ≡ l = λ l h. c.requires.ready.stored id l (ap (λ (us : List Attached). attached_at us id) (sym held) ∙ h) in
    let from : (l : Linear) → attached_at (attached_in s w) id ≡ Some l → ChangesOnly (attached_in s w) (attached_in s w) id (Some k) = λ l h.
    stays_attached (attached_in s w) id k (Some l) refl h stored in
    subst P held (elim c.then-is_filled.branch [
      | then-is_filled-via-then-is_filled b ↦ (
          let o = get_or s.slots.items id.0 empty in
          let f = some_filled o (sym c.is_filled.ensures ∙ b.if-is_filled.true) in
          from f.0 (at_first xs ys id f.0 (attached_at_slot s.slots.items id ∙ f.1)))
      | then-is_filled-via-else-is_filled+then-is_filled-2 b ↦ (
          let o = get_or (wholes w.slots.items) id.0 empty in
          let f = some_filled o (sym b.is_filled-else-is_filled.ensures ∙ b.if-is_filled-2.true) in
          from f.0 (at_apart xs ys id f.0 c.self.invariant.apart (attached_at_slot (wholes w.slots.items) id ∙ f.1)))
    ])

-- nothing is counted under the id
uncounted : (c : goal.After-attach) → attached_at (attached_from 0 c.self.inside.counters.slots.items) c.args.c ≡ None
uncounted c = attached_at_slot c.self.inside.counters.slots.items c.args.c
    ∙ none_filled (get_or c.self.inside.counters.slots.items c.args.c.0 empty) (sym c.is_filled.ensures ∙ c.if-is_filled.false)

pub invariant_of-self : goal.invariant_of-self
invariant_of-self c =
    let i = c.self.invariant in
    let s = c.self.inside.counters in
    let w = c.self.inside.watches in
    let v = c.attach.new.self in
    let e = c.attach.ensures in
    let id = c.args.c in
    let es = c.args.trail.now.entries in
    let xs = attached_from 0 s.slots.items in
    let variables : s.variables ≡ c.args.trail.now.variables = ap (λ (u : PropagatorView). u.variables) c.self.view_is ∙ c.requires.ready.variables in
    let p : counted_of s ≡ c.args.self.now.counted = ap (λ (u : PropagatorView). u.counted) c.self.view_is in
    let firsts : take (length (counted_of s)) (lits_of es) ≡ counted_of s = ap (λ (ls : List Literal). take (length ls) (lits_of es)) p ∙ c.requires.ready.counted ∙ sym p in
    let P : List Attached → Type 0 = λ us. AreApart xs us in
    record {
      built = i.built;
      step = i.step;
      watched = watched_over c.args.trail.now.variables s.variables v variables (e.built (watched_over s.variables c.args.trail.now.variables w (sym variables) i.watched));
      closed = e.closed (counted_of s) firsts i.closed;
      apart = on_either c.attach.result (IsPut id.0 (Some c.in-Ok.watched.whole) (wholes w.slots.items) (wholes v.slots.items)) (watched_in v ≡ watched_in w) (AreApart xs (watched_in v))
          (λ q. (let b = changes_put (wholes w.slots.items) (wholes v.slots.items) id (Some c.in-Ok.watched.whole) q in
          apart_changed xs xs (watched_in w) (watched_in v) id i.apart (λ d n. refl) b.others (inl (uncounted c))))
          (λ q. subst P (sym q) i.apart) e.ok e.err;
    }

pub returns-in-Ok-clause-ok : goal.returns-in-Ok-clause-ok
returns-in-Ok-clause-ok c =
    let s = c.self.inside.counters in
    let w = c.self.inside.watches in
    let v = c.attach.new.self in
    let id = c.args.c in
    let xs = attached_from 0 s.slots.items in
    let k = constraint_of c.args.store.now id in
    let is : c.in-Ok.watched.whole ≡ k = c.in-Ok.ensures.ok ∙ same_parts k c.in_ok-terms.terms.items c.degree.result c.of_normal.result c.of_normal.ensures.value
    (c.in_ok-terms.ensures.items ∙ c.terms.ensures.value) c.degree.ensures.value in
    let held : attached_in s w ≡ c.args.self.now.attached = ap (λ (u : PropagatorView). u.attached) c.self.view_is in
    let P : List Attached → Type 0 = λ us. ChangesOnly us (attached_in s v) id (Some k) in
    let Q : Linear → Type 0 = λ l. IsPut id.0 (Some l) (wholes w.slots.items) (wholes v.slots.items) in
    on_ok_map c.attach.result (Q c.in-Ok.watched.whole) (P c.args.self.now.attached)
    (λ p. subst P held (changes_second xs (watched_in w) (watched_in v) id (Some k) (uncounted c) (changes_put (wholes w.slots.items) (wholes v.slots.items) id (Some k) (subst Q is p))))
    c.attach.ensures.ok

-- no clause is watched under the id
unwatched : (c : goal.After-attach-in-Err) → attached_at (watched_in c.self.inside.watches) c.args.c ≡ None
unwatched c = attached_at_slot (wholes c.self.inside.watches.slots.items) c.args.c
    ∙ none_filled (get_or (wholes c.self.inside.watches.slots.items) c.args.c.0 empty) (sym c.is_filled-else-is_filled.ensures ∙ c.if-is_filled-2.false)

pub invariant_of-self-in-Err : goal.invariant_of-self-in-Err
invariant_of-self-in-Err c =
    let i = c.self.invariant in
    let s = c.self.inside.counters in
    let w = c.self.inside.watches in
    let t = c.attach-in-Err.new.self in
    let e = c.attach-in-Err.ensures in
    let id = c.args.c in
    let es = c.args.trail.now.entries in
    let ys = watched_in w in
    let k = c.in_ok-ranked-in-Err.ranked in
    let p : counted_of s ≡ c.args.self.now.counted = ap (λ (u : PropagatorView). u.counted) c.self.view_is in
    let counted : counted_of s ≡ take s.used (lits_of es) = ready_counted c.args.self.now.counted s.lits.items s.used es p i.built.used c.requires.ready.counted in
    let more = e.no_fewer in
    let n : length (counted_of s) ≡ s.used = length-take-le s.used s.lits.items i.built.used in
    let m : length (counted_of t) ≡ t.used = length-take-le t.used t.lits.items e.built.used in
    let firsts : take (length (counted_of s)) (counted_of t) ≡ counted_of s =
    ap (λ (j : ℕ). take j (counted_of t)) n ∙ ap (take s.used) e.counted ∙ take-take s.used t.used (lits_of es) more ∙ sym counted in
    let P : List Attached → Type 0 = λ us. AreApart us ys in
    record {
      built = e.built;
      step = e.step;
      watched = watched_over s.variables t.variables w e.variables i.watched;
      closed = closed_longer (counted_of s) (counted_of t) w (omega (arith, n, m, more)) firsts i.closed;
      apart = on_either c.attach-in-Err.result (IsPut id.0 (Some k) s.slots.items t.slots.items) (attached_from 0 t.slots.items ≡ attached_from 0 s.slots.items)
          (AreApart (attached_from 0 t.slots.items) ys)
          (λ q. (let a = changes_put s.slots.items t.slots.items id (Some k) q in
          apart_changed (attached_from 0 s.slots.items) (attached_from 0 t.slots.items) ys ys id i.apart a.others (λ d n. refl) (inr (unwatched c))))
          (λ q. subst P (sym q) i.apart) e.ok e.err;
    }

pub returns-in_ok-ranked-in-Err-clause-ok : goal.returns-in_ok-ranked-in-Err-clause-ok
returns-in_ok-ranked-in-Err-clause-ok c =
    let s = c.self.inside.counters in
    let w = c.self.inside.watches in
    let t = c.attach-in-Err.new.self in
    let id = c.args.c in
    let ys = watched_in w in
    let k = constraint_of c.args.store.now id in
    let is : c.in_ok-ranked-in-Err.ranked ≡ k = c.in_ok-ranked-in-Err.ensures ∙ c.in-Err.ensures.err ∙ same_parts k c.in_ok-terms.terms.items c.degree.result c.of_normal.result
    c.of_normal.ensures.value (c.in_ok-terms.ensures.items ∙ c.terms.ensures.value) c.degree.ensures.value in
    let held : attached_in s w ≡ c.args.self.now.attached = ap (λ (u : PropagatorView). u.attached) c.self.view_is in
    let P : List Attached → Type 0 = λ us. ChangesOnly us (attached_in t w) id (Some k) in
    let Q : Linear → Type 0 = λ l. IsPut id.0 (Some l) s.slots.items t.slots.items in
    on_ok_map c.attach-in-Err.result (Q c.in_ok-ranked-in-Err.ranked) (P c.args.self.now.attached)
    (λ p. subst P held (changes_first (attached_from 0 s.slots.items) (attached_from 0 t.slots.items) ys id (Some k) (unwatched c)
    (changes_put s.slots.items t.slots.items id (Some k) (subst Q is p))))
    c.attach-in-Err.ensures.ok
