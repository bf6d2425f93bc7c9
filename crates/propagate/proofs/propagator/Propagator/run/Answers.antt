use Rattle.std.proofs.Common.{◌≡◌, ◌∙◌, ℕ, List, length, take, sym, ap, subst, arith}
use Rattle.std.proofs.lemmas.List.{take_all, length-map, length-take-le}
use Rattle.pb_constraints.specs.declared.ConId.{ConId}
use Rattle.pb_rules.specs.Literal.{Literal}
use Rattle.trail_state.specs.Trail.{Entry}
use Rattle.propagate.specs.Attached.{Attached}
use Rattle.propagate.specs.Forced.{Appends, IsConflict, AllClosed}
use Rattle.propagate.specs.Propagator.{PropagatorView, attached_in}
use Rattle.propagate.specs.declared.counters.Counters.{Counters}
use Rattle.propagate.specs.Counters.{AreBuilt, attached_from, counted_of}
use Rattle.propagate.specs.Watches.{watched_in}
use Rattle.propagate.proofs.Tying.{lits_of}
use Rattle.propagate.proofs.Looking.{all_closed}
use Rattle.propagate.proofs.Attachments.{ready_counted}
use Rattle.propagate.proofs.Joining.{conflict_first, conflict_second, closed_both}
use Rattle.propagate.proofs.Runs.{IsRunning, run_begins, run_counted, run_watched, run_closed, run_step, run_ends, run_held, view_by}
use Rattle.propagate.proofs.propagator.Propagator.run.Goals as goal

-- a trail has as many literals as entries
lengths : (es : List Entry) (ls : List Literal) → ls ≡ lits_of es → length ls ≡ length es
lengths es ls e = ap (λ (us : List Literal). length us) e ∙ length-map es (λ (x : Entry). x.lit)

-- the counted literals are the trail's first
run_prefix : (t : Counters) (es : List Entry) → AreBuilt t → counted_of t ≡ take t.used (lits_of es) → take (length (counted_of t)) (lits_of es) ≡ counted_of t
run_prefix t es b e = ap (λ (n : ℕ). take n (lits_of es)) (length-take-le t.used t.lits.items b.used) ∙ sym e

pub closing-init : goal.closing-init
closing-init c =
    let s = c.self.inside.counters in
    let w = c.self.inside.watches in
    let i = c.self.invariant in
    let es = c.args.trail.now.entries in
    let p : counted_of s ≡ c.args.self.now.counted = ap (λ (v : PropagatorView). v.counted) c.self.view_is in
    let counted : counted_of s ≡ take s.used (lits_of es) = ready_counted c.args.self.now.counted s.lits.items s.used es p i.built.used c.requires.counted in
    let variables : s.variables ≡ c.args.trail.now.variables = ap (λ (v : PropagatorView). v.variables) c.self.view_is ∙ c.requires.variables in
    run_begins s w c.args.trail.now c.last_closed-visited.result i variables counted (c.last_closed-visited.ensures.below (counted_of s) i.closed)
    (c.last_closed-visited.ensures.guarded (counted_of s) i.closed)

pub close-requires-clause-built : goal.close-requires-clause-built
close-requires-clause-built c = c.closing.invariant.built

pub close-requires-clause-step : goal.close-requires-clause-step
close-requires-clause-step c =
    run_step c.self.inside.counters c.closing.self-inside.counters c.self.inside.watches c.closing.self-inside.watches c.args.trail.now c.closing.trail c.closing.visited c.closing.invariant

pub close-requires-clause-variables : goal.close-requires-clause-variables
close-requires-clause-variables c = c.closing.invariant.variables

pub close-requires-clause-counted : goal.close-requires-clause-counted
close-requires-clause-counted c = c.closing.invariant.counted

pub close-requires-clause-used : goal.close-requires-clause-used
close-requires-clause-used c = c.closing.invariant.used

-- once the counters are closed
stops : (c : goal.In-Some) → IsRunning c.self.inside.counters c.self.inside.watches c.args.trail.now c.close.new.self c.closing.self-inside.watches c.close.new.trail c.closing.visited
stops c =
    let e = c.close.ensures in
    run_counted c.self.inside.counters c.closing.self-inside.counters c.close.new.self c.self.inside.watches c.closing.self-inside.watches c.args.trail.now c.closing.trail c.close.new.trail
    c.closing.visited c.closing.invariant e.built e.step e.counted e.slots e.variables e.trail_variables e.appends

pub invariant_of-self : goal.invariant_of-self
invariant_of-self c =
    run_ends c.self.inside.counters c.close.new.self c.self.inside.watches c.closing.self-inside.watches c.args.trail.now c.close.new.trail c.closing.visited (stops c) c.self.invariant.apart

pub returns-in-Some-clause-appends : goal.returns-in-Some-clause-appends
returns-in-Some-clause-appends c =
    let held : attached_in c.self.inside.counters c.self.inside.watches ≡ c.args.self.now.attached = ap (λ (v : PropagatorView). v.attached) c.self.view_is in
    let P : List Attached → Type 0 = λ us. Appends us c.args.trail.now.entries c.close.new.trail.entries in
    subst P held ((stops c).appends)

pub returns-in-Some-clause-conflict : goal.returns-in-Some-clause-conflict
returns-in-Some-clause-conflict c =
    let s = c.self.inside.counters in
    let es = c.close.new.trail.entries in
    let id : ConId = record { 0 = c.in-Some.slot } in
    let held : attached_in s c.self.inside.watches ≡ c.args.self.now.attached = ap (λ (v : PropagatorView). v.attached) c.self.view_is in
    let from : attached_from 0 c.closing.self-inside.counters.slots.items ≡ attached_from 0 s.slots.items = ap (λ us. attached_from 0 us.items) c.closing.invariant.slots in
    let P : List Attached → Type 0 = λ us. IsConflict us es id in
    let Q : List Attached → Type 0 = λ us. IsConflict us es id in
    subst P held (conflict_first (attached_from 0 s.slots.items) (watched_in c.self.inside.watches) es id (subst Q from c.in-Some.ensures.conflict))

pub returns-in-Some-clause-variables : goal.returns-in-Some-clause-variables
returns-in-Some-clause-variables c = (stops c).same_variables

pub returns-in-Some-clause-same : goal.returns-in-Some-clause-same
returns-in-Some-clause-same c =
    let r = stops c in
    let held : attached_in c.self.inside.counters c.self.inside.watches ≡ c.args.self.now.attached = ap (λ (v : PropagatorView). v.attached) c.self.view_is in
    view_by c.close.new.self.variables c.args.self.now.variables (attached_in c.close.new.self c.closing.self-inside.watches) c.args.self.now.attached (counted_of c.close.new.self)
    (r.variables ∙ r.same_variables ∙ sym c.requires.variables)
    (run_held c.self.inside.counters c.close.new.self c.self.inside.watches c.closing.self-inside.watches c.args.trail.now c.close.new.trail c.closing.visited r ∙ held)

-- before the watched clauses are closed
goes_on : (c : goal.After-close-arg-in-closing-3-1)
    → IsRunning c.self.inside.counters c.self.inside.watches c.args.trail.now c.close.new.self c.closing.self-inside.watches c.close.new.trail c.closing.visited
goes_on c =
    let e = c.close.ensures in
    run_counted c.self.inside.counters c.closing.self-inside.counters c.close.new.self c.self.inside.watches c.closing.self-inside.watches c.args.trail.now c.closing.trail c.close.new.trail
    c.closing.visited c.closing.invariant e.built e.step e.counted e.slots e.variables e.trail_variables e.appends

pub close-requires-in-closing-clause-built : goal.close-requires-in-closing-clause-built
close-requires-in-closing-clause-built c = (goes_on c).watched

pub close-requires-in-closing-clause-few : goal.close-requires-in-closing-clause-few
close-requires-in-closing-clause-few c = (goes_on c).few

pub close-requires-in-closing-clause-guarded : goal.close-requires-in-closing-clause-guarded
close-requires-in-closing-clause-guarded c = (goes_on c).guarded

-- once a watched clause is in conflict
ends : (c : goal.In-Some-close)
    → IsRunning c.self.inside.counters c.self.inside.watches c.args.trail.now c.close.new.self c.close-in-closing.new.self c.close-in-closing.new.trail c.close-in-closing.new.visited
ends c =
    let s = c.self.inside.counters in
    let w = c.self.inside.watches in
    let d = c.close.ensures in
    let e = c.close-in-closing.ensures in
    run_watched s c.close.new.self w c.closing.self-inside.watches c.close-in-closing.new.self c.args.trail.now c.close.new.trail c.close-in-closing.new.trail c.closing.visited
    c.close-in-closing.new.visited
    (run_counted s c.closing.self-inside.counters c.close.new.self w c.closing.self-inside.watches c.args.trail.now c.closing.trail c.close.new.trail c.closing.visited c.closing.invariant d.built
    d.step d.counted d.slots d.variables d.trail_variables d.appends)
    c.self.invariant.apart d.counted e.built e.wholes e.closed e.guards e.variables e.appends e.few e.guarded

pub invariant_of-self-in-Some-close : goal.invariant_of-self-in-Some-close
invariant_of-self-in-Some-close c =
    run_ends c.self.inside.counters c.close.new.self c.self.inside.watches c.close-in-closing.new.self c.args.trail.now c.close-in-closing.new.trail c.close-in-closing.new.visited (ends c)
    c.self.invariant.apart

pub returns-in-Some-close-clause-appends : goal.returns-in-Some-close-clause-appends
returns-in-Some-close-clause-appends c =
    let held : attached_in c.self.inside.counters c.self.inside.watches ≡ c.args.self.now.attached = ap (λ (v : PropagatorView). v.attached) c.self.view_is in
    let P : List Attached → Type 0 = λ us. Appends us c.args.trail.now.entries c.close-in-closing.new.trail.entries in
    subst P held ((ends c).appends)

pub returns-in-Some-close-clause-conflict : goal.returns-in-Some-close-clause-conflict
returns-in-Some-close-clause-conflict c =
    let s = c.self.inside.counters in
    let w = c.self.inside.watches in
    let es = c.close-in-closing.new.trail.entries in
    let id : ConId = record { 0 = c.in-Some-close.slot } in
    let held : attached_in s w ≡ c.args.self.now.attached = ap (λ (v : PropagatorView). v.attached) c.self.view_is in
    let from : watched_in c.closing.self-inside.watches ≡ watched_in w = ap (attached_from 0) c.closing.invariant.wholes in
    let P : List Attached → Type 0 = λ us. IsConflict us es id in
    subst P held (conflict_second (attached_from 0 s.slots.items) (watched_in w) es id c.self.invariant.apart (subst P from c.in-Some-close.ensures.conflict))

pub returns-in-Some-close-clause-variables : goal.returns-in-Some-close-clause-variables
returns-in-Some-close-clause-variables c = (ends c).same_variables

pub returns-in-Some-close-clause-same : goal.returns-in-Some-close-clause-same
returns-in-Some-close-clause-same c =
    let r = ends c in
    let held : attached_in c.self.inside.counters c.self.inside.watches ≡ c.args.self.now.attached = ap (λ (v : PropagatorView). v.attached) c.self.view_is in
    view_by c.close.new.self.variables c.args.self.now.variables (attached_in c.close.new.self c.close-in-closing.new.self) c.args.self.now.attached (counted_of c.close.new.self)
    (r.variables ∙ r.same_variables ∙ sym c.requires.variables)
    (run_held c.self.inside.counters c.close.new.self c.self.inside.watches c.close-in-closing.new.self c.args.trail.now c.close-in-closing.new.trail c.close-in-closing.new.visited r ∙ held)

pub returns-in-Some-close-clause-counted : goal.returns-in-Some-close-clause-counted
returns-in-Some-close-clause-counted c = run_prefix c.close.new.self c.close-in-closing.new.trail.entries c.close.ensures.built (ends c).counted

-- once both are closed
all_through : (c : goal.After-close_at)
    → IsRunning c.self.inside.counters c.self.inside.watches c.args.trail.now c.close.new.self c.close-in-closing.new.self c.close-in-closing.new.trail c.close-in-closing.new.visited
all_through c =
    let s = c.self.inside.counters in
    let w = c.self.inside.watches in
    let d = c.close.ensures in
    let e = c.close-in-closing.ensures in
    run_watched s c.close.new.self w c.closing.self-inside.watches c.close-in-closing.new.self c.args.trail.now c.close.new.trail c.close-in-closing.new.trail c.closing.visited
    c.close-in-closing.new.visited
    (run_counted s c.closing.self-inside.counters c.close.new.self w c.closing.self-inside.watches c.args.trail.now c.closing.trail c.close.new.trail c.closing.visited c.closing.invariant d.built
    d.step d.counted d.slots d.variables d.trail_variables d.appends)
    c.self.invariant.apart d.counted e.built e.wholes e.closed e.guards e.variables e.appends e.few e.guarded

-- nothing was pushed between the two
same_trail : (c : goal.After-close_at) → c.close-in-closing.new.trail.entries ≡ c.close.new.trail.entries
same_trail c =
    let es = c.close.new.trail.entries in
    let fs = c.close-in-closing.new.trail.entries in
    let a = c.close-in-closing.ensures.appends in
    let n = lengths es c.literals-before.result.now c.literals-before.ensures in
    let m = lengths fs c.literals.result.now c.literals.ensures in
    let e = c.if-literals-before.true in
    sym (take_all (length es) fs (omega (arith, n, m, e))) ∙ a.kept

closed : (c : goal.After-close_at)
    → IsRunning c.self.inside.counters c.self.inside.watches c.args.trail.now c.close.new.self c.close_at.new.self c.close-in-closing.new.trail c.close-in-closing.new.visited
closed c =
    let fs = c.close-in-closing.new.trail.entries in
    let e = c.close_at.ensures in
    let n = lengths c.close.new.trail.entries c.literals-before.result.now c.literals-before.ensures in
    let same = same_trail c in
    run_closed c.self.inside.counters c.close.new.self c.self.inside.watches c.close-in-closing.new.self c.close_at.new.self c.args.trail.now c.close-in-closing.new.trail
    c.close-in-closing.new.visited (length c.literals-before.result.now) (all_through c) (c.close.ensures.counted ∙ ap lits_of (sym same)) (n ∙ ap (λ (us : List Entry). length us) (sym same)) e.slots
    e.lists e.closed

pub invariant_of-self-then-literals-before : goal.invariant_of-self-then-literals-before
invariant_of-self-then-literals-before c =
    run_ends c.self.inside.counters c.close.new.self c.self.inside.watches c.close_at.new.self c.args.trail.now c.close-in-closing.new.trail c.close-in-closing.new.visited (closed c)
    c.self.invariant.apart

pub returns-then-literals-before-clause-appends : goal.returns-then-literals-before-clause-appends
returns-then-literals-before-clause-appends c =
    let held : attached_in c.self.inside.counters c.self.inside.watches ≡ c.args.self.now.attached = ap (λ (v : PropagatorView). v.attached) c.self.view_is in
    let P : List Attached → Type 0 = λ us. Appends us c.args.trail.now.entries c.close-in-closing.new.trail.entries in
    subst P held ((closed c).appends)

pub returns-then-literals-before-clause-closed : goal.returns-then-literals-before-clause-closed
returns-then-literals-before-clause-closed c =
    let s = c.self.inside.counters in
    let w = c.self.inside.watches in
    let d = c.close.new.self in
    let es = c.close.new.trail.entries in
    let fs = c.close-in-closing.new.trail.entries in
    let held : attached_in s w ≡ c.args.self.now.attached = ap (λ (v : PropagatorView). v.attached) c.self.view_is in
    let from : attached_from 0 d.slots.items ≡ attached_from 0 s.slots.items = ap (λ us. attached_from 0 us.items) (closed c).slots in
    let also : watched_in c.closing.self-inside.watches ≡ watched_in w = ap (attached_from 0) c.closing.invariant.wholes in
    let P : List Attached → Type 0 = λ us. AllClosed us fs in
    let Q : List Entry → Type 0 = λ us. AllClosed (attached_from 0 d.slots.items) us in
    let first : AllClosed (attached_from 0 d.slots.items) es =
    all_closed d.variables d.slots.items d.rooms.items d.waiting (counted_of d) es c.close.ensures.step c.close.ensures.counted c.in_default.ensures.none_waits in
    subst P held (closed_both (attached_from 0 s.slots.items) (watched_in w) fs (subst P from (subst Q (sym (same_trail c)) first)) (subst P also c.in_default-close.ensures.all_closed))

pub returns-then-literals-before-clause-variables : goal.returns-then-literals-before-clause-variables
returns-then-literals-before-clause-variables c = (closed c).same_variables

pub returns-then-literals-before-clause-same : goal.returns-then-literals-before-clause-same
returns-then-literals-before-clause-same c =
    let r = closed c in
    let held : attached_in c.self.inside.counters c.self.inside.watches ≡ c.args.self.now.attached = ap (λ (v : PropagatorView). v.attached) c.self.view_is in
    view_by c.close.new.self.variables c.args.self.now.variables (attached_in c.close.new.self c.close_at.new.self) c.args.self.now.attached (counted_of c.close.new.self)
    (r.variables ∙ r.same_variables ∙ sym c.requires.variables)
    (run_held c.self.inside.counters c.close.new.self c.self.inside.watches c.close_at.new.self c.args.trail.now c.close-in-closing.new.trail c.close-in-closing.new.visited r ∙ held)

pub closing-preserved : goal.closing-preserved
closing-preserved c =
    let s = c.self.inside.counters in
    let w = c.self.inside.watches in
    let d = c.close.ensures in
    let e = c.close-in-closing.ensures in
    run_watched s c.close.new.self w c.closing.self-inside.watches c.close-in-closing.new.self c.args.trail.now c.close.new.trail c.close-in-closing.new.trail c.closing.visited
    c.close-in-closing.new.visited
    (run_counted s c.closing.self-inside.counters c.close.new.self w c.closing.self-inside.watches c.args.trail.now c.closing.trail c.close.new.trail c.closing.visited c.closing.invariant d.built
    d.step d.counted d.slots d.variables d.trail_variables d.appends)
    c.self.invariant.apart d.counted e.built e.wholes e.closed e.guards e.variables e.appends e.few e.guarded

pub closing-smaller : goal.closing-smaller
closing-smaller c =
    let a = c.close.ensures.appends.longer in
    let b = c.close-in-closing.ensures.appends.longer in
    let n = lengths c.close.new.trail.entries c.literals-before.result.now c.literals-before.ensures in
    let m = lengths c.close-in-closing.new.trail.entries c.literals.result.now c.literals.ensures in
    let f = c.assigned-assigned.ensures.few in
    let e = c.if-literals-before.false in
    let v = c.close.ensures.trail_variables in
    let u = c.close-in-closing.ensures.variables in
    omega (arith, a, b, n, m, f, e, u, v)
