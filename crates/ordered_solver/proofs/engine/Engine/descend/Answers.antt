use Rattle.std.proofs.Common.{◌≡◌, ◌∙◌, ◌<◌, ℕ, sym, ap, subst, arith, List, None, length, set, length-set}
use Rattle.trail_state.specs.Trail.{Entry, level_of}
use Rattle.trail_state.proofs.Levels.{level_of-le}
use Rattle.propagate.specs.Attached.{Attached}
use Rattle.propagate.specs.Forced.{Appends, AllClosed}
use Rattle.propagate.specs.Propagator.{PropagatorView}
use Rattle.ordered_solver.specs.Trails.{IsNext, IsOrdered, ArePassed, GoesOnFrom}
use Rattle.ordered_solver.proofs.Loading.{loaded_trail, counted_goes, closed_none}
use Rattle.ordered_solver.proofs.Steps.{ordered_appends, ordered_decide, goes_trans, goes_push, goes_appends}
use Rattle.ordered_solver.proofs.Places.{next_at, passed_appends, passed_decide, passed_here}
use Rattle.ordered_solver.proofs.engine.Engine.descend.Goals as goal

pub returns-then-is_some-clause-ordered : goal.returns-then-is_some-clause-ordered
returns-then-is_some-clause-ordered c =
    let i = c.loop-conflict.invariant in
    let A : List Attached → Type 0 = λ held. Appends held c.loop-conflict.self.trail.entries c.run-conflict.new.trail.entries in
    ordered_appends c.args.self.now.propagator.attached c.args.order.now c.loop-conflict.self.trail.entries c.run-conflict.new.trail.entries i.ordered
    (subst A i.attached c.run-conflict.ensures.appends)

pub returns-in-None-clause-ordered : goal.returns-in-None-clause-ordered
returns-in-None-clause-ordered c =
    let i = c.loop-conflict.invariant in
    let A : List Attached → Type 0 = λ held. Appends held c.loop-conflict.self.trail.entries c.run-conflict.new.trail.entries in
    ordered_appends c.args.self.now.propagator.attached c.args.order.now c.loop-conflict.self.trail.entries c.run-conflict.new.trail.entries i.ordered
    (subst A i.attached c.run-conflict.ensures.appends)

pub returns-then-is_some-clause-passed : goal.returns-then-is_some-clause-passed
returns-then-is_some-clause-passed c =
    let i = c.loop-conflict.invariant in
    let es : List Entry = c.loop-conflict.self.trail.entries in
    let mid : List Entry = c.run-conflict.new.trail.entries in
    let A : List Attached → Type 0 = λ held. Appends held es mid in
    passed_appends c.args.self.now.propagator.attached c.args.order.now c.loop-conflict.places es mid (subst A i.attached c.run-conflict.ensures.appends) i.passed

pub returns-in-None-clause-passed : goal.returns-in-None-clause-passed
returns-in-None-clause-passed c =
    let i = c.loop-conflict.invariant in
    let es : List Entry = c.loop-conflict.self.trail.entries in
    let mid : List Entry = c.run-conflict.new.trail.entries in
    let A : List Attached → Type 0 = λ held. Appends held es mid in
    passed_appends c.args.self.now.propagator.attached c.args.order.now c.loop-conflict.places es mid (subst A i.attached c.run-conflict.ensures.appends) i.passed

pub next_decision-requires : goal.next_decision-requires
next_decision-requires c =
    let i = c.loop-conflict.invariant in
    let es : List Entry = c.loop-conflict.self.trail.entries in
    let mid : List Entry = c.run-conflict.new.trail.entries in
    let A : List Attached → Type 0 = λ held. Appends held es mid in
    passed_here c.args.order.now c.loop-conflict.places mid c.level.result c.level.ensures (passed_appends c.args.self.now.propagator.attached c.args.order.now c.loop-conflict.places es mid
    (subst A i.attached c.run-conflict.ensures.appends) i.passed)

pub loop-conflict-preserved : goal.loop-conflict-preserved
loop-conflict-preserved c =
    let i = c.loop-conflict.invariant in
    let held : List Attached = c.args.self.now.propagator.attached in
    let order = c.args.order.now in
    let places : List ℕ = c.loop-conflict.places in
    let place = c.in-Some.place in
    let level = c.level-in-Some.result in
    let es : List Entry = c.loop-conflict.self.trail.entries in
    let mid : List Entry = c.run-conflict.new.trail.entries in
    let now : List Entry = c.decide.new.self.entries in
    let lit = c.index-order-place.result in
    let e : Entry = record { lit = lit; reason = None } in
    let p : PropagatorView = c.run-conflict.new.self in
    let same : p.attached ≡ c.loop-conflict.self.propagator.attached = ap (λ (q : PropagatorView). q.attached) c.run-conflict.ensures.same in
    let A : List Attached → Type 0 = λ h. Appends h es mid in
    let appends = subst A i.attached c.run-conflict.ensures.appends in
    let C : List Attached → Type 0 = λ h. AllClosed h mid in
    let closed = subst C i.attached (closed_none c.run-conflict.result c.is_some.result (AllClosed c.loop-conflict.self.propagator.attached mid) c.is_some.ensures c.if-is_some.false
    c.run-conflict.ensures.closed) in
    let O : List Entry → Type 0 = λ us. IsOrdered held order us in
    let S : List Entry → Type 0 = λ us. ArePassed order us (set places level place) in
    let H : List Entry → Type 0 = λ us. GoesOnFrom mid us in
    let entries = c.decide.ensures.entries in
    let goes : GoesOnFrom mid now = subst H (sym entries) (goes_push mid e) in
    let next : IsNext order mid lit = next_at order mid place lit c.in-Some.ensures.next c.index-order-place.is in
    let at = c.level-in-Some.ensures in
    let few = c.assigned-assigned-in-Some.ensures.few in
    let low = level_of-le now in
    let vars = c.decide.ensures.variables ∙ c.run-conflict.ensures.variables ∙ i.variables in
    let long = c.requires.long in
    let wide = i.same_length in
    let in-range : level < length places = omega arith in
    record {
      loaded = loaded_trail c.loop-conflict.self.store c.loop-conflict.self.propagator p c.loop-conflict.self.trail c.decide.new.self i.loaded same
          (ap (λ (q : PropagatorView). q.variables) c.run-conflict.ensures.same) (c.decide.ensures.variables ∙ c.run-conflict.ensures.variables)
          (counted_goes p c.run-conflict.new.trail c.decide.new.self goes c.run-conflict.ensures.counted);
      attached = same ∙ i.attached;
      variables = c.decide.ensures.variables ∙ c.run-conflict.ensures.variables ∙ i.variables;
      ordered = subst O (sym entries) (ordered_decide held order mid lit (ordered_appends held order es mid i.ordered appends) closed next);
      passed =
          subst S (sym entries) (passed_decide order places mid lit place level (at ∙ ap level_of entries) in-range c.in-Some.ensures.next.earlier
          (passed_appends held order places es mid appends i.passed));
      same_length = length-set places level place ∙ i.same_length;
      goes_on = goes_trans c.args.self.now.trail.entries mid now (goes_trans c.args.self.now.trail.entries es mid i.goes_on (goes_appends held es mid appends)) goes;
      store = i.store;
      log = i.log;
      kept = i.kept;
    }
