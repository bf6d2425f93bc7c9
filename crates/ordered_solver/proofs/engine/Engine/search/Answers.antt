use Rattle.std.proofs.Common.{◌≡◌, ◌∙◌, ◌<◌, ◌+◌, ℕ, sym, ap, subst, refl, arith, List, length}
use Rattle.std.specs.Vec.{with_items}
use Rattle.std.proofs.lemmas.List.{with_items_is}
use Rattle.pb_constraints.specs.declared.ConId.{ConId}
use Rattle.trail_state.specs.Trail.{level_of}
use Rattle.propagate.specs.Attached.{Attached}
use Rattle.propagate.specs.Forced.{IsConflict, AllClosed}
use Rattle.ordered_solver.specs.declared.answer.Answer.TheVariants.{Model}
use Rattle.ordered_solver.specs.Lessons.{HasAdded, IsCounted, IsFound}
use Rattle.ordered_solver.specs.Trails.{IsOrdered, ArePassed, Covers}
use Rattle.ordered_solver.proofs.Ends.{found_budget, found_nothing, found_model}
use Rattle.ordered_solver.proofs.Lessons.{learned_none, added_refuted}
use Rattle.ordered_solver.proofs.Places.{passed_start, passed_learns}
use Rattle.ordered_solver.proofs.Turns.{usable, all_forced, current, are_held, learned_same, turn_learned, turn_ordered, turn_word, turn_smaller, turn_counted, still_counted, empty_ordered}
use Rattle.ordered_solver.proofs.engine.Engine.search.Goals as goal

pub loop-conflict-init : goal.loop-conflict-init
loop-conflict-init c =
    let s = c.args.self.now in
    let many = c.variables.ensures.value in
    let enough = c.in_ok-places.ensures.long in
    let long : s.trail.variables < length c.in_ok-places.places.items = omega arith in
    record {
      loaded = c.requires.loaded;
      variables = refl;
      ordered = empty_ordered s.propagator.attached c.args.order.now s.trail.entries c.requires.nothing;
      passed = passed_start c.args.order.now s.trail.entries c.in_ok-places.places.items c.in_ok-places.ensures.start;
      long = long;
      learned = learned_none s.store s.kept.items s.log;
      counted = omega arith;
      below = c.requires.some;
    }

pub refute-requires-clause-usable : goal.refute-requires-clause-usable
refute-requires-clause-usable c =
    let s = c.descend.new.self in
    let H : List Attached → Type 0 = λ held. IsConflict held s.trail.entries c.in-Some.conflict in
    let k = subst H (sym c.descend.ensures.attached) c.in-Some.ensures.conflict in
    usable s.store s.propagator s.trail c.in-Some.conflict k.constraint c.descend.ensures.loaded k.attached

pub refute-requires-clause-forced : goal.refute-requires-clause-forced
refute-requires-clause-forced c =
    let s = c.descend.new.self in
    let O : List Attached → Type 0 = λ held. IsOrdered held c.args.order.now s.trail.entries in
    all_forced s.store s.propagator s.trail c.args.order.now c.descend.ensures.loaded (subst O (sym c.descend.ensures.attached) c.descend.ensures.ordered)

pub learn-requires-clause-usable : goal.learn-requires-clause-usable
learn-requires-clause-usable c =
    let s = c.descend.new.self in
    let H : List Attached → Type 0 = λ held. IsConflict held s.trail.entries c.in-Some.conflict in
    let k = subst H (sym c.descend.ensures.attached) c.in-Some.ensures.conflict in
    usable s.store s.propagator s.trail c.in-Some.conflict k.constraint c.descend.ensures.loaded k.attached

pub learn-requires-clause-current : goal.learn-requires-clause-current
learn-requires-clause-current c =
    let s = c.descend.new.self in
    let H : List Attached → Type 0 = λ held. IsConflict held s.trail.entries c.in-Some.conflict in
    let O : List Attached → Type 0 = λ held. IsOrdered held c.args.order.now s.trail.entries in
    let not-zero = c.if-level-eq0.false in
    let is = c.level.ensures in
    current s.store s.propagator s.trail c.args.order.now c.in-Some.conflict c.descend.ensures.loaded (subst O (sym c.descend.ensures.attached) c.descend.ensures.ordered)
    (subst H (sym c.descend.ensures.attached) c.in-Some.ensures.conflict) (omega arith)

pub learn-requires-clause-forced : goal.learn-requires-clause-forced
learn-requires-clause-forced c =
    let s = c.descend.new.self in
    let O : List Attached → Type 0 = λ held. IsOrdered held c.args.order.now s.trail.entries in
    all_forced s.store s.propagator s.trail c.args.order.now c.descend.ensures.loaded (subst O (sym c.descend.ensures.attached) c.descend.ensures.ordered)

pub returns-in_default-clause-found : goal.returns-in_default-clause-found
returns-in_default-clause-found c =
    let l = c.loop-conflict.self in
    let s = c.descend.new.self in
    let i = c.loop-conflict.invariant in
    let d = c.descend.ensures in
    let start = c.args.self.now in
    let order = c.args.order.now in
    let n = c.loop-conflict.conflicts in
    let held : List Attached = s.propagator.attached in
    let v : ℕ = s.trail.variables in
    let many : v ≡ start.trail.variables = d.variables ∙ i.variables in
    let learned = learned_same start.store l.store s.store start.kept.items l.kept.items s.kept.items start.log l.log s.log n d.store (d.kept) d.log i.learned in
    let O : List Attached → Type 0 = λ h. IsOrdered h order s.trail.entries in
    let C : List Attached → Type 0 = λ h. AllClosed h s.trail.entries in
    let F : ℕ → Type 0 = λ m. IsFound start.store start.log s.log order m c.args.budget (Model c.in_ok-values_of.field-0) in
    let V : ℕ → Type 0 = λ m. Covers order m in
    let below = i.below in
    let every = c.requires.every in
    subst F many (found_model start.store s.store start.kept.items s.kept.items held start.log s.log order v c.args.budget n s.trail.entries c.in_ok-values_of.field-0 learned below
    (still_counted l.trail.variables v l.trail.entries s.trail.entries n d.variables d.goes_on i.counted) (c.requires.every ∙ sym many) (subst V (sym many) c.requires.covers)
    d.loaded.attached d.loaded.in_range (are_held s.store s.propagator s.trail d.loaded) (subst O (sym d.attached) d.ordered).search c.in_default.ensures.full
    (subst C (sym d.attached) c.in_default.ensures.closed)
    c.assigned-assigned.ensures.distinct c.assigned-assigned.ensures.in_range c.in_ok-values_of.ensures)

pub returns-then-level-eq0-clause-found : goal.returns-then-level-eq0-clause-found
returns-then-level-eq0-clause-found c =
    let l = c.loop-conflict.self in
    let s = c.descend.new.self in
    let i = c.loop-conflict.invariant in
    let d = c.descend.ensures in
    let start = c.args.self.now in
    let n = c.loop-conflict.conflicts in
    let learned = learned_same start.store l.store s.store start.kept.items l.kept.items s.kept.items start.log l.log s.log n d.store (d.kept) d.log i.learned in
    let K : ℕ → Type 0 = λ m. IsCounted m l.trail.entries n in
    let below = i.below in
    found_nothing start.store s.store c.refute.new.self.store start.kept.items s.kept.items start.log s.log c.refute.new.self.log c.in_ok-refute.field-0 c.args.order.now start.trail.variables
    c.args.budget n l.trail.entries learned c.in_ok-refute.ensures.refutes below (subst K i.variables i.counted)

pub returns-in_default-clause-added : goal.returns-in_default-clause-added
returns-in_default-clause-added c =
    let l = c.loop-conflict.self in
    let s = c.descend.new.self in
    let i = c.loop-conflict.invariant in
    let d = c.descend.ensures in
    let start = c.args.self.now in
    let learned = learned_same start.store l.store s.store start.kept.items l.kept.items s.kept.items start.log l.log s.log c.loop-conflict.conflicts d.store d.kept d.log i.learned in
    learned.added

pub returns-then-level-eq0-clause-added : goal.returns-then-level-eq0-clause-added
returns-then-level-eq0-clause-added c =
    let l = c.loop-conflict.self in
    let s = c.descend.new.self in
    let w = c.refute.new.self in
    let i = c.loop-conflict.invariant in
    let d = c.descend.ensures in
    let start = c.args.self.now in
    let learned = learned_same start.store l.store s.store start.kept.items l.kept.items s.kept.items start.log l.log s.log c.loop-conflict.conflicts d.store d.kept d.log i.learned in
    let A : List ConId → Type 0 = λ is. HasAdded start.store w.store start.kept.items is start.log w.log in
    subst A (sym c.in_ok-refute.ensures.id) (added_refuted start.store s.store w.store start.kept.items s.kept.items start.log s.log w.log c.in_ok-refute.field-0 learned.added
    c.in_ok-refute.ensures.refutes)

pub returns-then-conflicts-budget-clause-found : goal.returns-then-conflicts-budget-clause-found
returns-then-conflicts-budget-clause-found c =
    let l = c.loop-conflict.self in
    let s = c.descend.new.self in
    let w = c.learn.new.self in
    let i = c.loop-conflict.invariant in
    let d = c.descend.ensures in
    let start = c.args.self.now in
    let order = c.args.order.now in
    let n = c.loop-conflict.conflicts in
    let not-zero = c.if-level-eq0.false in
    let is = c.level.ensures in
    let high : 0 < level_of s.trail.entries = omega arith in
    let learned = learned_same start.store l.store s.store start.kept.items l.kept.items s.kept.items start.log l.log s.log n d.store (d.kept) d.log i.learned in
    let O : List Attached → Type 0 = λ h. IsOrdered h order s.trail.entries in
    let ordered = subst O (sym d.attached) d.ordered in
    let more = turn_learned start.store s.store w.store start.kept.items s.kept.items w.kept.items s.propagator s.trail w.propagator.attached order w.trail.entries start.log s.log w.log n
    c.in_ok-learn.field-0 d.loaded ordered high learned c.in_ok-learn.ensures.learns c.in_ok-learn.ensures.id in
    let few = d.few in
    let vars = d.variables in
    let rise = turn_word s.store w.store s.propagator.attached w.propagator.attached l.trail.entries s.trail.entries w.trail.entries s.log w.log c.in_ok-learn.field-0 l.trail.variables d.goes_on
    (omega arith) high c.in_ok-learn.ensures.learns in
    let counted = turn_counted l.trail.variables start.trail.variables l.trail.entries w.trail.entries n (sym i.variables) rise i.counted in
    found_budget start.store w.store start.kept.items w.kept.items start.log w.log order start.trail.variables c.args.budget (n + 1) w.trail.entries more c.if-conflicts-budget.true counted

pub returns-then-conflicts-budget-clause-added : goal.returns-then-conflicts-budget-clause-added
returns-then-conflicts-budget-clause-added c =
    let l = c.loop-conflict.self in
    let s = c.descend.new.self in
    let w = c.learn.new.self in
    let i = c.loop-conflict.invariant in
    let d = c.descend.ensures in
    let start = c.args.self.now in
    let order = c.args.order.now in
    let n = c.loop-conflict.conflicts in
    let not-zero = c.if-level-eq0.false in
    let is = c.level.ensures in
    let high : 0 < level_of s.trail.entries = omega arith in
    let learned = learned_same start.store l.store s.store start.kept.items l.kept.items s.kept.items start.log l.log s.log n d.store (d.kept) d.log i.learned in
    let O : List Attached → Type 0 = λ h. IsOrdered h order s.trail.entries in
    let ordered = subst O (sym d.attached) d.ordered in
    let more = turn_learned start.store s.store w.store start.kept.items s.kept.items w.kept.items s.propagator s.trail w.propagator.attached order w.trail.entries start.log s.log w.log n
    c.in_ok-learn.field-0 d.loaded ordered high learned c.in_ok-learn.ensures.learns c.in_ok-learn.ensures.id in
    more.added

pub loop-conflict-smaller : goal.loop-conflict-smaller
loop-conflict-smaller c =
    let l = c.loop-conflict.self in
    let s = c.descend.new.self in
    let w = c.learn.new.self in
    let d = c.descend.ensures in
    let not-zero = c.if-level-eq0.false in
    let is = c.level.ensures in
    let high : 0 < level_of s.trail.entries = omega arith in
    let few = d.few in
    let vars = d.variables in
    let rise = turn_word s.store w.store s.propagator.attached w.propagator.attached l.trail.entries s.trail.entries w.trail.entries s.log w.log c.in_ok-learn.field-0 l.trail.variables d.goes_on
    (omega arith) high c.in_ok-learn.ensures.learns in
    turn_smaller l.trail.variables w.trail.variables l.trail.entries w.trail.entries (c.learn.ensures.variables ∙ d.variables) rise

pub loop-conflict-preserved : goal.loop-conflict-preserved
loop-conflict-preserved c =
    let l = c.loop-conflict.self in
    let s = c.descend.new.self in
    let w = c.learn.new.self in
    let i = c.loop-conflict.invariant in
    let d = c.descend.ensures in
    let start = c.args.self.now in
    let order = c.args.order.now in
    let n = c.loop-conflict.conflicts in
    let not-zero = c.if-level-eq0.false in
    let is = c.level.ensures in
    let high : 0 < level_of s.trail.entries = omega arith in
    let learned = learned_same start.store l.store s.store start.kept.items l.kept.items s.kept.items start.log l.log s.log n d.store (d.kept) d.log i.learned in
    let O : List Attached → Type 0 = λ h. IsOrdered h order s.trail.entries in
    let ordered = subst O (sym d.attached) d.ordered in
    let few = d.few in
    let vars = d.variables in
    let rise = turn_word s.store w.store s.propagator.attached w.propagator.attached l.trail.entries s.trail.entries w.trail.entries s.log w.log c.in_ok-learn.field-0 l.trail.variables d.goes_on
    (omega arith) high c.in_ok-learn.ensures.learns in
    let below = i.below in
    let not-all = c.if-conflicts-budget.false in
    let same : length c.descend.new.places ≡ length c.loop-conflict.places.items = d.same_length ∙ ap (λ (us : List ℕ). length us) c.deref_mut.ensures.value in
    let items : (with_items c.loop-conflict.places c.descend.new.places).items ≡ c.descend.new.places =
    with_items_is c.loop-conflict.places c.descend.new.places (omega (arith, same, c.loop-conflict.places.ok.0)) in
    let S : List ℕ → Type 0 = λ us. ArePassed order w.trail.entries us in
    let N : List ℕ → Type 0 = λ us. w.trail.variables < length us in
    let after = c.learn.ensures.variables in
    let long = i.long in
    record {
      loaded = c.in_ok-learn.ensures.loaded;
      variables = c.learn.ensures.variables ∙ d.variables ∙ i.variables;
      ordered = turn_ordered s.store w.store s.propagator s.trail w.propagator.attached order w.trail.entries s.log w.log c.in_ok-learn.field-0 d.loaded ordered high c.in_ok-learn.ensures.learns;
      passed = subst S (sym items) (passed_learns s.store w.store s.propagator.attached w.propagator.attached order c.descend.new.places s.trail.entries w.trail.entries s.log w.log
          c.in_ok-learn.field-0 c.in_ok-learn.ensures.learns high d.passed);
      long = subst N (sym items) (omega arith);
      learned = turn_learned start.store s.store w.store start.kept.items s.kept.items w.kept.items s.propagator s.trail w.propagator.attached order w.trail.entries start.log s.log w.log n
          c.in_ok-learn.field-0 d.loaded ordered high learned c.in_ok-learn.ensures.learns c.in_ok-learn.ensures.id;
      counted = turn_counted l.trail.variables w.trail.variables l.trail.entries w.trail.entries n (c.learn.ensures.variables ∙ d.variables) rise i.counted;
      below = omega arith;
    }
