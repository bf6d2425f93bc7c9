use Rattle.std.proofs.Common.{◌≡◌, ◌∙◌, ◌<◌, ℕ, sym, ap, subst, refl, arith, List, [], ◌∷◌, ◌++◌, Some, length, take}
use Rattle.pb_rules.specs.declared.Term.{Term}
use Rattle.pb_rules.specs.Literal.{Literal}
use Rattle.pb_rules.specs.Linear.{VarsBelow}
use Rattle.trail_state.specs.Trail.{Entry, TrailView, value_in, upto_level}
use Rattle.trail_state.proofs.Levels.{upto_level-take}
use Rattle.propagate.specs.Attached.{Attached, ChangesOnly}
use Rattle.propagate.specs.Propagator.{PropagatorView}
use Rattle.propagate.proofs.Ready.{along_kept}
use Rattle.proof_log.specs.Log.{LogValue}
use Rattle.conflict_graph.specs.Derives.{Derives}
use Rattle.ordered_solver.specs.Trails.{HasUnassigned, IsUnassignedAt}
use Rattle.ordered_solver.proofs.Asserting.{back_below, leaves-one, found_one, asserts, learned_below}
use Rattle.ordered_solver.proofs.engine.Engine.learn.Goals as goal

pub jump_back-requires : goal.jump_back-requires
jump_back-requires c =
    let l = c.in_ok-lesson.lesson in
    let below = back_below c.args.self.now.trail.entries l.clause.terms l.back_level c.in_ok-lesson.ensures.back c.requires.level in
    omega arith

pub back-requires : goal.back-requires
back-requires c =
    let s = c.args.self.now in
    let es = s.trail.entries in
    let P : List Entry → Type 0 = λ us. take (length us) es ≡ us in
    along_kept s.propagator s.trail c.jump_back.new.self c.requires.loaded.ready.counted (subst P (sym c.jump_back.ensures.entries) (upto_level-take c.in_ok-lesson.lesson.back_level es))

pub unassigned_literal-lit-requires : goal.unassigned_literal-lit-requires
unassigned_literal-lit-requires c =
    let l = c.in_ok-lesson.lesson in
    let es = c.args.self.now.trail.entries in
    let P : List Entry → Type 0 = λ us. HasUnassigned (value_in us) l.clause.terms in
    subst P (sym c.jump_back.ensures.entries) (found_one (value_in (upto_level l.back_level es)) l.clause
    (leaves-one c.args.self.now.store es l.clause l.back_level c.in_ok-lesson.ensures.learned c.in_ok-lesson.ensures.back c.requires.level))

pub add-requires-clause-in_range : goal.add-requires-clause-in_range
add-requires-clause-in_range c =
    let l = c.in_ok-lesson.lesson in
    let s = c.args.self.now in
    let P : ℕ → Type 0 = λ n. VarsBelow n l.clause.terms in
    subst P (sym c.jump_back.ensures.variables) (learned_below s.store s.trail.entries l.clause s.trail.variables c.in_ok-lesson.ensures.learned c.assigned-assigned.ensures.in_range)

pub push-requires-clause-in_range : goal.push-requires-clause-in_range
push-requires-clause-in_range c =
    let l = c.in_ok-lesson.lesson in
    let s = c.args.self.now in
    let u = c.unassigned_literal-lit.ensures in
    let d : Term = record { coef = 0; lit = c.unassigned_literal-lit.result } in
    let below = learned_below s.store s.trail.entries l.clause s.trail.variables c.in_ok-lesson.ensures.learned c.assigned-assigned.ensures.in_range u.place d u.in_terms in
    let there = u.there d in
    let P : Literal → Type 0 = λ m. m.var < s.trail.variables in
    let Q : ℕ → Type 0 = λ n. c.unassigned_literal-lit.result.var < n in
    subst Q (sym (ap (λ (t : TrailView). t.variables) c.in_ok-id.ensures.trail ∙ c.jump_back.ensures.variables)) (subst P there below)

pub returns-clause-learns : goal.returns-clause-learns
returns-clause-learns c =
    let l = c.in_ok-lesson.lesson in
    let s = c.args.self.now in
    let es = s.trail.entries in
    let kept : List Entry = upto_level l.back_level es in
    let lit = c.unassigned_literal-lit.result in
    let id = c.in_ok-id.id in
    let e : Entry = record { lit = lit; reason = Some id } in
    let U : List Entry → Type 0 = λ us. IsUnassignedAt (value_in us) l.clause.terms lit in
    let held : c.back.new.self.attached ≡ s.propagator.attached = ap (λ (p : PropagatorView). p.attached) c.back.ensures.same in
    let C : List Attached → Type 0 = λ h. ChangesOnly h c.add.new.self.propagator.attached id (Some l.clause) in
    let D : LogValue → Type 0 = λ v. Derives s.store s.log v l.clause in
    record {
      clause = record { id = id; constraint = l.clause; proof_id = l.proof_id };
      under = refl;
      added = c.in_ok-id.ensures.added;
      fresh = c.in_ok-id.ensures.fresh;
      derives = subst D (sym c.in_ok-id.ensures.log) c.in_ok-lesson.ensures.derives;
      proof_id = c.in_ok-lesson.ensures.proof_id;
      small = c.in_ok-lesson.ensures.in_range;
      learned = c.in_ok-lesson.ensures.learned;
      back = l.back_level;
      level_below = c.in_ok-lesson.ensures.back;
      attached = subst C held c.in_ok-id.ensures.attached;
      lit = lit;
      forces =
          asserts s.store es l.clause l.back_level lit c.in_ok-lesson.ensures.learned c.in_ok-lesson.ensures.back c.requires.level
          (subst U c.jump_back.ensures.entries c.unassigned_literal-lit.ensures);
      pushed = c.push.ensures.entries ∙ ap (λ (t : TrailView). t.entries ++ e ∷ []) c.in_ok-id.ensures.trail ∙ ap (λ (us : List Entry). us ++ e ∷ []) c.jump_back.ensures.entries;
    }
