use Rattle.std.proofs.Common.{◌≡◌, ◌∙◌, ◌∷◌, ◌++◌, [], sym, ap, subst, arith}
use Rattle.pb_rules.specs.Linear.{Linear, VarsBelow}
use Rattle.pb_rules.specs.Clauses.{contradiction}
use Rattle.pb_rules.specs.Honest.{IsPropagated}
use Rattle.proof_log.specs.Log.{LogValue}
use Rattle.conflict_graph.specs.Derives.{Derives}
use Rattle.conflict_graph.specs.Learned.{constraints_in}
use Rattle.ordered_solver.proofs.engine.Engine.refute.Goals as goal

pub add-requires-clause-in_range : goal.add-requires-clause-in_range
add-requires-clause-in_range c =
    let is : c.in_ok-lesson.lesson.clause ≡ contradiction = c.in_ok-lesson.ensures.learned.at_level_zero c.requires.level in
    let P : Linear → Type 0 = λ k. VarsBelow c.args.self.now.trail.variables k.terms in
    subst P (sym is) (λ k d l. absurd (omega (arith, l)))

pub returns-clause-refutes : goal.returns-clause-refutes
returns-clause-refutes c =
    let l = c.in_ok-lesson.lesson in
    let s = c.args.self.now in
    let id = c.in_ok-id.id in
    let is : l.clause ≡ contradiction = c.in_ok-lesson.ensures.learned.at_level_zero c.requires.level in
    let D : LogValue → Linear → Type 0 = λ v k. Derives s.store s.log v k in
    record {
      proof_id = l.proof_id;
      added = c.in_ok-id.ensures.added ∙ ap (λ (k : Linear). s.store ++ record { id = id; constraint = k; proof_id = l.proof_id } ∷ []) is;
      fresh = c.in_ok-id.ensures.fresh;
      derives = subst (D c.add.new.self.log) is (subst (λ (v : LogValue). D v l.clause) (sym c.in_ok-id.ensures.log) c.in_ok-lesson.ensures.derives);
      next = c.in_ok-lesson.ensures.proof_id;
      small = c.in_ok-lesson.ensures.in_range;
      propagated = subst (λ (k : Linear). IsPropagated (constraints_in s.store) k) is c.in_ok-lesson.ensures.learned.propagated;
    }
