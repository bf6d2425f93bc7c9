use Rattle.std.proofs.Common.{◌≡◌, ◌≢◌, ◌∙◌, get_or, length, ap, subst, arith, List, None}
use Rattle.pb_rules.specs.declared.Term.{Term}
use Rattle.pb_rules.specs.Literal.{Literal}
use Rattle.trail_state.specs.Trail.{value_in}
use Rattle.ordered_solver.proofs.learning.unassigned_literal.Goals as goal

pub unreachable-requires : goal.unreachable-requires
unreachable-requires c =
    let at = c.requires.at in
    let d : Term = record { coef = 0; lit = c.requires.lit } in
    let terms = c.terms-terms.result.now in
    let is = c.terms-terms.ensures.value in
    let len = ap length is in
    let within = at.in_terms in
    let assigned = c.loop-t.invariant at.place d (omega arith) in
    let P : List Term → Type 0 = λ ts. value_in c.args.trail.now.entries (get_or ts at.place d).lit.var ≢ None in
    let there : (get_or c.args.clause.now.terms at.place d).lit ≡ c.requires.lit = at.there d in
    subst P is assigned (ap (λ (l : Literal). value_in c.args.trail.now.entries l.var) there ∙ at.unassigned)
