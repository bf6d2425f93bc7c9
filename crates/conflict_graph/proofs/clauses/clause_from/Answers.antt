use Rattle.std.proofs.Common.{◌≡◌, ◌∙◌, ◌<◌, ◌++◌, ◌∷◌, [], arith, sym, ap, Option, Some, Bool, List, subst, zero-add, length, ◌^◌}
use Rattle.std.proofs.lemmas.List.{append-nil}
use Rattle.pb_rules.specs.declared.Term.{Term}
use Rattle.pb_rules.specs.Literal.{Literal}
use Rattle.pb_rules.specs.Linear.{IsNormal}
use Rattle.conflict_graph.specs.Clauses.{clause_row, with_literal}
use Rattle.conflict_graph.proofs.Rows.{row_more}
use Rattle.conflict_graph.specs.Learning.{signs}
use Rattle.conflict_graph.proofs.Ends.{row_normal}
use Rattle.conflict_graph.proofs.clauses.clause_from.Goals as goal
use Rattle.conflict_graph.proofs.clauses.clause_from.Goals.{in-Some+in_ok-push, in_default}

pub loop-x-preserved : goal.loop-x-preserved
loop-x-preserved c =
    let f = signs c.args.clause.now in
    let x = c.loop-x.x in
    let more = row_more x 0 f x (sym (zero-add x)) in
    let inv : c.loop-x.terms.items ≡ clause_row x 0 f = c.loop-x.invariant in
    let R : Option Bool → List Term = λ o. clause_row x 0 f ++ with_literal x o [] in
    elim c.match-clause-x.branch [
      | in-Some+in_ok-push w ↦ (rw w.terms-is (w.in_ok-push.ensures.items ∙ ap (λ (l : Literal). let t : Term = record { coef = 1; lit = l } in c.loop-x.terms.items ++ t ∷ []) w.literal.ensures
          ∙ ap (λ (ts : List Term). ts ++ with_literal x (Some w.in-Some.yes) []) inv ∙ ap R (sym w.in-Some.is) ∙ sym more))
      | in_default w ↦ (rw w.terms-is (inv ∙ sym (append-nil (clause_row x 0 f)) ∙ ap R (sym w.in_default.is) ∙ sym more))
    ]

pub of_normal-requires : goal.of_normal-requires
of_normal-requires c =
    let P : List Term → Type 0 = λ ts. IsNormal ts 1 in
    let few : length c.args.clause.now < 2 ^ 62 = c.requires in
    subst P (sym c.loop-x.invariant) (row_normal c.loop-x.x (signs c.args.clause.now) (omega arith))
