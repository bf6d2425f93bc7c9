use Rattle.std.proofs.Common.{◌≡◌, ◌<◌, ◌≤◌, ◌+◌, ◌++◌, ◌∷◌, [], ◌∙◌, sym, ap, subst, arith, List, ℕ, zero, suc, length, get_or}
use Rattle.pb_rules.specs.declared.Term.{Term}
use Rattle.pb_rules.specs.Literal.{Literal}
use Rattle.pb_rules.specs.Linear.{IsNormal}
use Rattle.solver_tests.proofs.learning.unit.Goals as goal

abbrev one : Literal → List Term
one l = record { coef = 1; lit = l } ∷ []

positive : (l : Literal) (k : ℕ) (d : Term) → k < 1 → 0 < (get_or (one l) k d).coef
positive l zero d h = omega arith
positive l (suc k) d h = absurd (omega arith)

rising : (l : Literal) (i j : ℕ) (d : Term) → i < j → j < 1 → (get_or (one l) i d).lit.var < (get_or (one l) j d).lit.var
rising l i j d p q = absurd (omega arith)

normal : (l : Literal) → IsNormal (one l) 1
normal l = record { positive = positive l; rising = rising l; small = omega arith; small_degree = omega arith }

pub of_normal-requires : goal.of_normal-requires
of_normal-requires c =
    let P : List Term → Type 0 = λ ts. IsNormal ts 1 in
    let p : List Term → List Term = λ os. let r : Term = record { coef = 1; lit = c.args.lit } in os ++ r ∷ [] in
    subst P (sym (c.in_ok-push.ensures.items ∙ ap p c.new-terms.ensures.items)) (normal c.args.lit)
