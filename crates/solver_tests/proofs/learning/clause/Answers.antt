use Rattle.std.proofs.Common.{◌≡◌, ◌<◌, ◌≤◌, ◌+◌, ◌++◌, ◌∷◌, [], ◌∙◌, sym, ap, subst, arith, List, ℕ, zero, suc, length, get_or}
use Rattle.pb_rules.specs.declared.Term.{Term}
use Rattle.pb_rules.specs.Literal.{Literal}
use Rattle.pb_rules.specs.Linear.{IsNormal}
use Rattle.solver_tests.proofs.learning.clause.Goals as goal

abbrev two : Literal → Literal → List Term
two l m = record { coef = 1; lit = l } ∷ record { coef = 1; lit = m } ∷ []

positive : (l m : Literal) (k : ℕ) (d : Term) → k < 2 → 0 < (get_or (two l m) k d).coef
positive l m zero d h = omega arith
positive l m (suc zero) d h = omega arith
positive l m (suc (suc k)) d h = absurd (omega arith)

rising : (l m : Literal) → l.var < m.var → (i j : ℕ) (d : Term) → i < j → j < 2 → (get_or (two l m) i d).lit.var < (get_or (two l m) j d).lit.var
rising l m h zero zero d p q = absurd (omega arith)
rising l m h zero (suc zero) d p q = h
rising l m h zero (suc (suc j)) d p q = absurd (omega arith)
rising l m h (suc i) zero d p q = absurd (omega arith)
rising l m h (suc i) (suc zero) d p q = absurd (omega arith)
rising l m h (suc i) (suc (suc j)) d p q = absurd (omega arith)

normal : (l m : Literal) → l.var < m.var → IsNormal (two l m) 1
normal l m h = record { positive = positive l m; rising = rising l m h; small = omega arith; small_degree = omega arith }

pub of_normal-requires : goal.of_normal-requires
of_normal-requires c =
    let P : List Term → Type 0 = λ ts. IsNormal ts 1 in
    let one : List Term = record { coef = 1; lit = c.args.first } ∷ [] in
    let q : List Term → List Term = λ os. let r : Term = record { coef = 1; lit = c.args.second } in os ++ r ∷ [] in
    let p : List Term → List Term = λ os. let r : Term = record { coef = 1; lit = c.args.first } in os ++ r ∷ [] in
    subst P (sym (c.in_ok-push-2.ensures.items ∙ ap q (c.in_ok-push.ensures.items ∙ ap p c.new-terms.ensures.items))) (normal c.args.first c.args.second c.requires)
