-- Clauses as the sign of each variable's literal, and the operations that make one of a constraint in conflict.
use Rattle.std.specs.Prelude.{ℕ, zero, suc, Bool, Option, Some, None, ◌+◌, ◌-◌, ◌==◌, nat_lt, max, List, [], ◌∷◌, ◌++◌, if◌then◌else◌}
use Rattle.pb_rules.specs.declared.Term.{Term}
use Rattle.pb_rules.specs.Linear.{Linear}
use Rattle.pb_rules.specs.Partial.{is_false, open_weight}
use Rattle.pb_rules.specs.declared.Op.{Op}
use Rattle.pb_rules.specs.declared.Op.TheVariants.{Id, Divide, Saturate, Weaken}

-- a literal of coefficient 1 in front, where there is a sign
abbrev pub with_literal : ℕ → Option Bool → List Term → List Term
with_literal x None ts = ts
with_literal x (Some b) ts = record { coef = 1; lit = record { var = x; yes = b } } ∷ ts

-- the terms of a clause, which is given as the sign of the literal of each variable, from a variable on
abbrev pub clause_row : ℕ → ℕ → (ℕ → Option Bool) → List Term
clause_row zero x f = []
clause_row (suc n) x f = with_literal x (f x) (clause_row n (x + 1) f)

-- the clause over so many variables
abbrev pub clause_of : ℕ → (ℕ → Option Bool) → Linear
clause_of n f = record { terms = clause_row n 0 f; degree = 1 }

-- the terms whose literals are false
abbrev pub false_terms : (ℕ → Option Bool) → List Term → List Term
false_terms a [] = []
false_terms a (t ∷ ts) = if is_false a t.lit then t ∷ false_terms a ts else false_terms a ts

-- the signs of the literals that are false
abbrev pub false_signs : (ℕ → Option Bool) → List Term → ℕ → Option Bool
false_signs a [] x = None
false_signs a (t ∷ ts) x = if t.lit.var == x then (if is_false a t.lit then Some t.lit.yes else None) else false_signs a ts x

-- weakening on the variable of each literal that is not false
abbrev pub weakenings : (ℕ → Option Bool) → List Term → List Op
weakenings a [] = []
weakenings a (t ∷ ts) = if is_false a t.lit then weakenings a ts else Weaken t.lit.var ∷ weakenings a ts

-- the greatest coefficient, or 0 where there are no terms
abbrev pub greatest : List Term → ℕ
greatest [] = 0
greatest (t ∷ ts) = max t.coef (greatest ts)

-- a saturation and a division by the degree, each where it changes something
abbrev pub finishing : ℕ → ℕ → List Op
finishing degree most = (if nat_lt degree most then Saturate ∷ [] else []) ++ (if nat_lt 1 degree then Divide degree ∷ [] else [])

-- from a constraint in conflict to the clause of its false literals
abbrev pub clause_ops : ℕ → (ℕ → Option Bool) → Linear → List Op
clause_ops id a c = Id id ∷ (weakenings a c.terms ++ finishing (c.degree - open_weight a c.terms) (greatest (false_terms a c.terms)))
