-- Partial assignments: conflict, forced literals, closed assignments.
use Rattle.std.specs.Prelude.{ℕ, Bool, Option, Some, None, not, true, false, ◌≡◌, ◌==◌, ◌+◌, ◌<◌, ◌≤◌, List, All, Contains, sum_by, if◌then◌else◌}
use Rattle.pb_rules.specs.declared.Term.{Term}
use Rattle.pb_rules.specs.Literal.{Literal}
use Rattle.pb_rules.specs.Linear.{Linear}

-- whether a value is the opposite of a literal's
abbrev pub falsifies : Option Bool → Bool → Bool
falsifies None wanted = false
falsifies (Some true) wanted = not wanted
falsifies (Some false) wanted = wanted

-- whether a literal is false under a partial assignment
abbrev pub is_false : (ℕ → Option Bool) → Literal → Bool
is_false p l = falsifies (p l.var) l.yes

-- the room of a constraint: the sum of the coefficients of the literals that are not false
abbrev pub open_weight : (ℕ → Option Bool) → List Term → ℕ
open_weight p ts = sum_by (λ t. if is_false p t.lit then 0 else t.coef) ts

-- the slack, which is the room less the degree, is negative
abbrev pub InConflict : (ℕ → Option Bool) → Linear → Type 0
InConflict p c = open_weight p c.terms < c.degree

-- an unassigned literal of a coefficient greater than the slack
pub record Forces (p : ℕ → Option Bool) (c : Linear) (l : Literal) : Type 0 where
  pub unassigned : p l.var ≡ None
  pub coef : ℕ
  pub there : Contains c.terms (record { coef = coef; lit = l })
  pub beyond : open_weight p c.terms < c.degree + coef

-- neither in conflict nor forcing an unassigned literal
pub record IsClosed (p : ℕ → Option Bool) (c : Linear) : Type 0 where
  pub no_conflict : c.degree ≤ open_weight p c.terms
  pub none_forced : All (λ t. p t.lit.var ≡ None → c.degree + t.coef ≤ open_weight p c.terms) c.terms

-- closed for each constraint of a list
abbrev pub IsClosedFor : List Linear → (ℕ → Option Bool) → Type 0
IsClosedFor cs p = All (IsClosed p) cs

-- the partial assignment of a whole one
abbrev pub whole : (ℕ → Bool) → ℕ → Option Bool
whole v x = Some (v x)

-- an assignment with one literal made false
abbrev pub flipped : (ℕ → Option Bool) → Literal → ℕ → Option Bool
flipped p l x = if x == l.var then Some (not l.yes) else p x

-- one assignment goes on from another
abbrev pub GoesOn : (ℕ → Option Bool) → (ℕ → Option Bool) → Type 0
GoesOn p q = (x : ℕ) (b : Bool) → p x ≡ Some b → q x ≡ Some b
