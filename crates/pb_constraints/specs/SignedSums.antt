-- Sums of literals with signed coefficients.
use Rattle.std.specs.Prelude.{ℕ, Bool, ℤ, pos, ◌+ℤ◌, ◌≤ℤ◌, ◌==◌, List, [], ◌∷◌, if◌then◌else◌}
use Rattle.std.proofs.Common.{neg_ℤ}
use Rattle.pb_rules.specs.declared.Term.{Term}
use Rattle.pb_rules.specs.Literal.{lit_true}
use Rattle.pb_constraints.specs.declared.parts.Part.{Part}

-- an integer sum over a list
abbrev pub sum_z : {X : Type 0} → (X → ℤ) → List X → ℤ
sum_z f [] = pos 0
sum_z f (x ∷ xs) = f x +ℤ sum_z f xs

-- the coefficient of a part on its variable: that of a negated literal counts against it
abbrev pub signed : Part → ℤ
signed p = if p.lit.yes then p.coef else neg_ℤ p.coef

-- what a part adds to the sum over the variables of a set
abbrev pub share : (ℕ → Bool) → Part → ℤ
share q p = if q p.lit.var then signed p else pos 0

-- whether a variable is the given one
abbrev pub is_var : ℕ → ℕ → Bool
is_var x y = y == x

-- the sum of a variable: the coefficients of its positive literals less those of its negated ones
abbrev pub signed_sum : ℕ → List Part → ℤ
signed_sum x ps = sum_z (share (is_var x)) ps

-- the coefficient of a part where its literal is negated
abbrev pub on_negated : Part → ℤ
on_negated p = if p.lit.yes then pos 0 else p.coef

-- the sum of the coefficients of all negated literals
abbrev pub negated_sum : List Part → ℤ
negated_sum ps = sum_z on_negated ps

-- the coefficient of a part where its literal is true
abbrev pub when_true : (ℕ → Bool) → Part → ℤ
when_true v p = if lit_true v p.lit then p.coef else pos 0

-- the sum of the coefficients of the true literals is at least the degree
abbrev pub SignedHolds : (ℕ → Bool) → List Part → ℤ → Type 0
SignedHolds v ps d = d ≤ℤ sum_z (when_true v) ps

-- a term of a constraint as a part
abbrev pub as_part : Term → Part
as_part t = record { coef = pos t.coef; lit = t.lit }
