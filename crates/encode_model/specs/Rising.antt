-- Numbers and terms in rising order.
use Rattle.std.specs.Prelude.{ℕ, ◌+◌, ◌<◌, ◌≤◌, List, [], ◌∷◌}
use Rattle.spec_model.specs.Limits.{most_number}
use Rattle.pb_rules.specs.declared.Term.{Term}

-- numbers that rise from a on and stay below b
abbrev pub RisesWithin : ℕ → ℕ → List ℕ → Type 0
RisesWithin a b [] = a ≤ b
RisesWithin a b (v ∷ vs) = (a ≤ v) × RisesWithin (v + 1) b vs

-- a term of a variable from a on, its coefficient from 1 to c
pub record IsTermFrom (c a : ℕ) (t : Term) : Type 0 where
  pub from : a ≤ t.lit.var
  pub some : 0 < t.coef
  pub small : t.coef ≤ c

-- terms of rising variables from a on, below b, their coefficients from 1 to c
abbrev pub TermsWithin : ℕ → ℕ → ℕ → List Term → Type 0
TermsWithin c a b [] = a ≤ b
TermsWithin c a b (t ∷ ts) = IsTermFrom c a t × TermsWithin c (t.lit.var + 1) b ts

-- terms by rising variable, each below n, with coefficients as small as weights are
pub record IsRising (n : ℕ) (ts : List Term) : Type 0 where
  pub rises : TermsWithin most_number 0 n ts
