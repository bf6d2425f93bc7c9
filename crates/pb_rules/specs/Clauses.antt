-- Clauses, and `0 >= 1`.
use Rattle.std.specs.Prelude.{◌≡◌, All, []}
use Rattle.pb_rules.specs.Linear.{Linear, IsNormal}

-- coefficients 1 and degree 1, in normal form
pub record IsClause (c : Linear) : Type 0 where
  pub normal : IsNormal c.terms c.degree
  pub unit : All (λ t. t.coef ≡ 1) c.terms
  pub degree : c.degree ≡ 1

-- `0 >= 1`
abbrev pub contradiction : Linear
contradiction = record { terms = []; degree = 1 }
