-- What a set of constraints is seen as.
use Rattle.std.specs.Prelude.{ℕ, List}
use Rattle.pb_rules.specs.Linear.{Linear, VarsBelow}

-- the number of variables, and the constraints in order
pub record SetValue : Type 0 where
  pub variables : ℕ
  pub constraints : List Linear

-- each variable of a constraint is below n
abbrev pub IsBelow : ℕ → Linear → Type 0
IsBelow n c = VarsBelow n c.terms
