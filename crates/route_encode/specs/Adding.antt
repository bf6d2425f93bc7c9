-- Constraints that a set gains.
use Rattle.std.specs.Prelude.{◌≡◌, ℕ, Bool, List, ◌++◌, length, sum_by, nat_le}
use Rattle.pb_rules.specs.declared.Term.{Term}
use Rattle.pb_rules.specs.Linear.{Linear}
use Rattle.pb_constraints.specs.Sets.{SetValue}

-- a set gains constraints at its end, and keeps its variables
pub record Adds (old new : SetValue) (more : List Linear) : Type 0 where
  pub constraints : new.constraints ≡ old.constraints ++ more
  pub variables : new.variables ≡ old.variables

-- how many terms constraints have together
abbrev pub terms_of : List Linear → ℕ
terms_of cs = sum_by (λ c. length c.terms) cs

-- a term stays before one that is put in
abbrev pub goes_first : Term → Term → Bool
goes_first t u = nat_le u.lit.var t.lit.var
