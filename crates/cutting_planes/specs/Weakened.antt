-- Weakening by several variables.
use Rattle.std.specs.Prelude.{ℕ, List, [], ◌∷◌}
use Rattle.pb_rules.specs.declared.Term.{Term}
use Rattle.pb_rules.specs.Linear.{Linear}
use Rattle.pb_rules.specs.CuttingPlanes.{weaken}

-- the constraint of terms and a degree
abbrev pub linear : List Term → ℕ → Linear
linear ts degree = record { terms = ts; degree = degree }

-- weakened by each variable of a list, one after another
abbrev pub weaken_each : List ℕ → Linear → Linear
weaken_each [] a = a
weaken_each (x ∷ xs) a = weaken_each xs (weaken x a)
