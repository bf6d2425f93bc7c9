-- Saturation of terms in place.
use Rattle.std.specs.Prelude.{ℕ, min}
use Rattle.pb_rules.specs.declared.Term.{Term}

-- a term with its coefficient cut down to a degree
abbrev pub lowered : ℕ → Term → Term
lowered degree t = record { coef = min t.coef degree; lit = t.lit }
