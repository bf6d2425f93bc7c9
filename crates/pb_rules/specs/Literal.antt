-- Literals: a variable or its opposite.
use Rattle.std.specs.Prelude.{ℕ, Bool, not, if◌then◌else◌}

pub record Literal : Type 0 where
  pub var : ℕ
  pub yes : Bool

-- whether a literal is true under an assignment
abbrev pub lit_true : (ℕ → Bool) → Literal → Bool
lit_true v l = if l.yes then v l.var else not (v l.var)

abbrev pub opposite_of : Literal → Literal
opposite_of l = record { var = l.var; yes = not l.yes }
