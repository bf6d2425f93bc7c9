-- The least of the refusals that hold of something.
use Rattle.std.specs.Prelude.{◌≤◌, Option, None, Some, nat_lt, if◌then◌else◌}
use Rattle.line_words.specs.Refused.{rank}
use Rattle.line_words.specs.declared.refusals.Why.{Why}

-- of what holds, the lowest
pub record IsLeast (Holds : Why → Type 0) (why : Why) : Type 0 where
  pub holds : Holds why
  pub least : (other : Why) → Holds other → rank why ≤ rank other

-- the lowest of what holds, or none where nothing does
abbrev pub IsLeastOrNone : (Why → Type 0) → Option Why → Type 0
IsLeastOrNone Holds None = (why : Why) → Holds why → ⊥
IsLeastOrNone Holds (Some why) = IsLeast Holds why

-- the lower of two refusals
abbrev pub lower : Why → Why → Why
lower a b = if nat_lt (rank b) (rank a) then b else a

-- the lower of two refusals, where there are any
abbrev pub lower_of : Option Why → Option Why → Option Why
lower_of None b = b
lower_of (Some a) None = Some a
lower_of (Some a) (Some b) = Some (lower a b)
