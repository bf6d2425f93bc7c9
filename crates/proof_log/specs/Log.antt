-- A log: the ids that it begins with, and its lines.
use Rattle.std.specs.Prelude.{ℕ, ◌≡◌, ◌+◌, ◌<◌, ◌≤◌, ◌^◌, List, map}
use Rattle.pb_rules.specs.Frames.{Line, derived, cover, ids_in, derived_count}
use Rattle.proof_log.specs.declared.Step.{Step}
use Rattle.proof_log.specs.declared.Step.TheVariants.{Derived, Cover}

-- the first id that its lines give, and its lines
pub record LogValue : Type 0 where
  pub first : ℕ
  pub lines : List Line

-- the id that the next line gives first
abbrev pub next_id : LogValue → ℕ
next_id v = v.first + ids_in v.lines

-- the line that a step stands for
abbrev pub line_of : Step → Line
line_of (Derived ops) = derived ops.items
line_of (Cover v) = cover v.items

abbrev pub lines_of : List Step → List Line
lines_of steps = map line_of steps

-- what ties the fields of a log together
pub record IsLog (first next learned : ℕ) (steps : List Step) : Type 0 where
  pub from_one : 1 ≤ first
  pub small_first : first < 2 ^ 62
  pub next_is : next ≡ first + ids_in (lines_of steps)
  pub small : next < 2 ^ 63
  pub learned_is : learned ≡ derived_count (lines_of steps)
