-- The terms of a constraint by falling coefficient.
use Rattle.std.specs.Prelude.{ℕ, ◌≤◌, ◌<◌, List, length, slice_index_or}
use Rattle.std.specs.List.Sorted.{IsPermutation}
use Rattle.pb_rules.specs.declared.Term.{Term}

-- no coefficient is greater than an earlier one
abbrev pub IsFalling : List Term → Type 0
IsFalling ts = (i j : ℕ) (d : Term) → i ≤ j → j < length ts → (slice_index_or ts j d).coef ≤ (slice_index_or ts i d).coef

-- the same terms by falling coefficient
pub record IsRanking (ts ranked : List Term) : Type 0 where
  pub moved : IsPermutation ts ranked
  pub falling : IsFalling ranked
