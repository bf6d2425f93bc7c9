-- What a trail keeps by variable.
use Rattle.std.specs.Prelude.{ℕ, Bool, Option, Some, None, ◌≡◌, ◌≤◌, List, length, slice_index_or}
use Rattle.trail_state.specs.Trail.{TrailView, value_in, level_in}

-- the value of each variable, and the level of each one that has a value
pub record HasTables (t : TrailView) (values : List (Option Bool)) (levels : List ℕ) : Type 0 where
  pub values_room : t.variables ≤ length values
  pub levels_room : t.variables ≤ length levels
  pub valued : (x : ℕ) → slice_index_or values x None ≡ value_in t.entries x
  pub leveled : (x : ℕ) (b : Bool) → value_in t.entries x ≡ Some b → slice_index_or levels x 0 ≡ level_in t.entries x
