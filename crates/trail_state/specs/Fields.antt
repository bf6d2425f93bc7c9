-- How the fields of a trail hold its entries.
use Rattle.std.specs.Prelude.{ℕ, Option, Some, None, ◌≡◌, ◌<◌, ◌≤◌, ◌^◌, List, [], ◌∷◌, take, length, count_by, is_some, slice_index_or}
use Rattle.pb_rules.specs.Literal.{Literal}
use Rattle.pb_constraints.specs.declared.ConId.{ConId}
use Rattle.trail_state.specs.Trail.{Entry, level_of}

-- literals and reasons side by side
abbrev pub pair_up : List Literal → List (Option ConId) → List Entry
pair_up [] rs = []
pair_up (l ∷ ls) [] = []
pair_up (l ∷ ls) (r ∷ rs) = record { lit = l; reason = r } ∷ pair_up ls rs

-- the entries: as many as are used
abbrev pub entries_of : List Literal → List (Option ConId) → ℕ → List Entry
entries_of ls rs used = pair_up (take used ls) (take used rs)

-- what ties the fields together: room for each variable, and the place of each assigned one
pub record IsTrail (ls : List Literal) (rs : List (Option ConId)) (places : List (Option ℕ)) (used level : ℕ) : Type 0 where
  pub few : length places < 2 ^ 62
  pub lits_room : length places ≤ length ls
  pub reasons_room : length places ≤ length rs
  pub counted : count_by is_some places ≡ used
  pub in_range : (k : ℕ) (d : Literal) → k < used → (slice_index_or ls k d).var < length places
  pub placed : (k : ℕ) (d : Literal) → k < used → slice_index_or places (slice_index_or ls k d).var None ≡ Some k
  pub within : (x k : ℕ) → slice_index_or places x None ≡ Some k → k < used
  pub same_var : (x k : ℕ) (d : Literal) → slice_index_or places x None ≡ Some k → (slice_index_or ls k d).var ≡ x
  pub level_is : level ≡ level_of (entries_of ls rs used)
