-- What is tested at a place, and at the lanes of a group of places.
use Rattle.std.specs.Prelude.{◌≡◌, ℕ, zero, suc, ◌<◌, ◌≤◌, ◌==◌, Bool, true, false, ◌&&◌, nat_le, if◌then◌else◌, List, [], ◌∷◌, ◌++◌, Option, Some, None, length, slice_index}
use Rattle.std.specs.Int.{w64, trailing_zeros}
use Rattle.dominance_lanes.specs.Columns.{row_at}

-- u is at most v in the first n places
abbrev pub is_at_most_to : ℕ → List ℕ → List ℕ → Bool
is_at_most_to zero u v = true
is_at_most_to (suc n) u v = is_at_most_to n u v && nat_le (slice_index u n) (slice_index v n)

-- the vector at place k is at most v
abbrev pub is_below_at : List (List ℕ) → List ℕ → ℕ → Bool
is_below_at columns v k = is_at_most_to (length v) (row_at columns k) v

-- v is at most the vector at place k
abbrev pub is_above_at : List (List ℕ) → List ℕ → ℕ → Bool
is_above_at columns v k = is_at_most_to (length v) v (row_at columns k)

-- no place from the start to the end passes
abbrev pub NoneBetween : (ℕ → Bool) → ℕ → ℕ → Type 0
NoneBetween p start end = (k : ℕ) → start ≤ k → k < end → p k ≡ false

-- k is the first place from the start that passes, and lies before the end
pub record IsFirstBetween (p : ℕ → Bool) (start end k : ℕ) : Type 0 where
  pub from : start ≤ k
  pub to : k < end
  pub here : p k ≡ true
  pub before : NoneBetween p start k

abbrev pub FirstBetween : (ℕ → Bool) → ℕ → ℕ → Option ℕ → Type 0
FirstBetween p start end None = NoneBetween p start end
FirstBetween p start end (Some k) = IsFirstBetween p start end k

-- the place of the lowest bit that is set, or n where none is
abbrev pub first_set : ℕ → ℕ → ℕ
first_set mask n = if mask == 0 then n else trailing_zeros w64 mask

-- r is the first of n lanes that is 0, or n where none is
pub record IsFirstZero (lanes : List ℕ) (n r : ℕ) : Type 0 where
  pub within : r ≤ n
  pub here : r < n → slice_index lanes r ≡ 0
  pub before : (i : ℕ) → i < r → slice_index lanes i ≡ 0 → ⊥

-- one number more in each column
abbrev pub with_row : List (List ℕ) → List ℕ → List (List ℕ)
with_row [] v = []
with_row (column ∷ columns) [] = column ∷ columns
with_row (column ∷ columns) (x ∷ v) = (column ++ x ∷ []) ∷ with_row columns v
