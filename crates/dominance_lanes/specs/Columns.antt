-- Vectors of one width, and the columns in which they are kept.
use Rattle.std.specs.Prelude.{◌≡◌, ℕ, ◌<◌, ◌≤◌, ◌↔◌, Bool, true, false, cond, List, [], ◌∷◌, length, map, All, slice_index, slice_index_or}
use Rattle.std.specs.List.{range_with_len}
use Rattle.spec_model.specs.Vectors.{IsAtMost}

-- ---- what a caller sees

-- vectors in an order, each with so many numbers
pub record Vectors : Type 0 where
  pub width : ℕ
  pub vectors : List (List ℕ)

abbrev pub vector_at : List (List ℕ) → ℕ → List ℕ
vector_at us k = slice_index_or us k []

-- none of the first n vectors is at most v
abbrev pub NoneBelow : List (List ℕ) → List ℕ → ℕ → Type 0
NoneBelow us v n = (k : ℕ) → k < n → ¬ IsAtMost (vector_at us k) v

-- k is the first place of a vector that is at most v
pub record IsFirstBelow (us : List (List ℕ)) (v : List ℕ) (k : ℕ) : Type 0 where
  pub within : k < length us
  pub below : IsAtMost (vector_at us k) v
  pub first : NoneBelow us v k

-- exactly the vectors that v is at most are marked
abbrev pub MarksAbove : List (List ℕ) → List ℕ → List Bool → Type 0
MarksAbove us v marks = (k : ℕ) → k < length us → (slice_index_or marks k false ≡ true) ↔ IsAtMost v (vector_at us k)

-- what isn't marked, in its order
abbrev pub unmarked : {X : Type 0} → List Bool → List X → List X
unmarked [] xs = xs
unmarked (m ∷ ms) [] = []
unmarked (m ∷ ms) (x ∷ xs) = cond m (unmarked ms xs) (x ∷ unmarked ms xs)

abbrev pub HasLength : {X : Type 0} → ℕ → List X → Type 0
HasLength n xs = length xs ≡ n

-- ---- how they are kept: column j has at place k what the vector at k has at j

-- the vector at place k
abbrev pub row_at : List (List ℕ) → ℕ → List ℕ
row_at columns k = map (λ column. slice_index column k) columns

-- the vectors at the first n places
abbrev pub rows : List (List ℕ) → ℕ → List (List ℕ)
rows columns n = map (row_at columns) (range_with_len 0 n)

-- there is a column for each number of a vector, and none need be there where there is no vector
pub record AreColumns (columns : List (List ℕ)) (width len : ℕ) : Type 0 where
  pub even : All (HasLength len) columns
  pub narrow : length columns ≤ width
  pub whole : 0 < len → length columns ≡ width
