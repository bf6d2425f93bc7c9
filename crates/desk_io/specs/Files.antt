-- The files of a desk, and what a call does to one of them.
use Rattle.std.specs.Prelude.{◌≡◌, ◌≢◌, ◌⊎◌, ◌++◌, ℕ, List, [], ◌∷◌, Option, Some, None, take, unwrap_or}
use Rattle.std.specs.Map.{lookup}
use Rattle.std.specs.Str.{bytes_eq}

-- files, each with its name and its bytes
abbrev pub Files : Type 0
Files = List (List ℕ × List ℕ)

-- the bytes of the file of that name, if there is one
abbrev pub file_at : Files → List ℕ → Option (List ℕ)
file_at files name = lookup (bytes_eq name) files

-- no two files have the same name: none stands again after its own place
abbrev pub HasDistinctNames : Files → Type 0
HasDistinctNames [] = Unit {0}
HasDistinctNames (file ∷ files) = (file_at files file.0 ≡ None) × HasDistinctNames files

-- the bytes of a name: no bytes where there is no such file
abbrev pub content : Files → List ℕ → List ℕ
content files name = unwrap_or (file_at files name) []

-- at most the file of this name differs, and Change holds of its content before and after
pub record Edited (old new : Files) (name : List ℕ) (Change : List ℕ → List ℕ → Type 0) : Type 0 where
  pub here : Change (content old name) (content new name)
  pub others : (other : List ℕ) → other ≢ name → file_at new other ≡ file_at old other
  pub distinct : HasDistinctNames new

-- the file of this name has these bytes, and the others are kept
pub record Written (old new : Files) (name bytes : List ℕ) : Type 0 where
  pub here : file_at new name ≡ Some bytes
  pub others : (other : List ℕ) → other ≢ name → file_at new other ≡ file_at old other
  pub distinct : HasDistinctNames new

-- the same of a desk that may not tell its files; one that told them still does
abbrev pub Edits : Option Files → Option Files → List ℕ → (List ℕ → List ℕ → Type 0) → Type 0
Edits None new name Change = Unit {0}
Edits (Some old) None name Change = ⊥
Edits (Some old) (Some new) name Change = Edited old new name Change

-- Change holds of what was said before and after, where it is told; a desk that told it still does
abbrev pub Says : Option (List ℕ) → Option (List ℕ) → (List ℕ → List ℕ → Type 0) → Type 0
Says None new Change = Unit {0}
Says (Some old) None Change = ⊥
Says (Some old) (Some new) Change = Change old new

-- the bytes are gone
abbrev pub Empties : List ℕ → List ℕ → Type 0
Empties old new = new ≡ []

-- the bytes are as before, or gone
abbrev pub KeepsOrEmpties : List ℕ → List ℕ → Type 0
KeepsOrEmpties old new = (new ≡ old) ⊎ (new ≡ [])

-- these bytes come after those before
abbrev pub Appends : List ℕ → List ℕ → List ℕ → Type 0
Appends bytes old new = new ≡ old ++ bytes

-- the first of these bytes, maybe none or all, come after those before
abbrev pub AppendsPrefix : List ℕ → List ℕ → List ℕ → Type 0
AppendsPrefix bytes old new = (n : ℕ) × (new ≡ old ++ take n bytes)
