-- What finds a block of a file by its name and its index.
use Rattle.std.specs.Prelude.{◌≡◌, ℕ, ◌≤◌, ◌⊎◌, List, [], ◌∷◌, ◌++◌, length, Bool, ◌&&◌, ◌==◌, Option, None, All, Contains, MatchOption}
use Rattle.std.specs.List.{list_any}
use Rattle.std.specs.HashMap.{HashMap, get}
use Rattle.names.specs.Names.{number_by_name}
use Rattle.tgff_reader.specs.Looking.{is_graph, IsTableAt, HasNoTable}
use Rattle.tgff_reader.specs.declared.file.Graph.{Graph}
use Rattle.tgff_reader.specs.declared.file.Table.{Table}

-- one pair is the other
abbrev pub is_pair : ℕ × ℕ → ℕ × ℕ → Bool
is_pair p q = (p.0 == q.0) && (p.1 == q.1)

-- the place of a name's number and an index
abbrev pub place_in : {S : Type 0} → HashMap (ℕ × ℕ) ℕ S → ℕ × ℕ → Option ℕ
place_in places p = get is_pair places p

-- the names are the old ones, or they and one more
abbrev pub HasAtMost : List (List ℕ) → List ℕ → List (List ℕ) → Type 0
HasAtMost old name new = (new ≡ old) ⊎ (new ≡ old ++ name ∷ [])

-- Each table's name has a number. By the number of its name and its index a table is found where there is one, and
-- nothing is found by any other number.
pub record AreFound (names : List (List ℕ)) (place : ℕ × ℕ → Option ℕ) (tables : List Table) : Type 0 where
  pub named : All (λ t. Contains names t.name) tables
  pub found : (name : List ℕ) (index : ℕ) → Contains names name → MatchOption (place (number_by_name names name, index)) (HasNoTable tables name index) (IsTableAt tables name index)
  pub none : (n index : ℕ) → length names ≤ n → place (n, index) ≡ None

-- these are the indices of the graphs
abbrev pub AreIndices : List ℕ → List Graph → Type 0
AreIndices indices graphs = (i : ℕ) → list_any (λ k. i == k) indices ≡ list_any (is_graph i) graphs
