-- Where a table and a row stand, and which word a cell has.
use Rattle.std.specs.Prelude.{◌≡◌, ℕ, ◌<◌, List, [], length, Bool, ◌&&◌, ◌==◌, slice_index_or}
use Rattle.std.specs.Str.{bytes_eq}
use Rattle.tgff_reader.specs.Rows.{row_in, IsFirstIn, HasNoneIn}
use Rattle.tgff_reader.specs.declared.file.Graph.{Graph}
use Rattle.tgff_reader.specs.declared.file.Table.{Table}
use Rattle.tgff_reader.specs.declared.file.Row.{Row}

-- a graph has the index
abbrev pub is_graph : ℕ → Graph → Bool
is_graph index graph = graph.index == index

-- a table has the name and the index
abbrev pub is_table : List ℕ → ℕ → Table → Bool
is_table name index table = bytes_eq table.name name && (table.index == index)

-- the table at a place
abbrev pub table_at : List Table → ℕ → Table
table_at tables i = slice_index_or tables i (record { name = []; index = 0; rows = [] })

-- the row at a place
abbrev pub row_at : Table → ℕ → Row
row_at table i = row_in table.rows i

-- the table at a place has the name and the index
pub record IsTableAt (tables : List Table) (name : List ℕ) (index : ℕ) (place : ℕ) : Type 0 where
  pub there : place < length tables
  pub name_is : (table_at tables place).name ≡ name
  pub index_is : (table_at tables place).index ≡ index

-- no table has them
abbrev pub HasNoTable : List Table → List ℕ → ℕ → Type 0
HasNoTable tables name index = (place : ℕ) → IsTableAt tables name index place → ⊥

-- the first row at a place or later whose first word reads as the kind
abbrev pub IsFirstOfKind : Table → ℕ → ℕ → ℕ → Type 0
IsFirstOfKind table from kind place = IsFirstIn table.rows from kind place

-- no row at a place or later is one
abbrev pub HasNoneOfKind : Table → ℕ → ℕ → Type 0
HasNoneOfKind table from kind = HasNoneIn table.rows from kind
