-- Which table is meant, and which row of it is that of a type of task or message.
use Rattle.std.specs.Prelude.{◌≡◌, ℕ, ◌<◌, List, [], ◌∷◌, length, drop, Bool, ◌&&◌, ◌==◌, Option, None, Some, find}
use Rattle.std.specs.Str.{bytes_eq}
use Rattle.tgff_reader.specs.Rows.{is_of_kind}
use Rattle.tgff_reader.specs.Looking.{table_at, row_at}
use Rattle.tgff_reader.specs.declared.file.Table.{Table}
use Rattle.tgff_reader.specs.declared.file.Row.{Row}
use Rattle.table_cells.specs.Cells.{cell_of}

-- a table has the name and the index
abbrev pub is_called : List ℕ → ℕ → Table → Bool
is_called name index table = bytes_eq table.name name && (table.index == index)

-- the table of a name and an index
abbrev pub table_called : List Table → List ℕ → ℕ → Option Table
table_called tables name index = find (is_called name index) tables

-- the first row of a table, from a place on, whose first word reads as the type
abbrev pub row_of : Table → ℕ → ℕ → Option Row
row_of table from kind = find (is_of_kind kind) (drop from table.rows)

-- the first row, which the weights of a resource stand in
abbrev pub first_cell_of : Table → ℕ → Option (List ℕ)
first_cell_of table column = cell_in_first table.rows column
  where
    cell_in_first : List Row → ℕ → Option (List ℕ)
    cell_in_first [] column = None
    cell_in_first (row ∷ rows) column = cell_of row column

-- a table that was found stands at this place
pub record IsFoundTable (tables : List Table) (name : List ℕ) (index : ℕ) (place : ℕ) : Type 0 where
  pub there : place < length tables
  pub found : table_called tables name index ≡ Some (table_at tables place)

-- a row that was found stands at this place
pub record IsFoundRow (table : Table) (from kind : ℕ) (place : ℕ) : Type 0 where
  pub there : place < length table.rows
  pub found : row_of table from kind ≡ Some (row_at table place)
