-- What the searches of a file for a table and for a row find.
use Rattle.std.proofs.Common.{◌≡◌, ℕ, ◌<◌, inl, inr, true, eqb, List, [], ◌∷◌, length, Option, Some, None, refl, arith}
use Rattle.std.specs.Prelude.{MatchOption, IfSome, IfNone, slice_get}
use Rattle.std.specs.Str.{bytes_eq}
use Rattle.std.proofs.lemmas.Bool.{cases_Bool, eqb-true, and_parts}
use Rattle.std.proofs.lemmas.Bool.Decides.{Decides-eqb}
use Rattle.std.proofs.lemmas.Slice.Eq.{bytes_eq-Decides}
use Rattle.tgff_reader.specs.Rows.{is_of_kind}
use Rattle.tgff_reader.specs.Looking.{table_at, row_at, IsTableAt, HasNoTable, IsFirstOfKind, HasNoneOfKind}
use Rattle.tgff_reader.specs.declared.file.Table.{Table}
use Rattle.tgff_reader.specs.declared.file.Row.{Row}
use Rattle.table_cells.specs.Rows.{is_called, table_called, row_of, first_cell_of, IsFoundTable, IsFoundRow}
use Rattle.table_cells.proofs.Searching.{find_first, find_none, find_first_from, find_none_from}

-- ---- tables

-- no other place has a table of the name and the index
abbrev pub IsOnlyTable : List Table → List ℕ → ℕ → ℕ → Type 0
IsOnlyTable tables name index place = (other : ℕ) → IsTableAt tables name index other → other ≡ place

table_there : (tables : List Table) (name : List ℕ) (index i : ℕ) → i < length tables → is_called name index (table_at tables i) ≡ true → IsTableAt tables name index i
table_there tables name index i lt is =
    let parts = and_parts (bytes_eq (table_at tables i).name name) (eqb (table_at tables i).index index) is in
    record {
      there = lt;
      name_is = (bytes_eq-Decides (table_at tables i).name name).0 parts.0;
      index_is = eqb-true (table_at tables i).index index parts.1;
    }

is_called_there : (tables : List Table) (name : List ℕ) (index i : ℕ) → IsTableAt tables name index i → is_called name index (table_at tables i) ≡ true
is_called_there tables name index i t =
    rw ((bytes_eq-Decides (table_at tables i).name name).1 t.name_is) ((Decides-eqb (table_at tables i).index index).1 t.index_is)

found_table : (tables : List Table) (name : List ℕ) (index place : ℕ) → IsTableAt tables name index place → IsOnlyTable tables name index place → IsFoundTable tables name index place
found_table tables name index place t one = record {
  there = t.there;
  found = find_first (is_called name index) tables (record { name = []; index = 0; rows = [] }) place t.there (is_called_there tables name index place t)
      (λ i low. elim (cases_Bool (is_called name index (table_at tables i))) [
        | inl is ↦ let same : i ≡ place = one i (table_there tables name index i (omega (arith, low, t.there)) is) in absurd (omega (arith, same, low))
        | inr not ↦ not
      ]);
}

no_table : (tables : List Table) (name : List ℕ) (index : ℕ) → HasNoTable tables name index → table_called tables name index ≡ None
no_table tables name index none =
    find_none (is_called name index) tables (record { name = []; index = 0; rows = [] })
    (λ i lt. elim (cases_Bool (is_called name index (table_at tables i))) [
      | inl is ↦ absurd (none i (table_there tables name index i lt is))
      | inr not ↦ not
    ])

-- a search for a table that finds the only one, or none
pub table_by_place : (tables : List Table) (name : List ℕ) (index : ℕ) (found : Option ℕ) → IfSome found (IsTableAt tables name index) → IfSome found (IsOnlyTable tables name index)
    → IfNone found (HasNoTable tables name index) → MatchOption found (table_called tables name index ≡ None) (IsFoundTable tables name index)
table_by_place tables name index None t one none = no_table tables name index none
table_by_place tables name index (Some place) t one none = found_table tables name index place t one

-- ---- rows

-- a search for a row that finds the first one, or none
pub row_by_place : (table : Table) (from kind : ℕ) (found : Option ℕ) → IfSome found (IsFirstOfKind table from kind) → IfNone found (HasNoneOfKind table from kind)
    → MatchOption found (row_of table from kind ≡ None) (IsFoundRow table from kind)
row_by_place table from kind None t none = find_none_from (is_of_kind kind) table.rows (record { words = [] }) from none
row_by_place table from kind (Some place) t none = record {
  there = t.there;
  found = find_first_from (is_of_kind kind) table.rows (record { words = [] }) from place t.later t.there t.kind_is t.others;
}

-- ---- the first row

first_in : (name : List ℕ) (index : ℕ) (rows : List Row) (column : ℕ) → 0 < length rows
    → first_cell_of (record { name = name; index = index; rows = rows }) column ≡ slice_get (row_at (record { name = name; index = index; rows = rows }) 0).words column
first_in name index [] column lt = absurd (omega (arith, lt))
first_in name index (row ∷ rows) column lt = refl

none_in : (name : List ℕ) (index : ℕ) (rows : List Row) (column : ℕ) → length rows ≡ 0 → first_cell_of (record { name = name; index = index; rows = rows }) column ≡ None
none_in name index [] column e = refl
none_in name index (row ∷ rows) column e = absurd (omega (arith, e))

-- a table with a row has a first one
pub first_there : (table : Table) (column : ℕ) → 0 < length table.rows → first_cell_of table column ≡ slice_get (row_at table 0).words column
first_there table column lt = first_in table.name table.index table.rows column lt

-- a table without rows has no cell
pub first_missing : (table : Table) (column : ℕ) → length table.rows ≡ 0 → first_cell_of table column ≡ None
first_missing table column e = none_in table.name table.index table.rows column e
