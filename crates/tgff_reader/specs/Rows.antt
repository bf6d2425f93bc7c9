-- Rows by their type: which row is the first of a type, and what finds it.
use Rattle.std.specs.Prelude.{◌≡◌, ℕ, ◌+◌, ◌*◌, ◌^◌, ◌<◌, ◌≤◌, List, [], ◌∷◌, ◌++◌, length, Bool, true, false, ◌==◌, slice_index_or, Option, Some, None, Result, Ok, Err, All, Contains}
use Rattle.std.specs.List.Sorted.{IsNonDecreasingBy}
use Rattle.line_words.specs.Numbers.{whole_of}
use Rattle.line_words.specs.declared.numbers.NumberFault.{NumberFault}
use Rattle.tgff_reader.specs.Words.{first}
use Rattle.tgff_reader.specs.declared.file.Row.{Row}
use Rattle.tgff_reader.specs.declared.rows.RowKind.{RowKind}

-- a number is the kind
abbrev pub is_number : ℕ → Result ℕ NumberFault → Bool
is_number kind (Ok n) = n == kind
is_number kind (Err fault) = false

-- the first word of a row reads as the kind
abbrev pub is_of_kind : ℕ → Row → Bool
is_of_kind kind row = is_number kind (whole_of (first row.words))

-- the row at a place among rows
abbrev pub row_in : List Row → ℕ → Row
row_in rows i = slice_index_or rows i (record { words = [] })

-- the first row at a place or later whose first word reads as the kind
pub record IsFirstIn (rows : List Row) (from kind : ℕ) (place : ℕ) : Type 0 where
  pub later : from ≤ place
  pub there : place < length rows
  pub kind_is : is_of_kind kind (row_in rows place) ≡ true
  pub others : (i : ℕ) → from ≤ i → i < place → is_of_kind kind (row_in rows i) ≡ false

-- no row at a place or later is one
abbrev pub HasNoneIn : List Row → ℕ → ℕ → Type 0
HasNoneIn rows from kind = (i : ℕ) → from ≤ i → i < length rows → is_of_kind kind (row_in rows i) ≡ false

-- ---- what finds it

-- the number that was read, if any
abbrev pub number_in : Result ℕ NumberFault → Option ℕ
number_in (Ok n) = Some n
number_in (Err fault) = None

-- the type that the first word of a row reads as
abbrev pub kind_in : Row → Option ℕ
kind_in row = number_in (whole_of (first row.words))

-- the entry of a row at a place, where it has a type
abbrev pub entry_of : ℕ → Option ℕ → List RowKind
entry_of place None = []
entry_of place (Some kind) = record { kind = kind; place = place } ∷ []

-- the entries of rows, the first of which stands at this place
abbrev pub kinds_from : ℕ → List Row → List RowKind
kinds_from place [] = []
kinds_from place (row ∷ rows) = entry_of place (kind_in row) ++ kinds_from (place + 1) rows

-- entries stand by their type, and those of one type by their place
abbrev pub order_of : RowKind → ℕ
order_of k = k.kind * 2 ^ 64 + k.place

-- a row stands at the place of an entry, and has its type
pub record IsKind (rows : List Row) (k : RowKind) : Type 0 where
  pub there : k.place < length rows
  pub kind_is : is_of_kind k.kind (row_in rows k.place) ≡ true

-- the entries of rows, in their order
pub record AreKinds (kinds : List RowKind) (rows : List Row) : Type 0 where
  pub rising : IsNonDecreasingBy order_of kinds
  pub sound : All (IsKind rows) kinds
  pub complete : (place kind : ℕ) → place < length rows → is_of_kind kind (row_in rows place) ≡ true → Contains kinds (record { kind = kind; place = place })
