-- What a `table` line makes of a table of the TGFF file, and what it is refused for. It makes an option for each task
-- of the graphs whose type has a row that counts, and sets the weights of its resource from the first row.
use Rattle.std.specs.Prelude.{◌≡◌, ℕ, zero, suc, ◌+◌, ◌<◌, ◌⊎◌, List, [], ◌∷◌, ◌++◌, length, fold, Bool, true, false, if◌then◌else◌, Option, None, Some, is_some, find, slice_index_or, option_map, option_and_then, Any, codes}
use Rattle.names.specs.Names.{number_by_name}
use Rattle.spec_model.specs.Spec.{Name, SpecValue, Choice, choice}
use Rattle.spec_model.specs.Limits.{most_options}
use Rattle.spec_graph.specs.Refusals.{IsMapped}
use Rattle.line_words.specs.declared.refusals.Why.{Why}
use Rattle.line_words.specs.declared.refusals.Why.TheVariants.{UnknownName, RepeatedName, Limit}
use Rattle.line_words.specs.declared.refusals.What.TheVariants.{Options}
use Rattle.arch_reader.specs.Words.{is_table_key}
use Rattle.arch_reader.specs.Seen.{scale_or_0}
use Rattle.arch_reader.specs.Tests.{has_key, column_key}
use Rattle.arch_reader.specs.declared.statement.KeyColumn.{KeyColumn}
use Rattle.tgff_reader.specs.Looking.{row_at}
use Rattle.tgff_reader.specs.declared.file.Table.{Table}
use Rattle.tgff_reader.specs.declared.file.Row.{Row}
use Rattle.table_cells.specs.Cells.{cell_of, amount_in, CellBreaks, MarkBreaks, is_marked}
use Rattle.table_cells.specs.Rows.{row_of, first_cell_of}
use Rattle.table_cells.specs.declared.cells.Taking.{Taking}
use Rattle.spec_join.specs.Joining.{Joining, weighed, weighed_at, no_weights, time_at}

-- ---- keys

abbrev pub column_in : KeyColumn → ℕ
column_in k = k.column

-- the column of a key, where the line has the key
abbrev pub column_of : List KeyColumn → Name → Option ℕ
column_of keys key = option_map column_in (find (has_key column_key key) keys)

-- a number, or another one where there is none
abbrev pub number_or : Option ℕ → ℕ → ℕ
number_or None other = other
number_or (Some n) other = n

-- the row from which rows are looked for
abbrev pub rows_of : List KeyColumn → ℕ
rows_of keys = number_or (column_of keys (codes "rows")) 1

-- how a weight for an objective is taken
abbrev pub weight_taking : Joining → Name → Taking
weight_taking s name = record {
  scale = slice_index_or s.scales (number_by_name s.plan.objectives name) 0;
  cut = slice_index_or s.floors (number_by_name s.plan.objectives name) false;
}

-- how a time is taken
abbrev pub time_taking : Joining → Taking
time_taking s = record { scale = scale_or_0 s.clock; cut = true }

-- ---- rows

abbrev pub kind_at : List ℕ → ℕ → ℕ
kind_at kinds t = slice_index_or kinds t 0

-- the row of the type of task t
abbrev pub task_row : Joining → Table → List KeyColumn → ℕ → Option Row
task_row s table keys t = row_of table (rows_of keys) (kind_at s.task_kinds t)

-- a row counts unless its mark is 0, where the line has a column of marks
abbrev pub counts_by : Option ℕ → Row → Bool
counts_by None row = true
counts_by (Some column) row = is_marked (cell_of row column)

abbrev pub does_count : List KeyColumn → Row → Bool
does_count keys row = counts_by (column_of keys (codes "valid")) row

abbrev pub if_counts : List KeyColumn → Row → Option Row
if_counts keys row = if does_count keys row then Some row else None

-- the row from which task t gets an option
abbrev pub chosen_row : Joining → Table → List KeyColumn → ℕ → Option Row
chosen_row s table keys t = option_and_then (if_counts keys) (task_row s table keys t)

-- ---- options

-- a row of weights in which a key that names an objective sets its weight from a cell
abbrev pub weighed_from : Joining → Row → List ℕ → KeyColumn → List ℕ
weighed_from s row weights k = if is_table_key k.key then weights else weighed s.plan.objectives s.scales weights (record { key = k.key; amount = amount_in (cell_of row k.column) })

-- the weights that a row states: 0 for an objective that isn't named
abbrev pub weights_from : Joining → List KeyColumn → Row → List ℕ
weights_from s keys row = fold (weighed_from s row) (no_weights s) keys

abbrev pub time_in_column : Joining → Option ℕ → Row → ℕ
time_in_column s None row = 0
time_in_column s (Some column) row = time_at s (amount_in (cell_of row column))

-- the time that a row states: 0 where none is named
abbrev pub time_from : Joining → List KeyColumn → Row → ℕ
time_from s keys row = time_in_column s (column_of keys (codes "time")) row

-- the option of task t that a row states
abbrev pub choice_from : Joining → Name → List KeyColumn → ℕ → Row → Choice
choice_from s resource keys t row = choice t (number_by_name s.plan.resources resource) (time_from s keys row)

-- one item, or none where there is no row
abbrev pub one_of : {X : Type 0} → (Row → X) → Option Row → List X
one_of f None = []
one_of f (Some row) = f row ∷ []

-- the options of the first tasks of the graphs
abbrev pub made_choices : Joining → Table → Name → List KeyColumn → ℕ → List Choice
made_choices s table resource keys zero = []
made_choices s table resource keys (suc t) = made_choices s table resource keys t ++ one_of (choice_from s resource keys t) (chosen_row s table keys t)

-- and their weights
abbrev pub made_weights : Joining → Table → List KeyColumn → ℕ → List (List ℕ)
made_weights s table keys zero = []
made_weights s table keys (suc t) = made_weights s table keys t ++ one_of (weights_from s keys) (chosen_row s table keys t)

-- the plan with the options of the first tasks of the graphs
abbrev pub with_made : Joining → Table → Name → List KeyColumn → ℕ → SpecValue
with_made s table resource keys t = record s.plan {
  options = s.plan.options ++ made_choices s table resource keys t;
  option_weights = s.plan.option_weights ++ made_weights s table keys t;
}

-- ---- the weights of the resource

-- rows of weights in which a word `OBJ@N` sets a weight of the resource from the first row of the table
abbrev pub placed : Joining → Table → Name → List (List ℕ) → KeyColumn → List (List ℕ)
placed s table resource rows k = weighed_at s.plan.objectives s.scales (number_by_name s.plan.resources resource) rows (record { key = k.key; amount = amount_in (first_cell_of table k.column) })

-- a plan with the weights that some words set
abbrev pub with_places : Joining → Table → Name → List KeyColumn → SpecValue → SpecValue
with_places s table resource places p = record p { resource_weights = fold (placed s table resource) p.resource_weights places }

-- the plan that a table line makes; without the table it stays as it is
abbrev pub with_table : Joining → Option Table → Name → List KeyColumn → List KeyColumn → SpecValue
with_table s None resource keys places = s.plan
with_table s (Some table) resource keys places = with_places s table resource places (with_made s table resource keys (length s.task_kinds))

-- ---- what a table line is refused for

-- what holds of a row that may not be there
abbrev pub OfRow : (Row → Why → Type 0) → Option Row → Why → Type 0
OfRow P None why = ⊥
OfRow P (Some row) why = P row why

-- what the mark of a row is refused for, where the line has a column of marks
abbrev pub MarkColumnBreaks : Option ℕ → Row → Why → Type 0
MarkColumnBreaks None row why = ⊥
MarkColumnBreaks (Some column) row why = MarkBreaks (cell_of row column) why

-- what the time of a row is refused for, where the line has a column of times
abbrev pub TimeColumnBreaks : Joining → Option ℕ → Row → Why → Type 0
TimeColumnBreaks s None row why = ⊥
TimeColumnBreaks s (Some column) row why = CellBreaks (time_taking s) (cell_of row column) why

-- what the cell of a key is refused for, where the key names an objective
abbrev pub KeyBreaks : Joining → Row → Why → KeyColumn → Type 0
KeyBreaks s row why k = (is_table_key k.key ≡ false) × CellBreaks (weight_taking s k.key) (cell_of row k.column) why

-- what the time or a weight of a row is refused for
abbrev pub ValuesBreak : Joining → List KeyColumn → Row → Why → Type 0
ValuesBreak s keys row why = TimeColumnBreaks s (column_of keys (codes "time")) row why ⊎ Any (KeyBreaks s row why) keys

-- what a row is refused for from which a task may get an option: its mark, and unless that is 0 its other cells
abbrev pub RowBreaks : Joining → List KeyColumn → Row → Why → Type 0
RowBreaks s keys row why = MarkColumnBreaks (column_of keys (codes "valid")) row why ⊎ ((does_count keys row ≡ true) × ValuesBreak s keys row why)

-- some number below n has a property
abbrev pub HasBelow : ℕ → (ℕ → Type 0) → Type 0
HasBelow n P = (t : ℕ) × (t < n) × P t

-- what the row of task t is refused for
abbrev pub TaskBreaks : Joining → Table → List KeyColumn → Why → ℕ → Type 0
TaskBreaks s table keys why t = OfRow (RowBreaks s keys) (task_row s table keys t) why

-- task t is to get an option and has one on the resource already
abbrev pub IsTakenTwice : Joining → Table → Name → List KeyColumn → ℕ → Type 0
IsTakenTwice s table resource keys t = (is_some (chosen_row s table keys t) ≡ true) × IsMapped s.plan t (number_by_name s.plan.resources resource)

-- what a word `OBJ@N` is refused for
abbrev pub PlaceBreaks : Joining → Table → Why → KeyColumn → Type 0
PlaceBreaks s table why k = CellBreaks (weight_taking s k.key) (first_cell_of table k.column) why

-- what a used cell is refused for: one of the first row, or one of a row of a task
abbrev pub CellsBreak : Joining → Table → List KeyColumn → List KeyColumn → Why → Type 0
CellsBreak s table keys places why = Any (PlaceBreaks s table why) places ⊎ HasBelow (length s.task_kinds) (TaskBreaks s table keys why)

-- RepeatedName: a pair of task and resource that is there already; Limit: too many options
abbrev pub OptionsBreak : Joining → Table → Name → List KeyColumn → Why → Type 0
OptionsBreak s table resource keys RepeatedName = HasBelow (length s.task_kinds) (IsTakenTwice s table resource keys)
OptionsBreak s table resource keys (Limit Options) = most_options < length s.plan.options + length (made_choices s table resource keys (length s.task_kinds))
OptionsBreak s table resource keys _ = ⊥

-- what a line is refused for whose table is there
abbrev pub LineBreaks : Joining → Table → Name → List KeyColumn → List KeyColumn → Why → Type 0
LineBreaks s table resource keys places why = CellsBreak s table keys places why ⊎ OptionsBreak s table resource keys why

-- what a table line is refused for; without the table nothing else is asked
abbrev pub TableBreaks : Joining → Option Table → Name → List KeyColumn → List KeyColumn → Why → Type 0
TableBreaks s None resource keys places why = why ≡ UnknownName
TableBreaks s (Some table) resource keys places why = LineBreaks s table resource keys places why

-- a row that was found stands at this place
pub record IsRowAt (table : Table) (found : Option Row) (place : ℕ) : Type 0 where
  pub there : place < length table.rows
  pub found_is : found ≡ Some (row_at table place)
