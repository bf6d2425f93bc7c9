-- What a `quantity table` line makes of a table of the TGFF file, and what it is refused for. It sets the quantity of each
-- message that is an arc of the graphs and wasn't merged, where the table has a row of its type.
use Rattle.std.specs.Prelude.{◌≡◌, ℕ, zero, suc, List, length, true, Option, None, Some, slice_index_or, option_and_then}
use Rattle.spec_model.specs.Spec.{SpecValue, Message}
use Rattle.spec_graph.specs.Changes.{with_changed}
use Rattle.spec_graph.specs.declared.messages.Change.TheVariants as changes
use Rattle.line_words.specs.declared.refusals.Why.{Why}
use Rattle.line_words.specs.declared.refusals.Why.TheVariants.{UnknownName}
use Rattle.arch_reader.specs.Numbers.{at_scale}
use Rattle.tgff_reader.specs.declared.file.Table.{Table}
use Rattle.tgff_reader.specs.declared.file.Row.{Row}
use Rattle.table_cells.specs.Cells.{cell_of, amount_in, CellBreaks}
use Rattle.table_cells.specs.Rows.{row_of}
use Rattle.table_cells.specs.declared.cells.Taking.{Taking}
use Rattle.spec_join.specs.Joining.{Joining}
use Rattle.spec_join.specs.Tables.{number_or, OfRow, HasBelow}

-- how a quantity is taken
abbrev pub quantity_taking : Taking
quantity_taking = record { scale = 0; cut = true }

abbrev pub message_kind_at : List (Option ℕ) → ℕ → Option ℕ
message_kind_at kinds m = slice_index_or kinds m None

-- the row of the type of message m, where it has a type
abbrev pub message_row : Joining → Table → Option ℕ → ℕ → Option Row
message_row s table rows m = option_and_then (row_of table (number_or rows 0)) (message_kind_at s.message_kinds m)

-- the messages, of which message m has the quantity of a row
abbrev pub with_quantity : ℕ → ℕ → Option Row → List Message → List Message
with_quantity column m None messages = messages
with_quantity column m (Some row) messages = with_changed messages m (changes.Quantity (at_scale 0 (amount_in (cell_of row column))))

-- the messages, of which the first ones have the quantities of their rows
abbrev pub with_quantities : Joining → Table → ℕ → Option ℕ → ℕ → List Message
with_quantities s table column rows zero = s.plan.messages
with_quantities s table column rows (suc m) = with_quantity column m (message_row s table rows m) (with_quantities s table column rows m)

-- the plan that the line makes; without the table it stays as it is
abbrev pub with_quantity_table : Joining → Option Table → ℕ → Option ℕ → SpecValue
with_quantity_table s None column rows = s.plan
with_quantity_table s (Some table) column rows = record s.plan { messages = with_quantities s table column rows (length s.message_kinds) }

abbrev pub QuantityBreaks : ℕ → Row → Why → Type 0
QuantityBreaks column row why = CellBreaks quantity_taking (cell_of row column) why

-- what the row of message m is refused for
abbrev pub MessageBreaks : Joining → Table → ℕ → Option ℕ → Why → ℕ → Type 0
MessageBreaks s table column rows why m = OfRow (QuantityBreaks column) (message_row s table rows m) why

-- what the line is refused for; without the table nothing else is asked
abbrev pub QuantityTableBreaks : Joining → Option Table → ℕ → Option ℕ → Why → Type 0
QuantityTableBreaks s None column rows why = why ≡ UnknownName
QuantityTableBreaks s (Some table) column rows why = HasBelow (length s.message_kinds) (MessageBreaks s table column rows why)
