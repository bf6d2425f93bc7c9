-- What cells, rows and lines are refused for, from what the code finds.
use Rattle.std.proofs.Common.{◌≡◌, ℕ, ◌≤◌, ◌^◌, ◌⊎◌, inl, inr, Bool, true, false, List, length, Option, Some, None, refl, sym, ap, subst, Any, codes, IsTrue, ◌↔◌}
use Rattle.std.specs.Prelude.{is_some}
use Rattle.line_words.specs.declared.refusals.Why.{Why}
use Rattle.spec_model.specs.Spec.{Name}
use Rattle.spec_graph.specs.Refusals.{IsMapped}
use Rattle.arch_reader.specs.Numbers.{at_scale}
use Rattle.arch_reader.specs.declared.statement.KeyColumn.{KeyColumn}
use Rattle.tgff_reader.specs.declared.file.Row.{Row}
use Rattle.tgff_reader.specs.declared.file.Table.{Table}
use Rattle.table_cells.specs.Least.{IsLeastOrNone, lower_of}
use Rattle.table_cells.proofs.Least.{least_either, least_same}
use Rattle.table_cells.specs.Cells.{cell_of, amount_in, CellBreaks, MarkBreaks}
use Rattle.table_cells.specs.declared.cells.Taking.{Taking}
use Rattle.spec_join.specs.Joining.{Joining}
use Rattle.spec_join.specs.Tables.{MarkColumnBreaks, TimeColumnBreaks, KeyBreaks, ValuesBreak, RowBreaks, TaskBreaks, PlaceBreaks, CellsBreak, OptionsBreak, LineBreaks, HasBelow, time_taking, weight_taking, column_of, does_count, chosen_row, OfRow}
use Rattle.spec_join.specs.Quantities.{QuantityBreaks}
use Rattle.spec_join.proofs.Making.{cell_small}
use Rattle.arch_reader.specs.Words.{is_table_key}

-- ---- cells

-- a cell's refusals, where the code read it in other words
pub least_of_cell : (made taking : Taking) (cell other : Option (List ℕ)) (a : Option Why) → made ≡ taking → other ≡ cell → IsLeastOrNone (CellBreaks made other) a
    → IsLeastOrNone (CellBreaks taking cell) a
least_of_cell made taking cell other a e f h = subst (λ (t : Taking). IsLeastOrNone (CellBreaks t cell) a) e (subst (λ (c : Option (List ℕ)). IsLeastOrNone (CellBreaks made c) a) f h)

pub least_of_mark : (column : Option ℕ) (n : ℕ) (row : Row) (cell : Option (List ℕ)) (a : Option Why) → column ≡ Some n → cell ≡ cell_of row n → IsLeastOrNone (MarkBreaks cell) a
    → IsLeastOrNone (MarkColumnBreaks column row) a
least_of_mark column n row cell a e f h = subst (λ (o : Option ℕ). IsLeastOrNone (MarkColumnBreaks o row) a) (sym e) (subst (λ (c : Option (List ℕ)). IsLeastOrNone (MarkBreaks c) a) f h)

pub least_of_time : (s : Joining) (column : Option ℕ) (n : ℕ) (row : Row) (made : Taking) (cell : Option (List ℕ)) (a : Option Why) → column ≡ Some n → made ≡ time_taking s → cell ≡ cell_of row n
    → IsLeastOrNone (CellBreaks made cell) a
    → IsLeastOrNone (TimeColumnBreaks s column row) a
least_of_time s column n row made cell a e t f h = subst (λ (o : Option ℕ). IsLeastOrNone (TimeColumnBreaks s o row) a) (sym e) (least_of_cell made (time_taking s) (cell_of row n) cell a t f h)

pub least_of_key : (s : Joining) (row : Row) (k : KeyColumn) (a : Option Why) → is_table_key k.key ≡ false → IsLeastOrNone (CellBreaks (weight_taking s k.key) (cell_of row k.column)) a
    → IsLeastOrNone (λ why. KeyBreaks s row why k) a
least_of_key s row k None other h = λ why x. h why x.1
least_of_key s row k (Some a) other h = record { holds = (other, h.holds); least = λ why x. h.least why x.1 }

-- the quantity of a row that isn't refused isn't too big
pub small_quantity : (column : ℕ) (found : Option Row) (row : Row) → found ≡ Some row → ((why : Why) → OfRow (QuantityBreaks column) found why → ⊥)
    → at_scale 0 (amount_in (cell_of row column)) ≤ 2 ^ 40
small_quantity column found row e none = cell_small (record { scale = 0; cut = true }) (cell_of row column) (subst (λ (o : Option Row). (why : Why) → OfRow (QuantityBreaks column) o why → ⊥) e none)

-- ---- rows

-- one that counts is refused for its mark, its time or a weight
pub least_of_counted : (s : Joining) (keys : List KeyColumn) (row : Row) (valid time : Option ℕ) (a b d inner r : Option Why) → valid ≡ column_of keys (codes "valid")
    → time ≡ column_of keys (codes "time") → does_count keys row ≡ true
    → inner ≡ lower_of b d → r ≡ lower_of a inner → IsLeastOrNone (MarkColumnBreaks valid row) a → IsLeastOrNone (TimeColumnBreaks s time row) b
    → IsLeastOrNone (λ why. Any (KeyBreaks s row why) keys) d → IsLeastOrNone (RowBreaks s keys row) r
least_of_counted s keys row valid time a b d inner r v t counts e f mark times weights =
    let marks : IsLeastOrNone (MarkColumnBreaks (column_of keys (codes "valid")) row) a = subst (λ (o : Option ℕ). IsLeastOrNone (MarkColumnBreaks o row) a) v mark in
    let timed : IsLeastOrNone (TimeColumnBreaks s (column_of keys (codes "time")) row) b = subst (λ (o : Option ℕ). IsLeastOrNone (TimeColumnBreaks s o row) b) t times in
    let values : IsLeastOrNone (ValuesBreak s keys row) inner
    = subst (IsLeastOrNone (ValuesBreak s keys row)) (sym e) (least_either (TimeColumnBreaks s (column_of keys (codes "time")) row) (λ why. Any (KeyBreaks s row why) keys) b d timed weights) in
    subst (IsLeastOrNone (RowBreaks s keys row)) (sym f)
    (least_same (λ why. MarkColumnBreaks (column_of keys (codes "valid")) row why ⊎ ValuesBreak s keys row why) (RowBreaks s keys row) (lower_of a inner)
    (λ why x. elim x [
      | inl m ↦ inl m
      | inr w ↦ inr (counts, w)
    ])
    (λ why x. elim x [
      | inl m ↦ inl m
      | inr w ↦ inr w.1
    ])
    (least_either (MarkColumnBreaks (column_of keys (codes "valid")) row) (ValuesBreak s keys row) a inner marks values))

-- ---- options

-- a task that gets an option is taken twice where it is mapped already
pub taken_of : (found : Option Row) (row : Row) (Mapped : Type 0) (r : Bool) → found ≡ Some row → (IsTrue r ↔ Mapped) → IsTrue r ↔ ((is_some found ≡ true) × Mapped)
taken_of found row Mapped r e mapped = (λ x. (ap is_some e, mapped.0 x), λ h. mapped.1 h.1)

-- task t is to get an option and has one already on the resource of this number
abbrev pub IsTakenAt : Joining → Table → ℕ → List KeyColumn → ℕ → Type 0
IsTakenAt s table place keys t = (is_some (chosen_row s table keys t) ≡ true) × IsMapped s.plan t place

-- ---- lines

-- a line is refused for a cell of the first row, for one of a task's row, or for its options
pub least_of_line : (s : Joining) (table : Table) (resource : Name) (keys places : List KeyColumn) (a b cells d r : Option Why) → cells ≡ lower_of a b → r ≡ lower_of cells d
    → IsLeastOrNone (λ why. Any (PlaceBreaks s table why) places) a
    → IsLeastOrNone (λ why. HasBelow (length s.task_kinds) (TaskBreaks s table keys why)) b → IsLeastOrNone (OptionsBreak s table resource keys) d
    → IsLeastOrNone (LineBreaks s table resource keys places) r
least_of_line s table resource keys places a b cells d r e f first rows options =
    let used : IsLeastOrNone (CellsBreak s table keys places) cells
    = subst (IsLeastOrNone (CellsBreak s table keys places)) (sym e) (least_either (λ why. Any (PlaceBreaks s table why) places)
    (λ why. HasBelow (length s.task_kinds) (TaskBreaks s table keys why)) a b first rows) in
    subst (IsLeastOrNone (LineBreaks s table resource keys places)) (sym f) (least_either (CellsBreak s table keys places) (OptionsBreak s table resource keys) cells d used options)
