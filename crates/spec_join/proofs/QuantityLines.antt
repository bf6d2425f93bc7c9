-- The quantities that a `quantity table` line sets, message by message.
use Rattle.std.proofs.Common.{◌≡◌, ℕ, ◌+◌, ◌<◌, length, Option, Some, None, sym, ap, subst, ◌∙◌, add-one}
use Rattle.line_words.specs.declared.refusals.Why.{Why}
use Rattle.tgff_reader.specs.Looking.{table_at}
use Rattle.tgff_reader.specs.declared.file.Table.{Table}
use Rattle.table_cells.specs.Least.{IsLeastOrNone}
use Rattle.spec_join.specs.Joining.{Joining}
use Rattle.spec_join.specs.Tables.{HasBelow}
use Rattle.spec_join.specs.Effects.{with_plan}
use Rattle.spec_join.specs.Quantities.{message_row, with_quantity, with_quantities, MessageBreaks, QuantityTableBreaks}

-- the plan with the quantities of the first messages
abbrev pub set_first : Joining → ℕ → ℕ → Option ℕ → ℕ → Joining
set_first s place column rows m = with_plan s (record s.plan { messages = with_quantities s (table_at s.tables place) column rows m })

-- the plan with the quantity of one message
abbrev pub set_one : Joining → ℕ → ℕ → Option ℕ → ℕ → Joining
set_one s place column rows m = with_plan s (record s.plan { messages = with_quantity column m (message_row s (table_at s.tables place) rows m) s.plan.messages })

-- one more message
pub set_more : (old s new : Joining) (place column : ℕ) (rows : Option ℕ) (m : ℕ) → s ≡ set_first old place column rows m → new ≡ set_one s place column rows m
    → new ≡ set_first old place column rows (m + 1)
set_more old s new place column rows m e f =
    f ∙ ap (λ (j : Joining). set_one j place column rows m) e ∙ ap (set_first old place column rows) (sym (add-one m))

-- a message's row isn't refused while the messages before it are set
pub unbroken_at : (old s : Joining) (place column : ℕ) (rows : Option ℕ) (m : ℕ) → s ≡ set_first old place column rows m → m < length old.message_kinds
    → ((why : Why) → HasBelow (length old.message_kinds) (MessageBreaks old (table_at old.tables place) column rows why) → ⊥) → (why : Why)
    → MessageBreaks s (table_at s.tables place) column rows why m → ⊥
unbroken_at old s place column rows m e lt none = subst (λ (j : Joining). (why : Why) → MessageBreaks j (table_at j.tables place) column rows why m → ⊥) (sym e) (λ why x. none why (m, lt, x))

-- a line is accepted whose table is there and none of whose rows is refused
pub accepted_by : (s : Joining) (found : Option Table) (table : Table) (column : ℕ) (rows : Option ℕ) (a : Option Why) → found ≡ Some table → a ≡ None
    → IsLeastOrNone (λ why. HasBelow (length s.message_kinds) (MessageBreaks s table column rows why)) a → (why : Why) → QuantityTableBreaks s found column rows why → ⊥
accepted_by s found table column rows a e none h =
    subst (λ (o : Option Table). (why : Why) → QuantityTableBreaks s o column rows why → ⊥) (sym e) (subst
    (IsLeastOrNone (λ why. HasBelow (length s.message_kinds) (MessageBreaks s table column rows why))) none h)
