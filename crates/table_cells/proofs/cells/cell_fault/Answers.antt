use Rattle.std.proofs.Common.{◌≡◌, ℕ, ℤ, List, Option, Some, Result, Ok, sym, subst, ◌∙◌, to_z, of_z, rules}
use Rattle.std.specs.Int.{w128}
use Rattle.line_words.specs.Decimal.{decimal_of}
use Rattle.line_words.specs.declared.refusals.Why.{Why}
use Rattle.table_cells.specs.Least.{IsLeastOrNone}
use Rattle.table_cells.specs.Cells.{AmountBreaks, ReadingBreaks, CellBreaks}
use Rattle.line_words.specs.declared.numbers.NumberFault.{NumberFault}
use Rattle.table_cells.specs.declared.cells.Taking.{Taking}
use Rattle.table_cells.proofs.cells.cell_fault.Goals as goal

-- a word that reads as a number is refused for what the number is
by_amount : (taking : Taking) (word : List ℕ) (amount passed : ℤ) (fault : Option Why) → decimal_of word ≡ Ok amount → passed ≡ amount
    → IsLeastOrNone (AmountBreaks taking passed) fault → IsLeastOrNone (CellBreaks taking (Some word)) fault
by_amount taking word amount passed fault reads same h =
    subst (λ (r : Result ℤ NumberFault). IsLeastOrNone (ReadingBreaks taking r) fault) (sym reads) (subst (λ (n : ℤ). IsLeastOrNone (AmountBreaks taking n) fault) same h)

pub returns-in-Ok : goal.returns-in-Ok
returns-in-Ok c =
    let passed = to_z w128 (of_z w128 c.in-Ok.amount) in
    let same : passed ≡ c.in-Ok.amount = search rules in
    rw c.in-Some.is (by_amount c.args.taking c.in-Some.word.now c.in-Ok.amount passed c.amount_fault.result (sym c.decimal.ensures.value ∙ c.in-Ok.is) same c.amount_fault.ensures)
