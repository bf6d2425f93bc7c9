-- What a table's cell says in the place of a number, and what it is refused for.
use Rattle.std.specs.Prelude.{◌≡◌, ℕ, ℤ, pos, negsuc, ◌<◌, List, Bool, true, false, not, ◌==◌, Option, None, Some, Result, Ok, Err, slice_get}
use Rattle.line_words.specs.Decimal.{decimal_of}
use Rattle.line_words.specs.declared.numbers.NumberFault.{NumberFault}
use Rattle.line_words.specs.declared.numbers.NumberFault.TheVariants as numbers
use Rattle.line_words.specs.declared.refusals.Why.{Why}
use Rattle.line_words.specs.declared.refusals.Why.TheVariants.{BadNumber, NoRow, NotWhole, TooBig}
use Rattle.spec_model.specs.Limits.{most_number}
use Rattle.file_bricks.specs.Numbers.{decimal_in}
use Rattle.arch_reader.specs.Numbers.{is_negative, at_scale, fraction_at}
use Rattle.tgff_reader.specs.declared.file.Row.{Row}
use Rattle.table_cells.specs.declared.cells.Taking.{Taking}

-- the word in a column of a row, where the row has one there
abbrev pub cell_of : Row → ℕ → Option (List ℕ)
cell_of row column = slice_get row.words column

-- the number of a cell, in units of 10 ^ -12; where there is none it counts as 0
abbrev pub amount_in : Option (List ℕ) → ℤ
amount_in None = pos 0
amount_in (Some word) = decimal_in word

-- what a number is refused for, by how it is taken: one below zero, a fraction that isn't cut off, or one that is too big
abbrev pub AmountBreaks : Taking → ℤ → Why → Type 0
AmountBreaks taking amount BadNumber = is_negative amount ≡ true
AmountBreaks taking amount NotWhole = (taking.cut ≡ false) × (0 < fraction_at taking.scale amount)
AmountBreaks taking amount TooBig = most_number < at_scale taking.scale amount
AmountBreaks taking amount _ = ⊥

-- what a word is refused for that is no number
abbrev pub refusal_for : NumberFault → Why
refusal_for numbers.BadNumber = BadNumber
refusal_for numbers.TooBig = TooBig

-- what a word in a number's place is refused for; of one that is no number nothing else is asked
abbrev pub ReadingBreaks : Taking → Result ℤ NumberFault → Why → Type 0
ReadingBreaks taking (Ok amount) why = AmountBreaks taking amount why
ReadingBreaks taking (Err fault) why = why ≡ refusal_for fault

-- what a cell is refused for; of one that isn't there nothing else is asked
abbrev pub CellBreaks : Taking → Option (List ℕ) → Why → Type 0
CellBreaks taking None why = why ≡ NoRow
CellBreaks taking (Some word) why = ReadingBreaks taking (decimal_of word) why

-- what the reading of a mark is refused for: any number may stand there
abbrev pub MarkReadingBreaks : Result ℤ NumberFault → Why → Type 0
MarkReadingBreaks (Ok amount) why = ⊥
MarkReadingBreaks (Err fault) why = why ≡ refusal_for fault

-- what the cell is refused for that marks its row as one that counts or as one that doesn't
abbrev pub MarkBreaks : Option (List ℕ) → Why → Type 0
MarkBreaks None why = why ≡ NoRow
MarkBreaks (Some word) why = MarkReadingBreaks (decimal_of word) why

-- a number other than 0
abbrev pub is_other_than_0 : ℤ → Bool
is_other_than_0 (pos n) = not (n == 0)
is_other_than_0 (negsuc n) = true

-- the reading of a mark isn't 0; where it is no number, the row counts and is refused for that
abbrev pub is_marked_by : Result ℤ NumberFault → Bool
is_marked_by (Ok amount) = is_other_than_0 amount
is_marked_by (Err fault) = true

-- a row counts unless its mark is 0, also where the mark is missing
abbrev pub is_marked : Option (List ℕ) → Bool
is_marked None = true
is_marked (Some word) = is_marked_by (decimal_of word)
