-- The numbers of a line. A word that is no number counts as 0, and that it is none is kept beside.
use Rattle.std.specs.Prelude.{ℕ, ℤ, pos, negsuc, ◌-◌, ◌/◌, ◌%◌, ◌^◌, List, [], ◌∷◌, map, Bool, true, false, ◌||◌, Result, Ok, Err}
use Rattle.line_words.specs.Numbers.{whole_of}
use Rattle.line_words.specs.Decimal.{decimal_of}
use Rattle.line_words.specs.Rules.{Words}
use Rattle.line_words.specs.declared.numbers.NumberFault.{NumberFault}
use Rattle.line_words.specs.declared.numbers.NumberFault.TheVariants.{BadNumber, TooBig}
use Rattle.file_bricks.specs.Numbers.{whole_in, decimal_in}
use Rattle.arch_reader.specs.Words.{key_of, after_mark, equals}
use Rattle.arch_reader.specs.declared.numbers.Misread.{Misread}
use Rattle.arch_reader.specs.declared.numbers.Amounts.{Amounts}
use Rattle.arch_reader.specs.declared.numbers.Columns.{Columns}
use Rattle.arch_reader.specs.declared.statement.KeyAmount.{KeyAmount}
use Rattle.arch_reader.specs.declared.statement.KeyColumn.{KeyColumn}

-- every word was a number
abbrev pub fine : Misread
fine = record { bad = false; big = false }

-- what was misread in one place or in another
abbrev pub both : Misread → Misread → Misread
both a b = record { bad = a.bad || b.bad; big = a.big || b.big }

-- what a fault says
abbrev pub misread_for : NumberFault → Misread
misread_for BadNumber = record { bad = true; big = false }
misread_for TooBig = record { bad = false; big = true }

-- what a reader of numbers misread
abbrev pub misread : {A : Type 0} → Result A NumberFault → Misread
misread (Ok v) = fine
misread (Err fault) = misread_for fault

-- whether a word is a whole number
abbrev pub whole_misread : List ℕ → Misread
whole_misread word = misread (whole_of word)

-- whether a word is a decimal
abbrev pub decimal_misread : List ℕ → Misread
decimal_misread word = misread (decimal_of word)

-- what was misread in words, of which each is misread in some way
abbrev pub all_misread : (List ℕ → Misread) → Words → Misread
all_misread f [] = fine
all_misread f (w ∷ ws) = both (f w) (all_misread f ws)

-- a word `OBJ=D`
abbrev pub key_amount : List ℕ → KeyAmount
key_amount word = record { key = key_of equals word; amount = decimal_in (after_mark equals word) }

-- whether its value is a decimal
abbrev pub amount_misread : List ℕ → Misread
amount_misread word = decimal_misread (after_mark equals word)

-- words `OBJ=D`
unfoldable pub amounts : Words → Amounts
amounts ws = record { items = map key_amount ws; misread = all_misread amount_misread ws }

-- a word `KEY=N` or `OBJ@N`, by its mark
abbrev pub key_column : ℕ → List ℕ → KeyColumn
key_column mark word = record { key = key_of mark word; column = whole_in (after_mark mark word) }

-- whether its value is a whole number
abbrev pub column_misread : ℕ → List ℕ → Misread
column_misread mark word = whole_misread (after_mark mark word)

-- words `KEY=N`, or words `OBJ@N`
unfoldable pub columns : ℕ → Words → Columns
columns mark ws = record { items = map (key_column mark) ws; misread = all_misread (column_misread mark) ws }

-- an amount that is below zero, which is asked before it is cut
abbrev pub is_negative : ℤ → Bool
is_negative (pos n) = false
is_negative (negsuc n) = true

-- an amount, where one below zero counts as 0, since it is refused for that
abbrev pub units_in : ℤ → ℕ
units_in (pos n) = n
units_in (negsuc n) = 0

-- one at a scale, in units of 10 ^ -12
abbrev pub unit_at : ℕ → ℕ
unit_at scale = 10 ^ (12 - scale)

-- an amount at a scale, cut to a whole number
abbrev pub at_scale : ℕ → ℤ → ℕ
at_scale scale amount = units_in amount / unit_at scale

-- what is cut off there, in units
abbrev pub fraction_at : ℕ → ℤ → ℕ
fraction_at scale amount = units_in amount % unit_at scale
