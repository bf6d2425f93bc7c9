-- Words as numbers.
use Rattle.std.specs.Prelude.{ℕ, ℤ, pos, List, Bool, true, false, Result, Ok, Err}
use Rattle.line_words.specs.Numbers.{whole_of}
use Rattle.line_words.specs.Decimal.{decimal_of}
use Rattle.line_words.specs.declared.numbers.NumberFault.{NumberFault}
use Rattle.line_words.specs.declared.numbers.NumberFault.TheVariants.{BadNumber, TooBig}

-- a word is no number
abbrev pub is_bad : {A : Type 0} → Result A NumberFault → Bool
is_bad (Ok v) = false
is_bad (Err BadNumber) = true
is_bad (Err TooBig) = false

-- a word is a number, and is too big
abbrev pub is_big : {A : Type 0} → Result A NumberFault → Bool
is_big (Ok v) = false
is_big (Err BadNumber) = false
is_big (Err TooBig) = true

-- the number that a word is, or another one
abbrev pub read_or : {A : Type 0} → A → Result A NumberFault → A
read_or other (Ok v) = v
read_or other (Err fault) = other

-- a word as a whole number
abbrev pub whole_in : List ℕ → ℕ
whole_in word = read_or 0 (whole_of word)

-- a word as a decimal, in units of 10 ^ -12
abbrev pub decimal_in : List ℕ → ℤ
decimal_in word = read_or (pos 0) (decimal_of word)
