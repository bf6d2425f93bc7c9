-- A decimal numeral as a word, and its value in units of 10 ^ -12.
use Rattle.std.specs.Prelude.{ℕ, ◌+◌, ◌*◌, ◌/◌, ◌^◌, ℤ, pos, neg_ℤ, List, length, drop, Bool, ◌&&◌, ◌||◌, ◌==◌, nat_lt, slice_index, if◌then◌else◌, Result, Ok, Err}
use Rattle.std.specs.Float.Numeral.{Parts, scan_numeral, has_digits, numeral_digits, tens_up, tens_down, minus, plus}
use Rattle.line_words.specs.declared.numbers.NumberFault.{NumberFault}
use Rattle.line_words.specs.declared.numbers.NumberFault.TheVariants.{BadNumber, TooBig}

-- a minus stands in front
abbrev pub has_minus : List ℕ → Bool
has_minus word = slice_index word 0 == minus

-- a word without its sign
abbrev pub without_sign : List ℕ → List ℕ
without_sign word = if (slice_index word 0 == minus || slice_index word 0 == plus) then drop 1 word else word

-- the numeral at the front of a word is the whole word, and has a digit before its exponent
abbrev pub is_numeral : List ℕ → Bool
is_numeral word = has_digits (scan_numeral word) && ((scan_numeral word).len == length word)

-- a numeral's exact value, which is its digits times a power of ten, in units of 10 ^ -12 and cut to a whole number
abbrev pub units : Parts → ℕ
units p = numeral_digits p * 10 ^ (tens_up p + 12) / 10 ^ tens_down p

-- 10 ^ 15 in units
abbrev pub most : ℕ
most = 1000000000000000000000000000

-- a number with its sign
abbrev pub signed : Bool → ℕ → ℤ
signed negative n = if negative then neg_ℤ (pos n) else pos n

-- the value of a decimal in units, below 10 ^ 15 of either sign
unfoldable pub decimal_of : List ℕ → Result ℤ NumberFault
decimal_of word = if is_numeral (without_sign word)
    then (if nat_lt (units (scan_numeral (without_sign word))) (10 ^ 27) then Ok (signed (has_minus word) (units (scan_numeral (without_sign word)))) else Err TooBig)
    else Err BadNumber
