-- Whole numbers as words.
use Rattle.std.specs.Prelude.{ℕ, ◌^◌, List, length, Bool, ◌&&◌, ◌==◌, nat_lt, slice_index, if◌then◌else◌, Result, Ok, Err}
use Rattle.std.specs.List.{list_all}
use Rattle.std.specs.Char.{is_ascii_digit}
use Rattle.std.specs.Str.Parse.{digits_value}
use Rattle.line_words.specs.declared.numbers.NumberFault.{NumberFault}
use Rattle.line_words.specs.declared.numbers.NumberFault.TheVariants.{BadNumber, TooBig}

-- one digit or more, and nothing else
abbrev pub is_digits : List ℕ → Bool
is_digits word = nat_lt 0 (length word) && list_all is_ascii_digit word

-- the number that the digits write, below 2 ^ 63
unfoldable pub whole_of : List ℕ → Result ℕ NumberFault
whole_of word = if is_digits word then (if nat_lt (digits_value 10 word) (2 ^ 63) then Ok (digits_value 10 word) else Err TooBig) else Err BadNumber

-- a zero stands before a further byte
abbrev pub has_leading_zero : List ℕ → Bool
has_leading_zero word = nat_lt 1 (length word) && (slice_index word 0 == 48)

-- the same, where no leading zero stands before a further digit
unfoldable pub plain_whole_of : List ℕ → Result ℕ NumberFault
plain_whole_of word = if has_leading_zero word then Err BadNumber else whole_of word
