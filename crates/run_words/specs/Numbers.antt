-- Whole numbers on a command line.
use Rattle.std.specs.Prelude.{◌==◌, ◌&&◌, ◌∷◌, [], ◌^◌, ℕ, Bool, false, length, Option, Some, None, if◌then◌else◌, nat_le, nat_lt, option_and_then, option_map}
use Rattle.std.specs.Str.{all_ascii_digits}
use Rattle.std.specs.Str.Parse.{digits_value}
use Rattle.form_words.specs.Line.{Text}

-- decimal digits without leading zeros
abbrev pub is_whole : Text → Bool
is_whole [] = false
is_whole (b ∷ bs) = if b == 48 then length bs == 0 else all_ascii_digits (b ∷ bs)

-- the number that a word writes, from a least one on and below 2 ^ 64
abbrev pub number_from : ℕ → Text → Option ℕ
number_from least text =
    if is_whole text && (nat_lt (digits_value 10 text) (2 ^ 64) && nat_le least (digits_value 10 text))
    then Some (digits_value 10 text) else None

-- the number of an option, which may not be given: none of a word that writes no such number
abbrev pub number_if_given : ℕ → Option Text → Option (Option ℕ)
number_if_given least None = Some None
number_if_given least (Some text) = option_map (λ n. Some n) (number_from least text)

-- the number that a word writes, up to a greatest one
abbrev pub number_up_to : ℕ → Text → Option ℕ
number_up_to most text = option_and_then (λ n. if nat_le n most then Some n else None) (number_from 0 text)
