-- The number that digits write, against what `parse` gives.
use Rattle.std.proofs.Common.{◌≡◌, ℕ, ◌^◌, ◌<◌, true, false, List, length, Err, ltb, refl, arith, rules, inl, inr}
use Rattle.std.specs.List.{list_all}
use Rattle.std.specs.Char.{is_ascii_digit}
use Rattle.std.specs.Str.Parse.{digits_value, ParsesUnsigned}
use Rattle.std.proofs.lemmas.Str.Parse.{IsNumeralModel, numerals_by_value, parse_digits}
use Rattle.std.proofs.lemmas.Bool.{cases_lt, le-ltb, ltb-true, and_parts}
use Rattle.line_words.specs.Numbers.{is_digits, whole_of}
use Rattle.line_words.specs.declared.numbers.NumberFault.TheVariants.{TooBig}

-- the texts of decimal digits, and the numbers that they represent
pub own : IsNumeralModel (λ ds. list_all is_ascii_digit ds ≡ true) (digits_value 10)
own = numerals_by_value _ (search rules)

-- digits that a u64 can't hold are too many for `whole`
pub whole_of_unread : {E : Type 0} (word : List ℕ) (e : E) → is_digits word ≡ true → ParsesUnsigned 64 10 word (Err e) → whole_of word ≡ Err TooBig
unfolding whole_of
whole_of_unread {E} word e d h =
    let parts = and_parts (ltb 0 (length word)) (list_all is_ascii_digit word) d in
    let some : 0 < length word = ltb-true 0 (length word) parts.0 in
    let not_read = parse_digits own 64 word (Err e) h parts.1 in
    let high : ltb (digits_value 10 word) (2 ^ 63) ≡ false = elim (cases_lt (digits_value 10 word) (2 ^ 64)) [
      | inl lt ↦ absurd (not_read (some, lt))
      | inr ge ↦ le-ltb (digits_value 10 word) (2 ^ 63) (omega arith)
    ] in
    rw (d, high) refl
