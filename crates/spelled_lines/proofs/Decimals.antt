-- A number's decimal text is a word.
use Rattle.std.proofs.Common.{◌≡◌, ℕ, ◌<◌, ◌^◌, true, List, [], ◌∷◌, refl, arith}
use Rattle.std.specs.Prelude.{decimal}
use Rattle.std.specs.List.{list_all}
use Rattle.std.specs.Char.{is_ascii_digit}
use Rattle.std.proofs.lemmas.Bool.{and_parts}
use Rattle.std.proofs.lemmas.Bool.Decides.{nat_tests}
use Rattle.std.proofs.lemmas.Fmt.{digits_decimal, decimal_nonempty}
use Rattle.line_words.proofs.Digits.{own}
use Rattle.spelled_lines.specs.Lines.{is_word_byte, IsWord}

digit_word_byte : (b : ℕ) → is_ascii_digit b ≡ true → is_word_byte b ≡ true
digit_word_byte b h = grind (arith, nat_tests, h)

digit_bytes : (w : List ℕ) → list_all is_ascii_digit w ≡ true → list_all is_word_byte w ≡ true
digit_bytes [] h = refl
digit_bytes (b ∷ w) h = let p = and_parts (is_ascii_digit b) (list_all is_ascii_digit w) h in rw (digit_word_byte b p.0) (digit_bytes w p.1)

-- a decimal number is a word
pub decimal_word : (n : ℕ) → n < 2 ^ 63 → IsWord (decimal n)
decimal_word n lt = record { some = decimal_nonempty n (omega (arith, lt)); bytes = digit_bytes (decimal n) (digits_decimal own n (omega (arith, lt))) }
