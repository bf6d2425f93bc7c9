-- Numbers without a leading zero are what `decimal` writes.
use Rattle.std.proofs.Common.{◌≡◌, ℕ, zero, suc, ◌^◌, ◌<◌, true, false, ltb, eqb, List, length, get_or, Result, Ok, Err, refl, sym, ap, ◌∙◌, arith, inl, inr}
use Rattle.std.specs.Prelude.{decimal}
use Rattle.std.specs.List.{list_all}
use Rattle.std.specs.Char.{is_ascii_digit}
use Rattle.std.specs.Str.Parse.{digits_value}
use Rattle.std.proofs.lemmas.Bool.{cases_Bool, lt-ltb, ltb-true, ltb-false, eqb-true, and_parts}
use Rattle.std.proofs.Math.Bool.{and-false}
use Rattle.std.proofs.lemmas.Fmt.{digits_decimal, digits_value-decimal, decimal_nonempty, decimal-digits_value, first_decimal, decimal_digit}
use Rattle.line_words.specs.Numbers.{is_digits, has_leading_zero, whole_of, plain_whole_of}
use Rattle.line_words.specs.declared.numbers.NumberFault.{NumberFault}
use Rattle.line_words.specs.declared.numbers.NumberFault.TheVariants.{BadNumber, TooBig}
use Rattle.line_words.proofs.Digits.{own}

abbrev ok : ℕ → Result ℕ NumberFault
ok n = Ok n

ok_is : (m n : ℕ) → ok m ≡ ok n → m ≡ n
ok_is m n e = cc

-- the zero stands alone, and another number begins with another digit
no_zero : (n : ℕ) → n < 2 ^ 64 → has_leading_zero (decimal n) ≡ false
no_zero zero lt = rw (decimal_digit 0 (omega arith)) refl
no_zero (suc m) lt =
    let first = first_decimal (suc m) (omega arith) lt in
    elim (cases_Bool (eqb (get_or (decimal (suc m)) 0 0) 48)) [
      | inl t ↦ let is = eqb-true (get_or (decimal (suc m)) 0 0) 48 t in absurd (omega (arith, first, is))
      | inr f ↦ rw f (and-false (ltb 1 (length (decimal (suc m)))))
    ]

-- the decimal text of a number is read as it
pub plain_whole_of-decimal : (n : ℕ) → n < 2 ^ 63 → plain_whole_of (decimal n) ≡ Ok n
unfolding plain_whole_of whole_of
plain_whole_of-decimal n lt =
    let wide : n < 2 ^ 64 = omega arith in
    let some : ltb 0 (length (decimal n)) ≡ true = lt-ltb 0 (length (decimal n)) (decimal_nonempty n wide) in
    let all : list_all is_ascii_digit (decimal n) ≡ true = digits_decimal own n wide in
    let d : is_digits (decimal n) ≡ true = rw (some, all) refl in
    let v : digits_value 10 (decimal n) ≡ n = digits_value-decimal own n wide in
    let low : ltb n (2 ^ 63) ≡ true = lt-ltb n (2 ^ 63) lt in
    rw (no_zero n wide, d, v, low) refl

one_long : (w : List ℕ) → has_leading_zero w ≡ false → 0 < length w → get_or w 0 0 ≡ 48 → length w ≡ 1
one_long w f some is =
    elim (cases_Bool (ltb 1 (length w))) [
      | inl t ↦ let both_true : has_leading_zero w ≡ true = rw (t, is) refl in absurd (let c : true ≡ false = sym both_true ∙ f in cc)
      | inr g ↦ omega (arith, ltb-false 1 (length w) g)
    ]

-- what is read as a number is its decimal text
pub decimal_when_read : (w : List ℕ) (n : ℕ) → plain_whole_of w ≡ Ok n → (w ≡ decimal n) × (n < 2 ^ 63)
unfolding plain_whole_of whole_of
decimal_when_read w n e =
    elim (cases_Bool (has_leading_zero w)) [
      | inl t ↦ let c : plain_whole_of w ≡ Err BadNumber = rw t refl in absurd (let d : ok n ≡ Err BadNumber = sym e ∙ c in cc)
      | inr f ↦ elim (cases_Bool (is_digits w)) [
        | inr g ↦ let c : plain_whole_of w ≡ Err BadNumber = rw (f, g) refl in absurd (let d : ok n ≡ Err BadNumber = sym e ∙ c in cc)
        | inl t ↦ elim (cases_Bool (ltb (digits_value 10 w) (2 ^ 63))) [
          | inr g ↦ let c : plain_whole_of w ≡ Err TooBig = rw (f, t, g) refl in absurd (let d : ok n ≡ Err TooBig = sym e ∙ c in cc)
          | inl u ↦
              let c : plain_whole_of w ≡ ok (digits_value 10 w) = rw (f, t, u) refl in
              let is : digits_value 10 w ≡ n = ok_is (digits_value 10 w) n (sym c ∙ e) in
              let parts = and_parts (ltb 0 (length w)) (list_all is_ascii_digit w) t in
              let some : 0 < length w = ltb-true 0 (length w) parts.0 in
              let small : digits_value 10 w < 2 ^ 63 = ltb-true (digits_value 10 w) (2 ^ 63) u in
              let back = decimal-digits_value own w parts.1 some (λ first. one_long w f some first) (omega arith) in
              (sym back ∙ ap decimal is, omega (arith, is))
        ]
      ]
    ]
