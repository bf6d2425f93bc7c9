-- Numbers that were read.
use Rattle.std.proofs.Common.{◌≡◌, ℕ, ◌<◌, ◌^◌, inl, inr, List, ltb, Result, Ok, Err, refl, sym, ap, subst, arith}
use Rattle.std.specs.Str.Parse.{digits_value}
use Rattle.std.proofs.lemmas.Bool.{cases_Bool, ltb-true}
use Rattle.line_words.specs.Numbers.{is_digits, whole_of}
use Rattle.line_words.specs.declared.numbers.NumberFault.{NumberFault}
use Rattle.line_words.specs.declared.numbers.NumberFault.TheVariants.{BadNumber, TooBig}
use Rattle.file_bricks.specs.Numbers.{read_or, whole_in}

abbrev read : Result ℕ NumberFault → ℕ
read r = read_or 0 r

-- a whole number is below 2 ^ 63
pub whole_small : (w : List ℕ) → whole_in w < 2 ^ 63
unfolding whole_of
whole_small w =
    elim (cases_Bool (is_digits w)) [
      | inr g ↦ let e : whole_of w ≡ Err BadNumber = rw g refl in subst (λ (n : ℕ). n < 2 ^ 63) (sym (ap read e)) (omega arith)
      | inl t ↦ elim (cases_Bool (ltb (digits_value 10 w) (2 ^ 63))) [
        | inr g ↦ let e : whole_of w ≡ Err TooBig = rw (t, g) refl in subst (λ (n : ℕ). n < 2 ^ 63) (sym (ap read e)) (omega arith)
        | inl u ↦ let e : whole_of w ≡ Ok (digits_value 10 w) = rw (t, u) refl in subst (λ (n : ℕ). n < 2 ^ 63) (sym (ap read e)) (ltb-true (digits_value 10 w) (2 ^ 63) u)
      ]
    ]
