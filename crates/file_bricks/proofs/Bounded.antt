-- Decimals that were read lie within their bounds.
use Rattle.std.proofs.Common.{◌≡◌, ℕ, zero, suc, ◌<◌, ◌^◌, inl, inr, Bool, true, false, List, ltb, Result, Ok, Err, refl, sym, ap, subst, arith}
use Rattle.std.specs.Prelude.{ℤ, pos}
use Rattle.std.specs.Float.Numeral.{scan_numeral}
use Rattle.std.proofs.lemmas.Bool.{cases_Bool, ltb-true}
use Rattle.line_words.specs.Decimal.{most, units, signed, has_minus, is_numeral, without_sign, decimal_of}
use Rattle.line_words.specs.declared.numbers.NumberFault.{NumberFault}
use Rattle.line_words.specs.declared.numbers.NumberFault.TheVariants.{BadNumber, TooBig}
use Rattle.file_bricks.specs.Numbers.{read_or, decimal_in}
use Rattle.file_bricks.specs.Bounds.{IsAmount}

abbrev read : Result ℤ NumberFault → ℤ
read r = read_or (pos 0) r

zero_small : IsAmount (pos 0)
zero_small = record { above = search arith; below = search arith }

signed_small : (negative : Bool) (n : ℕ) → n < most → IsAmount (signed negative n)
signed_small true zero lt = zero_small
signed_small true (suc n) lt = record { above = search arith; below = search arith }
signed_small false n lt = record { above = search arith; below = search arith }

-- a decimal that was read, and 0 in place of a word that is none
pub decimal_small : (w : List ℕ) → IsAmount (decimal_in w)
unfolding decimal_of
decimal_small w =
    let n = units (scan_numeral (without_sign w)) in
    elim (cases_Bool (is_numeral (without_sign w))) [
      | inr g ↦ let e : decimal_of w ≡ Err BadNumber = rw g refl in subst IsAmount (sym (ap read e)) zero_small
      | inl t ↦ elim (cases_Bool (ltb n (10 ^ 27))) [
        | inr g ↦ let e : decimal_of w ≡ Err TooBig = rw (t, g) refl in subst IsAmount (sym (ap read e)) zero_small
        | inl u ↦ let e : decimal_of w ≡ Ok (signed (has_minus w) n) = rw (t, u) refl in subst IsAmount (sym (ap read e)) (signed_small (has_minus w) n (ltb-true n (10 ^ 27) u))
      ]
    ]
