-- Numbers below 100 as words: what holds of each of them is tried one by one.
use Rattle.std.proofs.Common.{◌≡◌, ℕ, suc, ◌+◌, ◌<◌, Bool, true, false, not, ◌&&◌, List, [], ◌∷◌, length, get_or, Ok, Err, refl, sym, ◌∙◌, subst, arith, true≢false}
use Rattle.std.specs.Prelude.{ℤ, pos, nat_lt, decimal, Result}
use Rattle.std.specs.List.{list_all}
use Rattle.std.specs.Fmt.{digits}
use Rattle.std.specs.Float.Numeral.{scan_numeral}
use Rattle.std.proofs.lemmas.Bool.{and_parts, not-true}
use Rattle.std.proofs.lemmas.List.FromFn.{get_or-range_with_len, length-range_with_len}
use Rattle.spec_model.specs.Spec.{below}
use Rattle.line_words.specs.Decimal.{decimal_of}
use Rattle.line_words.specs.declared.numbers.NumberFault.{NumberFault}
use Rattle.file_bricks.specs.Numbers.{read_or}
use Rattle.arch_reader.specs.Numbers.{fine, misread, is_negative, fraction_at}
use Rattle.arch_reader.specs.Tests.{is_above}

-- ---- a test that all numbers below one pass

all_at : {X : Type 0} (p : X → Bool) (xs : List X) (i : ℕ) (d : X) → list_all p xs ≡ true → i < length xs → p (get_or xs i d) ≡ true
all_at p [] i d h lt = absurd (omega (arith, lt))
all_at p (x ∷ xs) ℕ.zero d h lt = (and_parts (p x) (list_all p xs) h).0
all_at p (x ∷ xs) (suc i) d h lt = all_at p xs i d (and_parts (p x) (list_all p xs) h).1 (omega (arith, lt))

pub passed : (p : ℕ → Bool) (n i : ℕ) → list_all p (below n) ≡ true → i < n → p i ≡ true
passed p n i h lt =
    let long = length-range_with_len 0 n in
    let here : get_or (below n) i 0 ≡ i = get_or-range_with_len 0 n i 0 lt ∙ zero-more i in
    subst (λ k. p k ≡ true) here (all_at p (below n) i 0 h (omega (arith, long, lt)))
  where
    zero-more : (k : ℕ) → 0 + k ≡ k
    zero-more k = omega arith

-- ---- numbers

-- a whole number that each objective and time may be
abbrev fits : Result ℤ NumberFault → Bool
fits (Ok v) = not (is_negative v) && (not (nat_lt 0 (fraction_at 0 v)) && not (is_above 0 v))
fits (Err f) = false

abbrev fits_number : ℕ → Bool
fits_number n = fits (decimal_of (decimal n))

all_fit : list_all fits_number (below 100) ≡ true
unfolding decimal_of scan_numeral digits
all_fit = refl

-- what a number that fits is read as
pub record IsNumber (r : Result ℤ NumberFault) : Type 0 where
  pub read : misread r ≡ fine
  pub positive : is_negative (read_or (pos 0) r) ≡ false
  pub whole : nat_lt 0 (fraction_at 0 (read_or (pos 0) r)) ≡ false
  pub low : is_above 0 (read_or (pos 0) r) ≡ false

number_of : (r : Result ℤ NumberFault) → fits r ≡ true → IsNumber r
number_of (Ok v) h =
    let parts = and_parts (not (is_negative v)) (not (nat_lt 0 (fraction_at 0 v)) && not (is_above 0 v)) h in
    let more = and_parts (not (nat_lt 0 (fraction_at 0 v))) (not (is_above 0 v)) parts.1 in
    record { read = refl; positive = not-true _ parts.0; whole = not-true _ more.0; low = not-true _ more.1 }
number_of (Err f) h = absurd (true≢false (sym h))

pub number : (n : ℕ) → n < 100 → IsNumber (decimal_of (decimal n))
number n lt = number_of (decimal_of (decimal n)) (passed fits_number 100 n all_fit lt)
