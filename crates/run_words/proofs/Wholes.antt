-- What `parse` makes of a number's text.
use Rattle.std.proofs.Common.{◌≡◌, ◌≢◌, ◌==◌, ◌&&◌, ◌∙◌, ◌<◌, ◌≤◌, ◌^◌, ℕ, Bool, true, false, List, [], ◌∷◌, Option, Some, None, refl, sym, ap, subst, arith, length, cond, if◌then◌else◌, slice_index, nat_lt, nat_le}
use Rattle.std.specs.Str.{all_ascii_digits}
use Rattle.std.specs.Str.Parse.{IsNumeral, digits_value, without_leading_plus}
use Rattle.std.proofs.lemmas.Str.Parse.{numerals_by_value, tells_all_ascii_digits, without_leading_plus_none}
use Rattle.std.proofs.lemmas.Bool.{lt-ltb, le-leb, ltb-true}
use Rattle.std.proofs.lemmas.Bool.Decides.{nat_tests}
use Rattle.run_words.specs.Numbers.{number_from, is_whole}

whole_digits : (b : ℕ) (bs : List ℕ) → b ≢ 48 → is_whole (b ∷ bs) ≡ all_ascii_digits (b ∷ bs)
whole_digits b bs other = let e : (b == 48) ≡ false = grind (arith, nat_tests) in rw e refl

pub number_ok : (least : ℕ) (t : List ℕ) (n : ℕ) → (length t ≡ 0 → ⊥) → slice_index t 0 ≢ 48 → 49 ≤ slice_index t 0
    → (IsNumeral 10 (without_leading_plus t) × (digits_value 10 (without_leading_plus t) < 2 ^ 64)) × (n ≡ digits_value 10 (without_leading_plus t)) → least ≤ n
    → Some n ≡ number_from least t
number_ok least [] n some zero first p low = absurd (some refl)
number_ok least (b ∷ bs) n some zero first p low =
    let same = without_leading_plus_none (b ∷ bs) (λ e. omega arith) in
    let q = rw same at p in
    let digits : all_ascii_digits (b ∷ bs) ≡ true = (numerals_by_value (λ ds. all_ascii_digits ds ≡ true) tells_all_ascii_digits).from (b ∷ bs) q.0.0.1 in
    let whole : is_whole (b ∷ bs) ≡ true = whole_digits b bs zero ∙ digits in
    let fits : nat_lt (digits_value 10 (b ∷ bs)) (2 ^ 64) ≡ true = lt-ltb _ _ q.0.1 in
    let above : nat_le least (digits_value 10 (b ∷ bs)) ≡ true = le-leb _ _ (rw q.1 at low) in
    ap (λ x. Some x) q.1 ∙ sym (rw (whole, fits, above) refl)

pub number_err : (least : ℕ) (t : List ℕ) → (length t ≡ 0 → ⊥) → slice_index t 0 ≢ 48 → 49 ≤ slice_index t 0
    → (IsNumeral 10 (without_leading_plus t) × (digits_value 10 (without_leading_plus t) < 2 ^ 64) → ⊥)
    → None ≡ number_from least t
number_err least [] some zero first p = absurd (some refl)
number_err least (b ∷ bs) some zero first p = go (is_whole (b ∷ bs)) refl (nat_lt (digits_value 10 (b ∷ bs)) (2 ^ 64)) refl
  where
    go : (w : Bool) → is_whole (b ∷ bs) ≡ w → (f : Bool) → nat_lt (digits_value 10 (b ∷ bs)) (2 ^ 64) ≡ f
        → None ≡ cond (w && (f && nat_le least (digits_value 10 (b ∷ bs)))) (Some (digits_value 10 (b ∷ bs))) None
    go false e f g = refl
    go true e false g = refl
    go true e true g =
        let same = without_leading_plus_none (b ∷ bs) (λ e. omega arith) in
        let digits = (numerals_by_value (λ ds. all_ascii_digits ds ≡ true) tells_all_ascii_digits).to (b ∷ bs) (sym (whole_digits b bs zero) ∙ e) in
        absurd (p (rw same ((omega arith, digits), ltb-true _ _ g)))
