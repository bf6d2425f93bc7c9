-- The first digits of a numeral are its value, scaled and cut.
use Rattle.std.proofs.Common.{◌≡◌, ℕ, zero, suc, ◌+◌, ◌*◌, ◌/◌, ◌-◌, ◌^◌, min, ◌<◌, ◌≤◌, inl, inr, Bool, true, false, cond, List, [], ◌∷◌, ◌++◌, length, take, drop, refl, sym, ap, subst, ◌∙◌, arith, rules, tests}
use Rattle.std.specs.Str.Parse.{digits_value, digits_value_after, AllDigits}
use Rattle.std.specs.Char.{digit_value}
use Rattle.std.specs.List.{list_all, prefix_len}
use Rattle.std.specs.Char.{is_ascii_digit}
use Rattle.line_words.proofs.Digits.{own}
use Rattle.std.proofs.lemmas.Bool.{cases_lt, cases_Bool}
use Rattle.std.proofs.lemmas.List.{take-append-drop, length-drop, length-append, take_all, take-append-le, append-nil, take_min}
use Rattle.std.proofs.Math.Seq.{take-append-add}
use Rattle.std.proofs.lemmas.Nat.{pow-add, div-mul-add}
use Rattle.std.proofs.lemmas.Int.Digits.{digits_value-lt}
use Rattle.std.proofs.Math.Nat.{div-eq_of_lt, mul-div-mul_left, mul-div_cancel, mul-lt-mul_of_pos_right, pow-le-pow_right, mul-le-mul_left}
use Rattle.std.proofs.lemmas.Grind.{pow_more}
use Rattle.std.specs.Int.{IsInRange}
use Rattle.line_words.specs.Decimal.{most, units}
use Rattle.std.specs.Float.Numeral.{Parts}

abbrev V : List ℕ → ℕ
V ds = digits_value 10 ds

pub tens_pos : (k : ℕ) → 0 < 10 ^ k
tens_pos zero = omega arith
tens_pos (suc k) = let e : 10 ^ suc k ≡ 10 ^ k * 10 = ap (λ (n : ℕ). 10 ^ n) (omega arith) ∙ pow_more 10 k in omega (arith, e, tens_pos k)

pub after_split : (n : ℕ) (ds : List ℕ) → digits_value_after 10 n ds ≡ n * 10 ^ length ds + V ds
after_split n [] = omega arith
after_split n (c ∷ cs) =
    let p = 10 ^ length cs in
    let e : 10 ^ suc (length cs) ≡ 10 ^ length cs * 10 = ap (λ (k : ℕ). 10 ^ k) (omega arith) ∙ pow_more 10 (length cs) in
    let a = after_split (n * 10 + digit_value c) cs in
    let b = after_split (0 * 10 + digit_value c) cs in
    rw e (omega (arith, a, b))

after-append : (n : ℕ) (xs ys : List ℕ) → digits_value_after 10 n (xs ++ ys) ≡ digits_value_after 10 (digits_value_after 10 n xs) ys
after-append n [] ys = refl
after-append n (x ∷ xs) ys = after-append (n * 10 + digit_value x) xs ys

pub V-append : (xs ys : List ℕ) → V (xs ++ ys) ≡ V xs * 10 ^ length ys + V ys
V-append xs ys = after-append 0 xs ys ∙ after_split (V xs) ys

AllDigits-drop : (k : ℕ) (ds : List ℕ) → AllDigits 10 ds → AllDigits 10 (drop k ds)
AllDigits-drop zero ds h = h
AllDigits-drop (suc k) [] h = h
AllDigits-drop (suc k) (d ∷ ds) h = AllDigits-drop k ds h.1

-- the value of all digits, cut by the last ones
cut : (ds : List ℕ) (keep j : ℕ) → AllDigits 10 ds → keep + j ≡ length ds → V ds / 10 ^ j ≡ V (take keep ds)
cut ds keep j h e =
    let len : length (drop keep ds) ≡ j = omega (arith, length-drop keep ds) in
    let parts : V ds ≡ V (take keep ds) * 10 ^ j + V (drop keep ds) = ap V (sym (take-append-drop keep ds)) ∙ V-append (take keep ds) (drop keep ds)
    ∙ ap (λ (k : ℕ). V (take keep ds) * 10 ^ k + V (drop keep ds)) len in
    let small : V (drop keep ds) < 10 ^ j = subst (λ (k : ℕ). V (drop keep ds) < 10 ^ k) len (digits_value-lt 10 (drop keep ds) (AllDigits-drop keep ds h)) in
    rw parts (div-mul-add (V (take keep ds)) (10 ^ j) (V (drop keep ds)) small)

exact_low : (ds : List ℕ) (up j keep : ℕ) → AllDigits 10 ds → keep + j ≡ length ds → V ds * 10 ^ up / 10 ^ (up + j) ≡ V (take keep ds)
exact_low ds up j keep h e =
    let turned : V ds * 10 ^ up ≡ 10 ^ up * V ds = omega arith in
    rw (turned, pow-add 10 up j) (mul-div-mul_left (V ds) (10 ^ j) (tens_pos up) ∙ cut ds keep j h e)

exact_high : (m down r : ℕ) → m * 10 ^ (down + r) / 10 ^ down ≡ m * 10 ^ r
exact_high m down r =
    let turned : m * (10 ^ down * 10 ^ r) ≡ m * 10 ^ r * 10 ^ down = omega arith in
    rw (pow-add 10 down r, turned) (mul-div_cancel (m * 10 ^ r) (tens_pos down))

exact_none : (ds : List ℕ) (up down : ℕ) → AllDigits 10 ds → up + length ds ≤ down → V ds * 10 ^ up / 10 ^ down ≡ 0
exact_none ds up down h le =
    let below = digits_value-lt 10 ds h in
    let a : V ds * 10 ^ up < 10 ^ length ds * 10 ^ up = mul-lt-mul_of_pos_right below (tens_pos up) in
    let b : 10 ^ (length ds + up) ≤ 10 ^ down = pow-le-pow_right (tens_pos 1) (omega arith) in
    div-eq_of_lt (omega (arith, a, b, pow-add 10 (length ds) up))

-- the value, scaled up by 10 ^ up and down by 10 ^ down and cut, is that of the digits that are kept, and of zeros after them
pub exact : (ds : List ℕ) (up down : ℕ) → AllDigits 10 ds
    → V ds * 10 ^ up / 10 ^ down ≡ V (take (up + length ds - down) ds) * 10 ^ (up + length ds - down - length ds)
exact ds up down h =
    elim (cases_lt up down) [
      | inl less ↦ elim (cases_lt down (up + length ds)) [
        | inr high ↦
            let none : up + length ds - down ≡ 0 = omega arith in
            rw none (exact_none ds up down h high ∙ omega arith)
        | inl low ↦
            let j : up + (down - up) ≡ down = omega arith in
            let zeros : up + length ds - down - length ds ≡ 0 = omega arith in
            let one : V (take (up + length ds - down) ds) * 10 ^ 0 ≡ V (take (up + length ds - down) ds) = omega arith in
            rw zeros (ap (λ (k : ℕ). V ds * 10 ^ up / 10 ^ k) (sym j) ∙ exact_low ds up (down - up) (up + length ds - down) h (omega arith) ∙ sym one)
      ]
      | inr more ↦
          let up_is : up ≡ down + (up - down) = omega arith in
          let zeros : up + length ds - down - length ds ≡ up - down = omega arith in
          let whole : take (up + length ds - down) ds ≡ ds = take_all (up + length ds - down) ds (omega arith) in
          rw (zeros, whole) (ap (λ (k : ℕ). V ds * 10 ^ k / 10 ^ down) up_is ∙ exact_high (V ds) down (up - down))
    ]

-- ---- with a bound at which the code stops

-- a number and digits after it, at most the bound
pub sat_after : (n m : ℕ) (ds : List ℕ) → min n most ≡ min m most → min (digits_value_after 10 n ds) most ≡ min (digits_value_after 10 m ds) most
sat_after n m [] e = e
sat_after n m (d ∷ ds) e = sat_after (n * 10 + digit_value d) (m * 10 + digit_value d) ds (omega arith)

-- zeros after a number, at most the bound
pub sat_zeros : (n m k : ℕ) → min n most ≡ min m most → min (n * 10 ^ k) most ≡ min (m * 10 ^ k) most
sat_zeros n m k e =
    elim (cases_lt n most) [
      | inl low ↦ let same : n ≡ m = omega arith in rw same refl
      | inr high ↦
          let a : n * 1 ≤ n * 10 ^ k = mul-le-mul_left n (tens_pos k) in
          let b : m * 1 ≤ m * 10 ^ k = mul-le-mul_left m (tens_pos k) in
          omega arith
    ]

-- 27 zeros or more after a number: 0, or past the bound
pub many_zeros : (n j k : ℕ) → 27 ≤ j → 27 ≤ k → min (n * 10 ^ j) most ≡ min (n * 10 ^ k) most
many_zeros zero j k a b = omega arith
many_zeros (suc n) j k a b =
    let p : most ≤ 10 ^ j = pow-le-pow_right (tens_pos 1) a in
    let q : most ≤ 10 ^ k = pow-le-pow_right (tens_pos 1) b in
    omega arith

-- at the bound zeros change nothing
pub full : (n k : ℕ) → most ≤ n → n ≤ most → n ≡ min (n * 10 ^ k) most
full n k a b = let p : n * 1 ≤ n * 10 ^ k = mul-le-mul_left n (tens_pos k) in omega arith

pub digit_is : (d : ℕ) → IsInRange 48 57 d → digit_value d ≡ d - 48
digit_is d r = search (rules, tests)

pub min_step : (res v f dv : ℕ) → res ≡ min (v * 10 + f) most → f ≡ dv → (min res most ≡ min (v * 10 + dv) most) × (res ≤ most)
min_step res v f dv a b = (omega arith, omega arith)

-- the digits kept of two parts
pub two_parts : (xs ys : List ℕ) (keep a b : ℕ) → a ≡ min keep (length xs) → b ≡ min (keep - a) (length ys) → take a xs ++ take b ys ≡ take keep (xs ++ ys)
two_parts xs ys keep a b d e =
    elim (cases_lt keep (length xs)) [
      | inl low ↦
          let a_is : a ≡ keep = omega arith in
          let b_is : b ≡ 0 = omega arith in
          rw (a_is, b_is) (append-nil (take keep xs) ∙ sym (take-append-le keep xs ys (omega arith)))
      | inr high ↦
          let a_is : a ≡ length xs = omega arith in
          let whole : take (length xs) xs ≡ xs = take_all (length xs) xs (omega arith) in
          let k_is : keep ≡ length xs + (keep - length xs) = omega arith in
          let b_is : b ≡ min (keep - length xs) (length ys) = omega arith in
          rw (a_is, whole, b_is, take_min (keep - length xs) ys) (sym (ap (λ (n : ℕ). take n (xs ++ ys)) k_is ∙ take-append-add xs ys (keep - length xs)))
    ]

units_by : (negative : Bool) (whole fraction : List ℕ) (exponent e keep : ℕ) → AllDigits 10 (whole ++ fraction) → e ≡ min exponent most
    → length whole + length fraction < 2 ^ 64
    → keep ≡ (cond negative 0 e + 12) + length (whole ++ fraction) - (length fraction + cond negative e 0)
    → min (V (take keep (whole ++ fraction)) * 10 ^ (keep - length (whole ++ fraction))) most
    ≡ min (V (whole ++ fraction) * 10 ^ (cond negative 0 exponent + 12) / 10 ^ (length fraction + cond negative exponent 0)) most
units_by true whole fraction exponent e keep h e_is short k_is =
    let ds = whole ++ fraction in
    let n = length-append whole fraction in
    let same : keep ≡ 0 + 12 + length (whole ++ fraction) - (length fraction + exponent) = omega (arith, n) in
    rw (exact (whole ++ fraction) (0 + 12) (length fraction + exponent) h, same) refl
units_by false whole fraction exponent e keep h e_is short k_is =
    let n = length-append whole fraction in
    elim (cases_lt exponent most) [
      | inl low ↦
          let same : keep ≡ exponent + 12 + length (whole ++ fraction) - (length fraction + 0) = omega (arith, n) in
          rw (exact (whole ++ fraction) (exponent + 12) (length fraction + 0) h, same) refl
      | inr high ↦
          let k = exponent + 12 + length (whole ++ fraction) - (length fraction + 0) in
          let a : take keep (whole ++ fraction) ≡ whole ++ fraction = take_all keep (whole ++ fraction) (omega (arith, n)) in
          let b : take (exponent + 12 + length (whole ++ fraction) - (length fraction + 0)) (whole ++ fraction) ≡ whole ++ fraction =
          take_all (exponent + 12 + length (whole ++ fraction) - (length fraction + 0)) (whole ++ fraction) (omega (arith, n)) in
          rw (exact (whole ++ fraction) (exponent + 12) (length fraction + 0) h, a, b)
          (many_zeros (V (whole ++ fraction)) (keep - length (whole ++ fraction)) (exponent + 12 + length (whole ++ fraction) - (length fraction + 0) - length (whole ++ fraction))
          (omega (arith, n)) (omega (arith, n)))
    ]

-- the units of a numeral, from the digits that are kept and zeros, at most the bound
pub units_cut : (p : Parts) (e keep : ℕ) → AllDigits 10 (p.whole ++ p.fraction) → e ≡ min (digits_value 10 p.exponent) most
    → length p.whole + length p.fraction < 2 ^ 64
    → keep ≡ (cond p.exponent_negative 0 e + 12) + length (p.whole ++ p.fraction) - (length p.fraction + cond p.exponent_negative e 0)
    → min (V (take keep (p.whole ++ p.fraction)) * 10 ^ (keep - length (p.whole ++ p.fraction))) most ≡ min (units p) most
units_cut p e keep h e_is short k_is = units_by p.exponent_negative p.whole p.fraction (digits_value 10 p.exponent) e keep h e_is short k_is

AllDigits-append : (xs ys : List ℕ) → AllDigits 10 xs → AllDigits 10 ys → AllDigits 10 (xs ++ ys)
AllDigits-append [] ys a b = b
AllDigits-append (x ∷ xs) ys a b = (a.0, AllDigits-append xs ys a.1 b)

pub AllDigits-take : (k : ℕ) (ds : List ℕ) → AllDigits 10 ds → AllDigits 10 (take k ds)
AllDigits-take zero ds h = tt
AllDigits-take (suc k) [] h = h
AllDigits-take (suc k) (d ∷ ds) h = (h.0, AllDigits-take k ds h.1)

pub AllDigits-run : (ds : List ℕ) → AllDigits 10 (take (prefix_len is_ascii_digit ds) ds)
AllDigits-run [] = tt
AllDigits-run (d ∷ ds) =
    elim (cases_Bool (is_ascii_digit d)) [
      | inl t ↦
          let n : prefix_len is_ascii_digit (d ∷ ds) ≡ suc (prefix_len is_ascii_digit ds) = rw t (omega arith) in
          let one : list_all is_ascii_digit (d ∷ []) ≡ true = rw t refl in
          rw n ((own.to (d ∷ []) one).0, AllDigits-run ds)
      | inr f ↦
          let n : prefix_len is_ascii_digit (d ∷ ds) ≡ 0 = rw f refl in
          rw n tt
    ]

min_twice : (n : ℕ) → min (min n most) most ≡ min n most
min_twice n = omega arith

pub assembled : (p : Parts) (e keep a b v1 v2 z res : ℕ) → AllDigits 10 p.whole → AllDigits 10 p.fraction → e ≡ min (digits_value_after 10 0 p.exponent) most
    → length p.whole + length p.fraction < 2 ^ 64
    → keep ≡ (cond p.exponent_negative 0 e + 12) + (length p.whole + length p.fraction) - (length p.fraction + cond p.exponent_negative e 0)
    → a ≡ min keep (length p.whole) → b ≡ min (keep - a) (length p.fraction)
    → v1 ≡ min (digits_value_after 10 0 (take a p.whole)) most → v2 ≡ min (digits_value_after 10 v1 (take b p.fraction)) most
    → z ≡ keep - (length p.whole + length p.fraction) → res ≡ min (v2 * 10 ^ z) most → res ≡ min (units p) most
assembled p e keep a b v1 v2 z res hw hf e_is short k_is a_is b_is v1_is v2_is z_is res_is =
    let n = length-append p.whole p.fraction in
    let first : min v1 most ≡ min (digits_value_after 10 0 (take a p.whole)) most = rw v1_is (min_twice (digits_value_after 10 0 (take a p.whole))) in
    let second : min v2 most ≡ min (V (take keep (p.whole ++ p.fraction))) most =
    rw v2_is (min_twice (digits_value_after 10 v1 (take b p.fraction))
    ∙ sat_after v1 (digits_value_after 10 0 (take a p.whole)) (take b p.fraction) first
    ∙ ap (λ (k : ℕ). min k most) (sym (after-append 0 (take a p.whole) (take b p.fraction)))
    ∙ ap (λ (ds : List ℕ). min (V ds) most) (two_parts p.whole p.fraction keep a b a_is b_is)) in
    let z_same : z ≡ keep - length (p.whole ++ p.fraction) = omega (arith, n) in
    let k_same : keep ≡ (cond p.exponent_negative 0 e + 12) + length (p.whole ++ p.fraction) - (length p.fraction + cond p.exponent_negative e 0) = k_is
    ∙ ap (λ (k : ℕ). cond p.exponent_negative 0 e + 12 + k - (length p.fraction + cond p.exponent_negative e 0)) (sym n) in
    res_is ∙ ap (λ (k : ℕ). min (v2 * 10 ^ k) most) z_same ∙ sat_zeros v2 (V (take keep (p.whole ++ p.fraction))) (keep - length (p.whole ++ p.fraction)) second
    ∙ units_cut p e keep (AllDigits-append p.whole p.fraction hw hf) e_is short k_same
