-- One spelling of each operation: what is printed reads back, and nothing else reads so.
use Rattle.std.proofs.Common.{◌≡◌, ℕ, ◌<◌, ◌^◌, Bool, true, false, List, [], ◌∷◌, Option, Some, None, Result, Ok, Err, refl, sym, ap, ◌∙◌, subst, arith, inl, inr}
use Rattle.std.specs.Prelude.{◌==◌, decimal, option_map, option_and_then}
use Rattle.std.specs.Result.{result_ok}
use Rattle.std.specs.List.{list_all}
use Rattle.std.specs.Char.{is_ascii_digit}
use Rattle.std.proofs.lemmas.Bool.{cases_Bool, eqb-true, ne_eqb, and_parts}
use Rattle.std.proofs.lemmas.Bool.Decides.{nat_tests}
use Rattle.std.proofs.lemmas.Fmt.{digits_decimal}
use Rattle.line_words.specs.Numbers.{plain_whole_of}
use Rattle.line_words.specs.declared.numbers.NumberFault.{NumberFault}
use Rattle.line_words.proofs.Digits.{own}
use Rattle.line_words.proofs.Plain.{plain_whole_of-decimal, decimal_when_read}
use Rattle.pb_rules.specs.declared.Op.{Op}
use Rattle.pb_rules.specs.declared.Op.TheVariants.{Id, Axiom, Add, Times, Divide, Saturate, Weaken}
use Rattle.proof_words.specs.Words.{op_text, op_of, IsWritable, numeral_number, alone, axiom_on, times_of, after, opposite_said}
use Rattle.proof_words.proofs.Marks.{HasNoMark, op_of-numeral, after_some}

-- ---- printed, and read

-- a decimal number is read as the number
pub numeral_number-decimal : (n : ℕ) → n < 2 ^ 63 → numeral_number (decimal n) ≡ Some n
numeral_number-decimal n lt = ap result_ok (plain_whole_of-decimal n lt)

-- a letter that is no digit does not stand before digits
digits_unmarked : (letter : ℕ) (word : List ℕ) → is_ascii_digit letter ≡ false → list_all is_ascii_digit word ≡ true → after letter word ≡ None
digits_unmarked letter [] other all = refl
digits_unmarked letter (b ∷ more) other all =
    elim (cases_Bool (b == letter)) [
      | inl t ↦
          let digit = (and_parts (is_ascii_digit b) (list_all is_ascii_digit more) all).0 in
          let here : is_ascii_digit letter ≡ true = subst (λ (c : ℕ). is_ascii_digit c ≡ true) (eqb-true b letter t) digit in
          absurd (let d : true ≡ false = sym here ∙ other in cc)
      | inr f ↦ rw f refl
    ]

decimal_unmarked : (n : ℕ) → n < 2 ^ 63 → HasNoMark (decimal n)
decimal_unmarked n lt =
    let all : list_all is_ascii_digit (decimal n) ≡ true = digits_decimal own n (omega (arith, lt)) in
    record {
      plus = digits_unmarked 43 (decimal n) refl all;
      saturate = digits_unmarked 115 (decimal n) refl all;
      variable = digits_unmarked 120 (decimal n) refl all;
      opposite = digits_unmarked 126 (decimal n) refl all;
      times = digits_unmarked 42 (decimal n) refl all;
      divide = digits_unmarked 47 (decimal n) refl all;
      weaken = digits_unmarked 119 (decimal n) refl all;
    }

axiom_back : (n : ℕ) (is_yes : Bool) → n < 2 ^ 63 → op_of (op_text (axiom_on is_yes n)) ≡ Some (axiom_on is_yes n)
axiom_back n true lt = rw (numeral_number-decimal n lt) refl
axiom_back n false lt = rw (numeral_number-decimal n lt) refl

positive : (n : ℕ) → 0 < n → (n == 0) ≡ false
positive n lt = ne_eqb n 0 (λ e. omega (arith, lt, e))

-- an operation's text is read as the operation
pub read_back : (op : Op) → IsWritable op → op_of (op_text op) ≡ Some op
read_back (Id i) h = op_of-numeral (decimal i) (decimal_unmarked i h) ∙ ap (option_map Id) (numeral_number-decimal i h)
read_back (Axiom l) h = axiom_back l.var l.yes h
read_back Add h = refl
read_back (Times n) h = ap (option_and_then times_of) (numeral_number-decimal n h.1) ∙ rw (positive n h.0) refl
read_back (Divide n) h = ap (option_map Divide) (numeral_number-decimal n h)
read_back Saturate h = refl
read_back (Weaken x) h = ap (option_map Weaken) (numeral_number-decimal x h)

-- ---- read, and printed

abbrev some : Op → Option Op
some op = Some op

abbrev none : Option Op
none = None

op_is : (x y : Op) → some x ≡ some y → x ≡ y
op_is x y e = cc

abbrev some_number : ℕ → Option ℕ
some_number n = Some n

abbrev no_number : Option ℕ
no_number = None

-- a word is the one spelling of an operation, which can be written
pub record Says (word : List ℕ) (op : Op) : Type 0 where
  pub spelling : op_text op ≡ word
  pub writable : IsWritable op

-- a numeral is the decimal text of its number
record IsNumeral (numeral : List ℕ) (n : ℕ) : Type 0 where
  text : decimal n ≡ numeral
  small : n < 2 ^ 63

numeral_is : (numeral : List ℕ) (n : ℕ) → numeral_number numeral ≡ Some n → IsNumeral numeral n
numeral_is numeral n e = of_result (plain_whole_of numeral) refl e
  where
    of_result : (r : Result ℕ NumberFault) → plain_whole_of numeral ≡ r → result_ok r ≡ Some n → IsNumeral numeral n
    of_result (Ok m) is found =
        let same : m ≡ n = (let f : some_number m ≡ some_number n = found in cc) in
        let parts = decimal_when_read numeral m is in
        record { text = ap decimal (sym same) ∙ sym parts.0; small = omega (arith, parts.1, same) }
    of_result (Err fault) is found = absurd (let f : no_number ≡ some_number n = found in cc)

-- an operation with a number: what the numeral gives, with the marks before it
says_numbered : (make : ℕ → Op) (word numeral : List ℕ) (op : Op) → ((n : ℕ) → IsNumeral numeral n → Says word (make n)) → option_map make (numeral_number numeral) ≡ Some op → Says word op
says_numbered make word numeral op each e = of_option (numeral_number numeral) refl e
  where
    of_option : (o : Option ℕ) → numeral_number numeral ≡ o → option_map make o ≡ Some op → Says word op
    of_option None is found = absurd (let f : none ≡ some op = found in cc)
    of_option (Some n) is found = subst (Says word) (op_is (make n) op found) (each n (numeral_is numeral n is))

says_alone : (letter : ℕ) (made : Op) (rest : List ℕ) (op : Op) → Says (letter ∷ []) made → alone made rest ≡ Some op → Says (letter ∷ rest) op
says_alone letter made [] op here e = subst (Says (letter ∷ [])) (op_is made op e) here
says_alone letter made (b ∷ rest) op here e = absurd (let f : none ≡ some op = e in cc)

says_variable : (rest : List ℕ) (op : Op) → option_map (axiom_on true) (numeral_number rest) ≡ Some op → Says (120 ∷ rest) op
says_variable rest op e = says_numbered (axiom_on true) (120 ∷ rest) rest op (λ n i. record { spelling = ap (λ (t : List ℕ). 120 ∷ t) i.text; writable = i.small }) e

says_opposite : (rest : List ℕ) (op : Op) → opposite_said rest ≡ Some op → Says (126 ∷ rest) op
says_opposite rest op e = of_option (after 120 rest) refl e
  where
    of_option : (o : Option (List ℕ)) → after 120 rest ≡ o → option_map (axiom_on false) (option_and_then numeral_number o) ≡ Some op → Says (126 ∷ rest) op
    of_option None is found = absurd (let f : none ≡ some op = found in cc)
    of_option (Some numeral) is found =
        let front : rest ≡ 120 ∷ numeral = after_some 120 rest numeral is in
        let spelled : Says (126 ∷ 120 ∷ numeral) op =
        says_numbered (axiom_on false) (126 ∷ 120 ∷ numeral) numeral op (λ n i. record { spelling = ap (λ (t : List ℕ). 126 ∷ 120 ∷ t) i.text; writable = i.small }) found in
        subst (λ (t : List ℕ). Says (126 ∷ t) op) (sym front) spelled

says_times : (rest : List ℕ) (op : Op) → option_and_then times_of (numeral_number rest) ≡ Some op → Says (42 ∷ rest) op
says_times rest op e = of_option (numeral_number rest) refl e
  where
    of_number : (n : ℕ) → IsNumeral rest n → times_of n ≡ Some op → Says (42 ∷ rest) op
    of_number n i found =
        elim (cases_Bool (n == 0)) [
          | inl t ↦ absurd (let c : times_of n ≡ none = rw t refl in let f : none ≡ some op = sym c ∙ found in cc)
          | inr f ↦
              let c : times_of n ≡ some (Times n) = rw f refl in
              let some_n : 0 < n = above n f in
              let here : Says (42 ∷ rest) (Times n) = record { spelling = ap (λ (t : List ℕ). 42 ∷ t) i.text; writable = (some_n, i.small) } in
              subst (Says (42 ∷ rest)) (op_is (Times n) op (sym c ∙ found)) here
        ]
      where
        above : (n : ℕ) → (n == 0) ≡ false → 0 < n
        above n f = grind (arith, nat_tests, f)

    of_option : (o : Option ℕ) → numeral_number rest ≡ o → option_and_then times_of o ≡ Some op → Says (42 ∷ rest) op
    of_option None is found = absurd (let f : none ≡ some op = found in cc)
    of_option (Some n) is found = of_number n (numeral_is rest n is) found

says_divide : (rest : List ℕ) (op : Op) → option_map Divide (numeral_number rest) ≡ Some op → Says (47 ∷ rest) op
says_divide rest op e = says_numbered Divide (47 ∷ rest) rest op (λ n i. record { spelling = ap (λ (t : List ℕ). 47 ∷ t) i.text; writable = i.small }) e

says_weaken : (rest : List ℕ) (op : Op) → option_map Weaken (numeral_number rest) ≡ Some op → Says (119 ∷ rest) op
says_weaken rest op e = says_numbered Weaken (119 ∷ rest) rest op (λ n i. record { spelling = ap (λ (t : List ℕ). 119 ∷ t) i.text; writable = i.small }) e

says_id : (word : List ℕ) (op : Op) → option_map Id (numeral_number word) ≡ Some op → Says word op
says_id word op e = says_numbered Id word word op (λ n i. record { spelling = i.text; writable = i.small }) e

-- what a word with a letter in front says, whatever stands for the letter
at_letter : (letter b : ℕ) (rest : List ℕ) (op : Op) → (op_of (letter ∷ rest) ≡ Some op → Says (letter ∷ rest) op) → (b == letter) ≡ true → op_of (b ∷ rest) ≡ Some op → Says (b ∷ rest) op
at_letter letter b rest op here t e =
    let same = eqb-true b letter t in
    subst (λ (c : ℕ). Says (c ∷ rest) op) (sym same) (here (subst (λ (c : ℕ). op_of (c ∷ rest) ≡ Some op) same e))

-- a word that is read as an operation says it
pub says : (word : List ℕ) (op : Op) → op_of word ≡ Some op → Says word op
says [] op e = absurd (let f : none ≡ some op = e in cc)
says (b ∷ rest) op e =
    elim (cases_Bool (b == 43)) [
      | inl t ↦ at_letter 43 b rest op (says_alone 43 Add rest op (record { spelling = refl; writable = tt })) t e
      | inr plus ↦ elim (cases_Bool (b == 115)) [
        | inl t ↦ at_letter 115 b rest op (says_alone 115 Saturate rest op (record { spelling = refl; writable = tt })) t e
        | inr saturate ↦ elim (cases_Bool (b == 120)) [
          | inl t ↦ at_letter 120 b rest op (says_variable rest op) t e
          | inr variable ↦ elim (cases_Bool (b == 126)) [
            | inl t ↦ at_letter 126 b rest op (says_opposite rest op) t e
            | inr opposite ↦ elim (cases_Bool (b == 42)) [
              | inl t ↦ at_letter 42 b rest op (says_times rest op) t e
              | inr times ↦ elim (cases_Bool (b == 47)) [
                | inl t ↦ at_letter 47 b rest op (says_divide rest op) t e
                | inr divide ↦ elim (cases_Bool (b == 119)) [
                  | inl t ↦ at_letter 119 b rest op (says_weaken rest op) t e
                  | inr weaken ↦
                      let numeral : op_of (b ∷ rest) ≡ option_map Id (numeral_number (b ∷ rest)) = rw (plus, saturate, variable, opposite, times, divide, weaken) refl in
                      says_id (b ∷ rest) op (sym numeral ∙ e)
                ]
              ]
            ]
          ]
        ]
      ]
    ]
