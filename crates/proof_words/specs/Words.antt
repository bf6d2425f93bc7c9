-- The words of a derived line: how an operation is spelled, and which operation a word says.
use Rattle.std.specs.Prelude.{ℕ, ◌<◌, ◌^◌, ◌==◌, Bool, true, false, Option, Some, None, List, [], ◌∷◌, ◌++◌, if◌then◌else◌, codes, decimal, option_map, option_and_then}
use Rattle.std.specs.Result.{result_ok}
use Rattle.line_words.specs.Numbers.{plain_whole_of}
use Rattle.pb_rules.specs.declared.Op.{Op}
use Rattle.pb_rules.specs.declared.Op.TheVariants.{Id, Axiom, Add, Times, Divide, Saturate, Weaken}

-- the letters, each by its byte
abbrev pub plus : ℕ
plus = 43

abbrev pub letter_s : ℕ
letter_s = 115

abbrev pub letter_x : ℕ
letter_x = 120

abbrev pub tilde : ℕ
tilde = 126

abbrev pub star : ℕ
star = 42

abbrev pub slash : ℕ
slash = 47

abbrev pub letter_w : ℕ
letter_w = 119

-- the one spelling of an operation
abbrev pub op_text : Op → List ℕ
op_text (Id i) = decimal i
op_text (Axiom l) = if l.yes then codes "x" ++ decimal l.var else codes "~x" ++ decimal l.var
op_text Add = codes "+"
op_text (Times n) = codes "*" ++ decimal n
op_text (Divide n) = codes "/" ++ decimal n
op_text Saturate = codes "s"
op_text (Weaken x) = codes "w" ++ decimal x

-- an operation that a word can say: each number is below 2^63, and nothing is multiplied by 0
abbrev pub IsWritable : Op → Type 0
IsWritable (Id i) = i < 2 ^ 63
IsWritable (Axiom l) = l.var < 2 ^ 63
IsWritable Add = Unit {0}
IsWritable (Times n) = (0 < n) × (n < 2 ^ 63)
IsWritable (Divide n) = n < 2 ^ 63
IsWritable Saturate = Unit {0}
IsWritable (Weaken x) = x < 2 ^ 63

-- the number that a numeral writes: without a leading zero, and below 2^63
abbrev pub numeral_number : List ℕ → Option ℕ
numeral_number numeral = result_ok (plain_whole_of numeral)

-- the operation of a letter that stands alone
abbrev pub alone : Op → List ℕ → Option Op
alone op [] = Some op
alone op (b ∷ rest) = None

-- the axiom of a variable or of its opposite
abbrev pub axiom_on : Bool → ℕ → Op
axiom_on is_yes n = Axiom (record { var = n; yes = is_yes })

-- multiplication by a number of at least 1
abbrev pub times_of : ℕ → Option Op
times_of n = if n == 0 then None else Some (Times n)

-- what follows a letter at the front
abbrev pub after : ℕ → List ℕ → Option (List ℕ)
after letter [] = None
after letter (b ∷ rest) = if b == letter then Some rest else None

-- the axiom of a variable's opposite, by what follows `~`
abbrev pub opposite_said : List ℕ → Option Op
opposite_said rest = option_map (axiom_on false) (option_and_then numeral_number (after letter_x rest))

-- the operation that a word says, if it is one: a letter and what it wants after it, or a numeral
abbrev pub op_of : List ℕ → Option Op
op_of [] = None
op_of (b ∷ rest) =
    if b == plus then alone Add rest
    else if b == letter_s then alone Saturate rest
    else if b == letter_x then option_map (axiom_on true) (numeral_number rest)
    else if b == tilde then opposite_said rest
    else if b == star then option_and_then times_of (numeral_number rest)
    else if b == slash then option_map Divide (numeral_number rest)
    else if b == letter_w then option_map Weaken (numeral_number rest)
    else option_map Id (numeral_number (b ∷ rest))
