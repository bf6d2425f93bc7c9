-- Proof lines worked out by hand: what each operation gives, which fault counts, and which ids follow.
use Rattle.std.specs.Prelude.{◌≡◌, ℕ, true, false, ◌^◌, None, Ok, Err, List, [], ◌∷◌, refl}
use Rattle.pb_rules.specs.declared.Term.{Term}
use Rattle.pb_rules.specs.declared.Op.TheVariants.{Id, Axiom, Add, Times, Divide, Saturate, Weaken}
use Rattle.pb_rules.specs.Literal.{Literal}
use Rattle.pb_rules.specs.Linear.{Linear}
use Rattle.pb_rules.specs.Clauses.{contradiction}
use Rattle.pb_rules.specs.Operations.{Context, unknown, zero_divisor, too_large, no_step, line_gives}
use Rattle.pb_rules.specs.Frames.{derived, cover, Frame, context_of, given_by, derived_by}

-- `k x` and `k ~x`
abbrev on : ℕ → ℕ → Term
on k x = record { coef = k; lit = record { var = x; yes = true } }

abbrev off : ℕ → ℕ → Term
off k x = record { coef = k; lit = record { var = x; yes = false } }

abbrev at_least : ℕ → List Term → Linear
at_least n ts = record { terms = ts; degree = n }

abbrev yes_of : ℕ → Literal
yes_of x = record { var = x; yes = true }

-- a task with three options has exactly one of them, and two more
abbrev base : List Linear
base =
    at_least 1 (on 1 0 ∷ on 1 1 ∷ on 1 2 ∷ []) ∷
    at_least 2 (off 1 0 ∷ off 1 1 ∷ off 1 2 ∷ []) ∷
    at_least 4 (on 2 0 ∷ off 5 3 ∷ []) ∷
    at_least (2 ^ 62) (on 1 0 ∷ []) ∷ []

abbrev now : Context
now = context_of (record { constraints = base; covers = 0 })

abbrev last_number : ℕ
last_number = 9223372036854775807

-- ---- rules

-- a given constraint stands under its id
id_gives : line_gives now (Id 1 ∷ []) ≡ Ok (at_least 1 (on 1 0 ∷ on 1 1 ∷ on 1 2 ∷ []))
id_gives = refl

axiom_gives : line_gives now (Axiom (yes_of 3) ∷ []) ≡ Ok (at_least 0 (on 1 3 ∷ []))
axiom_gives = refl

-- all cancels, and the degrees are just reached
sum_of_all : line_gives now (Id 1 ∷ Id 2 ∷ Add ∷ []) ≡ Ok (at_least 0 [])
sum_of_all = refl

-- the smaller coefficient cancels, on either side, and is taken from the degree
sum_cancels : line_gives now (Id 3 ∷ Axiom (yes_of 3) ∷ Add ∷ []) ≡ Ok (at_least 3 (on 2 0 ∷ off 4 3 ∷ []))
sum_cancels = refl

sum_cancels_first : line_gives now (Axiom (yes_of 3) ∷ Id 3 ∷ Add ∷ []) ≡ Ok (at_least 3 (on 2 0 ∷ off 4 3 ∷ []))
sum_cancels_first = refl

-- equal literals add up, and the degrees do
sum_adds : line_gives now (Id 1 ∷ Id 3 ∷ Add ∷ []) ≡ Ok (at_least 5 (on 3 0 ∷ on 1 1 ∷ on 1 2 ∷ off 5 3 ∷ []))
sum_adds = refl

-- a multiple has its degree multiplied too
multiple : line_gives now (Id 1 ∷ Times 3 ∷ []) ≡ Ok (at_least 3 (on 3 0 ∷ on 3 1 ∷ on 3 2 ∷ []))
multiple = refl

-- coefficients and degree are rounded up
quotient_of_one : line_gives now (Id 1 ∷ Divide 2 ∷ []) ≡ Ok (at_least 1 (on 1 0 ∷ on 1 1 ∷ on 1 2 ∷ []))
quotient_of_one = refl

quotient : line_gives now (Id 3 ∷ Divide 3 ∷ []) ≡ Ok (at_least 2 (on 1 0 ∷ off 2 3 ∷ []))
quotient = refl

-- coefficients are cut down to the degree, and what becomes 0 falls away
saturated : line_gives now (Id 3 ∷ Saturate ∷ []) ≡ Ok (at_least 4 (on 2 0 ∷ off 4 3 ∷ []))
saturated = refl

saturated_away : line_gives now (Axiom (yes_of 0) ∷ Saturate ∷ []) ≡ Ok (at_least 0 [])
saturated_away = refl

-- a term is taken out with its coefficient; another variable changes nothing
weakened : line_gives now (Id 3 ∷ Weaken 0 ∷ []) ≡ Ok (at_least 2 (off 5 3 ∷ []))
weakened = refl

weakened_below_zero : line_gives now (Id 3 ∷ Weaken 3 ∷ []) ≡ Ok (at_least 0 (on 2 0 ∷ []))
weakened_below_zero = refl

weakened_on_another : line_gives now (Id 1 ∷ Weaken 3 ∷ []) ≡ Ok (at_least 1 (on 1 0 ∷ on 1 1 ∷ on 1 2 ∷ []))
weakened_on_another = refl

-- ---- faults

unknown_id : line_gives now (Id 9 ∷ []) ≡ Err (unknown 9)
unknown_id = refl

no_id_zero : line_gives now (Id 0 ∷ []) ≡ Err (unknown 0)
no_id_zero = refl

unknown_variable : line_gives now (Axiom (yes_of 4) ∷ []) ≡ Err (unknown 4)
unknown_variable = refl

divided_by_zero : line_gives now (Id 1 ∷ Divide 0 ∷ []) ≡ Err zero_divisor
divided_by_zero = refl

multiplied_by_zero : line_gives now (Id 1 ∷ Times 0 ∷ []) ≡ Err no_step
multiplied_by_zero = refl

sum_too_large : line_gives now (Id 1 ∷ Times last_number ∷ []) ≡ Err (too_large 27670116110564327421)
sum_too_large = refl

-- where the degree is too large as well, the coefficient sum counts
sum_before_degree : line_gives now (Id 3 ∷ Times last_number ∷ []) ≡ Err (too_large 64563604257983430649)
sum_before_degree = refl

sum_just_too_large : line_gives now (Axiom (yes_of 0) ∷ Times last_number ∷ Axiom (yes_of 0) ∷ Add ∷ []) ≡ Err (too_large 9223372036854775808)
sum_just_too_large = refl

-- where only the degree is too large, it counts
degree_too_large : line_gives now (Id 4 ∷ Times 4 ∷ []) ≡ Err (too_large 18446744073709551616)
degree_too_large = refl

degree_of_sum_too_large : line_gives now (Id 4 ∷ Id 4 ∷ Add ∷ []) ≡ Err (too_large 9223372036854775808)
degree_of_sum_too_large = refl

just_small_enough : line_gives now (Axiom (yes_of 0) ∷ Times last_number ∷ []) ≡ Ok (at_least 0 (on 9223372036854775807 0 ∷ []))
just_small_enough = refl

-- no other stack than that of one constraint gives one
empty_line : line_gives now [] ≡ Err no_step
empty_line = refl

two_left : line_gives now (Id 1 ∷ Id 2 ∷ []) ≡ Err no_step
two_left = refl

-- ---- the order of faults

-- a number that no line may have, before an id or a variable that isn't there
number_first : line_gives now (Id 9223372036854775808 ∷ []) ≡ Err no_step
number_first = refl

number_of_variable_first : line_gives now (Weaken 9223372036854775808 ∷ []) ≡ Err no_step
number_of_variable_first = refl

number_of_axiom_first : line_gives now (Axiom (yes_of 9223372036854775808) ∷ []) ≡ Err no_step
number_of_axiom_first = refl

number_of_factor : line_gives now (Axiom (yes_of 0) ∷ Saturate ∷ Times 9223372036854775808 ∷ []) ≡ Err no_step
number_of_factor = refl

number_of_divisor : line_gives now (Id 1 ∷ Divide 9223372036854775808 ∷ []) ≡ Err no_step
number_of_divisor = refl

-- a divisor of 0 and a variable that isn't there, before a missing operand
divisor_first : line_gives now (Divide 0 ∷ []) ≡ Err zero_divisor
divisor_first = refl

variable_first : line_gives now (Weaken 99 ∷ []) ≡ Err (unknown 99)
variable_first = refl

operands_missing : line_gives now (Id 1 ∷ Add ∷ []) ≡ Err no_step
operands_missing = refl

-- the first word with a fault counts
first_word : line_gives now (Id 1 ∷ Divide 0 ∷ Id 9 ∷ []) ≡ Err zero_divisor
first_word = refl

first_word_before_rest : line_gives now (Id 1 ∷ Id 9 ∷ []) ≡ Err (unknown 9)
first_word_before_rest = refl

-- ---- lines over a frame

-- the block of a cover brings one more variable, in its first constraint; the other one is `0 >= 1`
abbrev small_frame : Frame
small_frame = record { base = base; block = λ b v. at_least 1 (on b 4 ∷ []) ∷ contradiction ∷ [] }

-- a derived line's constraint has the next id, and so have those of a block, which brings its variables
lines_give : derived_by small_frame (derived (Id 1 ∷ Divide 2 ∷ []) ∷ cover (7 ∷ []) ∷ derived (Id 5 ∷ Id 6 ∷ Add ∷ []) ∷ derived (Id 7 ∷ Weaken 4 ∷ []) ∷ [])
    ≡ at_least 1 (on 1 0 ∷ on 1 1 ∷ on 1 2 ∷ []) ∷ at_least 2 (on 1 0 ∷ on 1 1 ∷ on 1 2 ∷ on 1 4 ∷ []) ∷ contradiction ∷ []
lines_give = refl

-- before its cover a block's constraint isn't there, and neither is its variable
too_early : given_by small_frame (derived (Id 5 ∷ []) ∷ cover (7 ∷ []) ∷ []) ≡ None
too_early = refl

variable_too_early : given_by small_frame (derived (Axiom (yes_of 4) ∷ []) ∷ cover (7 ∷ []) ∷ []) ≡ None
variable_too_early = refl

-- a cover's numbers are below 2^63
cover_too_large : given_by small_frame (cover (0 ∷ 9223372036854775808 ∷ []) ∷ []) ≡ None
cover_too_large = refl
