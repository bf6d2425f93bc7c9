-- Reading from left to right, which the proofs compare with the least refusal.
use Rattle.std.specs.Prelude.{ℕ, ◌+◌, List, [], ◌∷◌, ◌++◌, Option, Some, None, Result, Ok, Err}
use Rattle.line_words.specs.Rules.{Rules, Statement, first_broken, tests_after, at_number}
use Rattle.line_words.specs.declared.refusals.Why.{Why}
use Rattle.line_words.specs.declared.refusals.Refusal1.{Refusal1}

-- the statements of a file, or its refusal
abbrev pub Reading : Type 0
Reading = Result (List Statement) Refusal1

-- the refusal at a line, or what comes further on
abbrev pub unless_broken : ℕ → Option Why → Reading → Reading
unless_broken number None more = more
unless_broken number (Some why) more = Err (record { line = number; why = why })

-- what the lines from a number on give, after some statements
unfoldable pub run : Rules → ℕ → List Statement → List (List ℕ) → Reading
run rules number before [] = unless_broken number (first_broken (rules.end before)) (Ok before)
run rules number before (l ∷ ls) = unless_broken number (first_broken (tests_after rules before l)) (run rules (number + 1) (before ++ at_number number (rules.stated l)) ls)
