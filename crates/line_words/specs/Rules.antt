-- What a file is refused for: the lowest line at which a rule is broken, and of the rules broken there the lowest.
use Rattle.std.specs.Prelude.{◌≡◌, ℕ, ◌+◌, ◌<◌, ◌≤◌, ◌⊎◌, List, [], ◌∷◌, ◌++◌, length, take, map, Bool, true, nat_lt, slice_index_or, if◌then◌else◌, Option, Some, None}
use Rattle.std.specs.List.{list_any}
use Rattle.std.specs.Borrow.{Bor}
use Rattle.line_words.specs.Text.{Piece, words, content, is_bad}
use Rattle.line_words.specs.Limits.{most_line_bytes}
use Rattle.line_words.specs.Refused.{rank}
use Rattle.line_words.specs.declared.refusals.Why.{Why}
use Rattle.line_words.specs.declared.refusals.Why.TheVariants.{BadByte, LongLine}

-- a rule that is tried: what it refuses for, and whether it is broken
abbrev pub Test : Type 0
Test = Why × Bool

-- one of the rules is broken and refuses for this
abbrev pub BreaksTests : List Test → Why → Type 0
BreaksTests [] why = ⊥
BreaksTests (t ∷ ts) why = ((t.0 ≡ why) × (t.1 ≡ true)) ⊎ BreaksTests ts why

-- the first rule that is broken
abbrev pub first_broken : List Test → Option Why
first_broken [] = None
first_broken (t ∷ ts) = if t.1 then Some t.0 else first_broken ts

-- rules in the order of what they refuse for, none before `low`
abbrev pub IsRanked : ℕ → List Test → Type 0
IsRanked low [] = Unit {0}
IsRanked low (t ∷ ts) = (low ≤ rank t.0) × IsRanked (rank t.0) ts

-- the words of a statement
abbrev pub Words : Type 0
Words = List (List ℕ)

-- a statement, and the number of its line
pub record Statement : Type 0 where
  pub number : ℕ
  pub words : Words

-- A kind of file: the rules that a line is tried by alone, the words that a line states, if any, the rules
-- that a statement is tried by after the statements before it, and those that the end is tried by after them all.
pub record Rules : Type 0 where
  pub line : List ℕ → List Test
  pub stated : List ℕ → Option Words
  pub statement : List Statement → Words → List Test
  pub end : List Statement → List Test

-- the statement of a line, if any
abbrev pub at_number : ℕ → Option Words → List Statement
at_number number None = []
at_number number (Some ws) = record { number = number; words = ws } ∷ []

-- the statements of lines, the first of which has this number
abbrev pub statements_from : Rules → ℕ → List (List ℕ) → List Statement
statements_from rules number [] = []
statements_from rules number (l ∷ ls) = at_number number (rules.stated l) ++ statements_from rules (number + 1) ls

-- the statements of a file's lines
abbrev pub statements : Rules → List (List ℕ) → List Statement
statements rules lines = statements_from rules 1 lines

-- the rules that a statement is tried by, if there is one
abbrev pub statement_tests : Rules → List Statement → Option Words → List Test
statement_tests rules before None = []
statement_tests rules before (Some ws) = rules.statement before ws

-- the rules that a line is tried by after some statements
abbrev pub tests_after : Rules → List Statement → List ℕ → List Test
tests_after rules before line = rules.line line ++ statement_tests rules before (rules.stated line)

-- the rules that the line at a place, from 0, is tried by
abbrev pub tests_at : Rules → List (List ℕ) → ℕ → List Test
tests_at rules lines place = tests_after rules (statements rules (take place lines)) (slice_index_or lines place [])

-- a rule is broken at a line of the file
pub record BreaksLine (rules : Rules) (lines : List (List ℕ)) (number : ℕ) (why : Why) : Type 0 where
  pub place : ℕ
  pub number_is : number ≡ place + 1
  pub within : place < length lines
  pub broken : BreaksTests (tests_at rules lines place) why

-- a rule is broken at the end line, past the last line
pub record BreaksEnd (rules : Rules) (lines : List (List ℕ)) (number : ℕ) (why : Why) : Type 0 where
  pub number_is : number ≡ length lines + 1
  pub broken : BreaksTests (rules.end (statements rules lines)) why

-- a rule is broken at the line with this number
abbrev pub Holds : Rules → List (List ℕ) → ℕ → Why → Type 0
Holds rules lines number why = BreaksLine rules lines number why ⊎ BreaksEnd rules lines number why

-- the refusal with the lowest line, and there the lowest of all
pub record IsLeast (rules : Rules) (lines : List (List ℕ)) (number : ℕ) (why : Why) : Type 0 where
  pub holds : Holds rules lines number why
  pub least : (m : ℕ) (v : Why) → Holds rules lines m v → (number < m) ⊎ ((number ≡ m) × (rank why ≤ rank v))

-- no rule is broken anywhere
abbrev pub HasNoFault : Rules → List (List ℕ) → Type 0
HasNoFault rules lines = (m : ℕ) (v : Why) → Holds rules lines m v → ⊥

-- The rules stand in their order at each line and at the end, so that the first broken one is the lowest.
pub record AreInOrder (rules : Rules) : Type 0 where
  pub at_lines : (before : List Statement) (line : List ℕ) → IsRanked 0 (tests_after rules before line)
  pub at_end : (before : List Statement) → IsRanked 0 (rules.end before)

-- ---- files that may have comments

-- a byte outside the comment that may not stand there
abbrev pub has_bad_byte : List ℕ → Bool
has_bad_byte line = list_any is_bad (content line)

-- a line with too many bytes before its LF
abbrev pub is_long : List ℕ → Bool
is_long line = nat_lt most_line_bytes (length line)

-- what a line is tried by alone
abbrev pub line_tests : List ℕ → List Test
line_tests line = (BadByte, has_bad_byte line) ∷ (LongLine, is_long line) ∷ []

-- what a line alone is refused for
abbrev pub line_fault : List ℕ → Option Why
line_fault line = first_broken (line_tests line)

-- the texts of words
abbrev pub texts : List Piece → Words
texts ws = map (λ w. w.text) ws

-- what texts lent from a source say
abbrev pub said : List (Bor (List ℕ)) → Words
said ws = map (λ w. w.now) ws

-- a statement has a word
abbrev pub some_words : Words → Option Words
some_words [] = None
some_words (w ∷ ws) = Some (w ∷ ws)

-- the words of a line, where it has one
abbrev pub stated_words : List ℕ → Option Words
stated_words line = some_words (texts (words line))

-- the rules of a file that may have comments, from those of its statements and of its end
abbrev pub text_rules : (List Statement → Words → List Test) → (List Statement → List Test) → Rules
text_rules statement end = record { line = line_tests; stated = stated_words; statement = statement; end = end }

-- ---- files that begin with a header

-- the statements after the header
abbrev pub without_header : List Statement → List Statement
without_header [] = []
without_header (header ∷ more) = more
