-- A front text: what each of its lines is refused for, and the front that they state. The lines within an entry are
-- those of an implementation text.
use Rattle.std.specs.Prelude.{ℕ, ◌+◌, List, [], ◌∷◌, ◌++◌, length, Bool, true, false, ◌||◌, not, ◌==◌, if◌then◌else◌, Option, Some, is_some, codes}
use Rattle.std.specs.List.{list_any}
use Rattle.std.specs.Str.{bytes_eq}
use Rattle.line_words.specs.Rules.{Words, Rules, Statement, Test}
use Rattle.line_words.specs.declared.refusals.Why.TheVariants.{BadByte, NoHeader, BadStatement, BadNumber, Unclosed, TooBig, NotInOrder}
use Rattle.line_words.specs.declared.refusals.Why.TheVariants as whys
use Rattle.spelled_lines.specs.Lines.{is_bad, lacks_lf, is_empty, body_of, words_of, spelled}
use Rattle.spec_model.specs.Spec.{SpecValue}
use Rattle.result_text.specs.Stating.{starts_with, misshapen, no_number, too_big, number_in}
use Rattle.result_text.specs.Statements.{Stated, nothing, with_line, words_tests}
use Rattle.result_text.specs.Answers.{EntryValue, entry_in}
use Rattle.result_text.specs.Fronts.{FrontValue, objectives_words}
use Rattle.result_text.specs.declared.places.Place.{Place}
use Rattle.result_text.specs.declared.places.Place.TheVariants.{Header, Objectives, Between, Inside, Closed}

-- What some lines state: where the next line stands, the entries that are done, what was stated within an entry, and
-- whether the front is said to be whole.
pub record FrontStated : Type 0 where
  pub place : Place
  pub entries : List EntryValue
  pub current : Stated
  pub complete : Bool

-- what no lines state
abbrev pub front_nothing : SpecValue → FrontStated
front_nothing s = record { place = Header; entries = []; current = nothing s; complete = false }

-- ---- what a line is tried by

-- a line without LF, or where a space stands at an end or beside another one
abbrev pub is_loose : List ℕ → Bool
is_loose piece = lacks_lf piece || list_any is_empty (words_of piece)

-- the first line is `front 1`
abbrev pub header_tests : List ℕ → List Test
header_tests piece = (NoHeader, not (bytes_eq (body_of piece) (codes "front 1"))) ∷ (BadStatement, lacks_lf piece) ∷ []

-- the second is `objectives` and the names of the objectives in order
abbrev pub objectives_tests : SpecValue → List ℕ → List Test
objectives_tests s piece =
    (BadStatement, is_loose piece || not (starts_with (codes "objectives") (words_of piece)))
    ∷ (whys.UnknownName, not (bytes_eq piece (spelled (objectives_words s))))
    ∷ []

-- the word after `entry` is the number of the next entry
abbrev pub number_tests : ℕ → List ℕ → List Test
number_tests next word = (BadNumber, no_number word) ∷ (TooBig, too_big word) ∷ (NotInOrder, not (number_in word == next)) ∷ []

-- the last line is `complete` or `open`
abbrev pub last_tests : List ℕ → List Test
last_tests word = (BadStatement, not (bytes_eq word (codes "complete") || bytes_eq word (codes "open"))) ∷ []

-- `entry` and a number, or the last line
abbrev pub between_tests : ℕ → Words → List Test
between_tests next [] = misshapen
between_tests next (k ∷ []) = last_tests k
between_tests next (k ∷ w ∷ []) = if bytes_eq k (codes "entry") then number_tests next w else misshapen
between_tests next (k ∷ w ∷ x ∷ more) = misshapen

-- the number of the entry that comes next
abbrev pub next_number : FrontStated → ℕ
next_number stated = length stated.entries + 1

-- by the place of the line
abbrev pub tests_in : SpecValue → FrontStated → List ℕ → Place → List Test
tests_in s stated piece Header = header_tests piece
tests_in s stated piece Objectives = objectives_tests s piece
tests_in s stated piece Between = (BadStatement, is_loose piece) ∷ between_tests (next_number stated) (words_of piece)
tests_in s stated piece Inside = (BadStatement, lacks_lf piece) ∷ words_tests s stated.current (words_of piece)
tests_in s stated piece Closed = misshapen

-- what a line is tried by alone
abbrev pub byte_tests : List ℕ → List Test
byte_tests piece = (BadByte, list_any is_bad piece) ∷ []

-- ---- what a line states

-- an entry is done once its vector is read
abbrev pub after_words : SpecValue → FrontStated → Stated → FrontStated
after_words s stated now =
    if is_some now.vector
    then record { place = Between; entries = stated.entries ++ entry_in now ∷ []; current = nothing s; complete = stated.complete }
    else record stated { current = now }

-- the next line stands elsewhere
abbrev pub at_place : Place → FrontStated → FrontStated
at_place place stated = record stated { place = place }

-- an entry begins, or the front ends
abbrev pub after_between : FrontStated → Words → FrontStated
after_between stated ws =
    if starts_with (codes "entry") ws
    then at_place Inside stated
    else record stated { place = Closed; complete = starts_with (codes "complete") ws }

-- by the place of the line
abbrev pub next_in : SpecValue → FrontStated → Words → Place → FrontStated
next_in s stated ws Header = at_place Objectives stated
next_in s stated ws Objectives = at_place Between stated
next_in s stated ws Between = after_between stated ws
next_in s stated ws Inside = after_words s stated (with_line s stated.current ws)
next_in s stated ws Closed = stated

-- the same once a line more is read
abbrev pub front_with_line : SpecValue → FrontStated → List ℕ → FrontStated
front_with_line s stated piece = next_in s stated (words_of piece) stated.place

-- ---- the rules

-- A line states itself, with its LF: of the first line a missing LF counts only after the header's words.
abbrev pub itself : List ℕ → Option Words
itself piece = Some (piece ∷ [])

-- the line that was stated
abbrev pub line_in : Words → List ℕ
line_in [] = []
line_in (piece ∷ more) = piece

-- what some lines more state
abbrev pub front_with_lines : SpecValue → FrontStated → List Statement → FrontStated
front_with_lines s stated [] = stated
front_with_lines s stated (line ∷ more) = front_with_lines s (front_with_line s stated (line_in line.words)) more

-- what is tried of a line after what others state
abbrev pub front_tests : SpecValue → FrontStated → List ℕ → List Test
front_tests s stated piece = tests_in s stated piece stated.place

abbrev pub front_statement_tests : SpecValue → List Statement → Words → List Test
front_statement_tests s before ws = front_tests s (front_with_lines s (front_nothing s) before) (line_in ws)

abbrev pub is_header : Place → Bool
is_header Header = true
is_header Objectives = false
is_header Between = false
is_header Inside = false
is_header Closed = false

abbrev pub is_closed : Place → Bool
is_closed Header = false
is_closed Objectives = false
is_closed Between = false
is_closed Inside = false
is_closed Closed = true

-- a text has a header, and ends with `complete` or `open`
abbrev pub end_tests_in : Place → List Test
end_tests_in place = (NoHeader, is_header place) ∷ (Unclosed, not (is_closed place)) ∷ []

abbrev pub front_end_tests : SpecValue → List Statement → List Test
front_end_tests s before = end_tests_in (front_with_lines s (front_nothing s) before).place

-- the rules of a front text
abbrev pub front_rules : SpecValue → Rules
front_rules s = record { line = byte_tests; stated = itself; statement = front_statement_tests s; end = front_end_tests s }

-- the front that all lines of a text state
abbrev pub front_in : SpecValue → List Statement → FrontValue
front_in s lines = record { entries = (front_with_lines s (front_nothing s) lines).entries; complete = (front_with_lines s (front_nothing s) lines).complete }
