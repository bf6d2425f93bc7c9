-- The lines of a proof file, and what is said of them. A line's operations or numbers have one text, so that what a log's lines are worth is what those of the file are worth that it becomes.
use Rattle.std.specs.Prelude.{◌≡◌, ◌↔◌, ℕ, Bool, ◌||◌, if◌then◌else◌, List, [], ◌∷◌, ◌++◌, All, Option, Some, None, option_map, codes}
use Rattle.std.specs.List.{list_any}
use Rattle.std.specs.Str.{bytes_eq}
use Rattle.line_words.specs.Rules.{Words}
use Rattle.spelled_lines.specs.Lines.{pieces, lacks_lf, words_of, is_empty}
use Rattle.pb_rules.specs.Literal.{Literal}
use Rattle.pb_rules.specs.Frames.{Line, derived, cover, Frame, Given, given_by, derived_by}
use Rattle.pb_rules.specs.Order.{ShowsFirst}
use Rattle.proof_words.specs.Words.{op_of, numeral_number}
use Rattle.proof_words.specs.Legal.{IsWritableLine}
use Rattle.proof_log.specs.HonestLog.{IsHonestLog}
use Rattle.proof_log.specs.Text.{header, proof_text}

-- something in front of more
abbrev pub onto_said : {X : Type 0} → X → Option (List X) → Option (List X)
onto_said x None = None
onto_said x (Some xs) = Some (x ∷ xs)

abbrev pub with_said : {X : Type 0} → Option X → Option (List X) → Option (List X)
with_said None xs = None
with_said (Some x) xs = onto_said x xs

-- what texts say one by one, where each says something
abbrev pub each_said : {X : Type 0} → (List ℕ → Option X) → List (List ℕ) → Option (List X)
each_said read [] = Some []
each_said read (w ∷ ws) = with_said (read w) (each_said read ws)

-- a line lacks its LF, or has another space than single ones between its words
abbrev pub is_misshapen : List ℕ → Bool
is_misshapen piece = lacks_lf piece || list_any is_empty (words_of piece)

-- the line that words say
abbrev pub line_said : Words → Option Line
line_said [] = None
line_said (k ∷ ws) =
    if bytes_eq k (codes "p") then option_map derived (each_said op_of ws)
    else (if bytes_eq k (codes "c") then option_map cover (each_said numeral_number ws)
    else None)

-- the line of a piece of a text
abbrev pub line_in : List ℕ → Option Line
line_in piece = if is_misshapen piece then None else line_said (words_of piece)

-- what follows the first line
abbrev pub after_header : List (List ℕ) → Option (List Line)
after_header [] = None
after_header (piece ∷ more) = if bytes_eq piece header then each_said line_in more else None

-- the lines of a file, where its first line is right and each further one says a line
abbrev pub lines_in : List ℕ → Option (List Line)
lines_in text = after_header (pieces text)

-- something holds of the lines of a file
pub record OfFile (P : List Line → Type 0) (text : List ℕ) : Type 0 where
  pub lines : List Line
  pub read : lines_in text ≡ Some lines
  pub holds : P lines

-- lines are legal one after another
abbrev pub AreLegal : Frame → List Line → Type 0
AreLegal f ls = (g : Given) × (given_by f ls ≡ Some g)

-- a file is honest: its lines are legal, and each clause that they derive says something new
abbrev pub IsHonestFile : Frame → List ℕ → Type 0
IsHonestFile f text = OfFile (IsHonestLog f) text

-- the base and what the derived lines give show that an assignment is the first
abbrev pub LinesShow : Frame → List Literal → (ℕ → Bool) → List Line → Type 0
LinesShow f order v ls = ShowsFirst (f.base ++ derived_by f ls) order v

-- a file shows that an assignment is the first
abbrev pub FileShows : Frame → List Literal → (ℕ → Bool) → List ℕ → Type 0
FileShows f order v text = OfFile (LinesShow f order v) text

-- ---- laws

-- a text has these lines exactly where it is the one text of them, and they can be written
pub record IsWritten (ls : List Line) (text : List ℕ) : Type 0 where
  pub is : text ≡ proof_text ls
  pub writable : All IsWritableLine ls

abbrev pub ReadExactly : Type 0
ReadExactly = (ls : List Line) (text : List ℕ) → (lines_in text ≡ Some ls) ↔ IsWritten ls text

-- so legal lines are those of the file that they become,
abbrev pub LegalReadBack : Type 0
LegalReadBack = (f : Frame) (g : Given) (ls : List Line) → given_by f ls ≡ Some g → lines_in (proof_text ls) ≡ Some ls

-- which is honest where they are,
abbrev pub HonestCarries : Type 0
HonestCarries = (f : Frame) (ls : List Line) → IsHonestLog f ls → IsHonestFile f (proof_text ls)

-- and shows what they show
abbrev pub ShownCarries : Type 0
ShownCarries = (f : Frame) (g : Given) (ls : List Line) (order : List Literal) (v : ℕ → Bool) → given_by f ls ≡ Some g → LinesShow f order v ls → FileShows f order v (proof_text ls)
