-- A front, and how it is written: a header, the objectives, each entry under its number from 1, and whether it is whole.
use Rattle.std.specs.Prelude.{◌≡◌, ◌<◌, ◌^◌, ℕ, ◌+◌, List, [], ◌∷◌, ◌++◌, length, Bool, if◌then◌else◌, codes, decimal, All}
use Rattle.line_words.specs.Rules.{Words}
use Rattle.spelled_lines.specs.Lines.{spelled}
use Rattle.spec_model.specs.Spec.{SpecValue, bits_of, design_variables}
use Rattle.result_text.specs.Spelling.{implementation_text}
use Rattle.result_text.specs.Answers.{EntryValue}
use Rattle.result_text.specs.declared.fronts.Front.{Front}

-- entries in order, and whether they are said to be all of the front
pub record FrontValue : Type 0 where
  pub entries : List EntryValue
  pub complete : Bool

-- a front as it is seen
abbrev pub front_of : Front → FrontValue
front_of front = record { entries = front.entries; complete = front.complete }

-- the words of a front's first line
abbrev pub header_words : Words
header_words = codes "front" ∷ codes "1" ∷ []

-- the words of the line of the objectives, which has their names in order
abbrev pub objectives_words : SpecValue → Words
objectives_words s = codes "objectives" ∷ s.objectives

-- the words of the line above the entry with this number
abbrev pub entry_words : ℕ → Words
entry_words i = codes "entry" ∷ decimal i ∷ []

-- the word of the last line
abbrev pub end_words : Bool → Words
end_words complete = (if complete then codes "complete" else codes "open") ∷ []

-- an entry under its number
abbrev pub entry_text : SpecValue → ℕ → EntryValue → List ℕ
entry_text s i e = spelled (entry_words i) ++ implementation_text s (bits_of e.design) e.vector

-- entries, the first of which has this number
abbrev pub entries_text : SpecValue → ℕ → List EntryValue → List ℕ
entries_text s i [] = []
entries_text s i (e ∷ es) = entry_text s i e ++ entries_text s (i + 1) es

-- the text of a front
abbrev pub front_text : SpecValue → FrontValue → List ℕ
front_text s front = spelled header_words ++ spelled (objectives_words s) ++ entries_text s 1 front.entries ++ spelled (end_words front.complete)

-- an entry of the specification: a bit for each design variable, and a number below 2 ^ 63 for each objective
pub record IsShaped (s : SpecValue) (e : EntryValue) : Type 0 where
  pub bits : length e.design ≡ design_variables s
  pub one_each : length e.vector ≡ length s.objectives
  pub small : All (λ n. n < 2 ^ 63) e.vector

-- the bytes are the text of a front whose entries are of the specification
pub record IsFrontText (s : SpecValue) (bytes : List ℕ) (front : FrontValue) : Type 0 where
  pub entries : All (IsShaped s) front.entries
  pub text : bytes ≡ front_text s front
