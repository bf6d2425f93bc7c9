-- What is legal can be written, and reads back.
use Rattle.std.specs.Prelude.{Some, ◌≡◌, ◌<◌, ◌^◌, List, All, map, decimal}
use Rattle.pb_rules.specs.Frames.{Line, derived, cover, Frame, Given, given_from}
use Rattle.proof_words.specs.Words.{op_text, op_of, numeral_number, IsWritable}

-- a line whose operations can be written, or whose numbers are below 2^63
abbrev pub IsWritableLine : Line → Type 0
IsWritableLine (derived ops) = All IsWritable ops
IsWritableLine (cover v) = All (λ n. n < 2 ^ 63) v

-- the words that are printed of a line's operations or numbers, read one by one, are these again
abbrev pub ReadsBack : Line → Type 0
ReadsBack (derived ops) = map op_of (map op_text ops) ≡ map Some ops
ReadsBack (cover v) = map numeral_number (map decimal v) ≡ map Some v

-- lines that are legal one after another can be written
abbrev pub LegalAreWritable : Type 0
LegalAreWritable = (f : Frame) (before after : Given) (ls : List Line) → given_from f before ls ≡ Some after → All IsWritableLine ls

-- a line that can be written reads back
abbrev pub WritableReadBack : Type 0
WritableReadBack = (l : Line) → IsWritableLine l → ReadsBack l
