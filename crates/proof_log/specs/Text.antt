-- The text of a log's lines: a proof file.
use Rattle.std.specs.Prelude.{◌≡◌, ℕ, ◌+◌, ◌<◌, List, [], ◌∷◌, ◌++◌, length, take, slice_index_or, codes}
use Rattle.std.specs.List.{flat_map}
use Rattle.pb_rules.specs.Frames.{Line, derived}
use Rattle.proof_words.specs.Lines.{line_text}

-- the first line of a proof file
abbrev pub header : List ℕ
header = codes "proof 1" ++ 10 ∷ []

-- the text of a proof file: its first line, and each line's text
abbrev pub proof_text : List Line → List ℕ
proof_text ls = header ++ flat_map line_text ls

-- a line by its place; past the last one, one without operations
abbrev pub line_at : List Line → ℕ → Line
line_at ls i = slice_index_or ls i (derived [])

-- the text of no lines is the first line,
abbrev pub TextBegins : Type 0
TextBegins = proof_text [] ≡ header

-- and each further line puts its own text behind: so the first line and the texts of all lines, one after another, are the text of the file
abbrev pub TextGoesOn : Type 0
TextGoesOn = (ls : List Line) (i : ℕ) → i < length ls → proof_text (take (i + 1) ls) ≡ proof_text (take i ls) ++ line_text (line_at ls i)
