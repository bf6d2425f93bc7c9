-- What a line of an implementation text is tried by alone.
use Rattle.std.specs.Prelude.{List, ℕ, [], ◌∷◌, Option, Some}
use Rattle.std.specs.List.{list_any}
use Rattle.line_words.specs.Rules.{Words, Test}
use Rattle.line_words.specs.declared.refusals.Why.TheVariants.{BadByte, BadStatement}
use Rattle.spelled_lines.specs.Lines.{is_bad, lacks_lf, words_of}

-- what a piece is tried by alone: its bytes, and that it has its LF
abbrev pub piece_tests : List ℕ → List Test
piece_tests piece = (BadByte, list_any is_bad piece) ∷ (BadStatement, lacks_lf piece) ∷ []

-- each piece states its words
abbrev pub piece_stated : List ℕ → Option Words
piece_stated piece = Some (words_of piece)
