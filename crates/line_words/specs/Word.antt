use Rattle.line_words.specs.Text.{Piece}
use Rattle.line_words.specs.declared.words.Word.{Word}

-- a word as its line has it
abbrev pub piece : Word → Piece
piece w = record { start = w.start; end = w.end; text = w.text.now }
