-- The words of a line, by their places.
use Rattle.std.specs.Prelude.{ℕ, ◌-◌, List, length, Bool, ◌==◌, slice_index_or}
use Rattle.line_words.specs.Rules.{Words}
use Rattle.file_bricks.specs.Words.{word_at}

-- the first word
abbrev pub first : Words → List ℕ
first ws = word_at ws 0

-- the last word
abbrev pub last : Words → List ℕ
last ws = word_at ws (length ws - 1)

-- a word begins with `@`
abbrev pub is_at : List ℕ → Bool
is_at word = slice_index_or word 0 0 == 64
