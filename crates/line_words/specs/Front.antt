-- The front of a text, up to its first LF or `#`.
use Rattle.std.specs.Prelude.{ℕ, List, Bool, ◌||◌, not, ◌==◌}
use Rattle.std.specs.List.{list_any, before_first}
use Rattle.line_words.specs.Text.{is_blank}

-- LF
abbrev pub is_lf : ℕ → Bool
is_lf b = b == 10

-- LF or `#`
abbrev pub ends_content : ℕ → Bool
ends_content b = (b == 10) || (b == 35)

-- a byte of a word
abbrev pub is_in_word : ℕ → Bool
is_in_word b = not (is_blank b)

-- a byte of a word is there
abbrev pub has_word : List ℕ → Bool
has_word bytes = list_any is_in_word bytes

-- the first line of a text
abbrev pub line_of : List ℕ → List ℕ
line_of bytes = before_first is_lf bytes
