-- The lines of a text that has one spelling: no comment, no blank but single spaces, no limit of length, and LF after
-- each line.
use Rattle.std.specs.Prelude.{◌≡◌, ℕ, ◌<◌, List, [], ◌∷◌, ◌++◌, length, Bool, true, ◌||◌, ◌&&◌, not, ◌==◌, nat_le, if◌then◌else◌}
use Rattle.std.specs.List.{list_any, list_all, onto_first, before_first, slice_split, join_with_byte}
use Rattle.line_words.specs.Front.{is_lf}
use Rattle.line_words.specs.Rules.{Words}

-- the pieces of a text, each up to its LF and with it; what stands after the last LF is a piece where it isn't empty
unfoldable pub pieces : List ℕ → List (List ℕ)
pieces [] = []
pieces (b ∷ bs) = if is_lf b then (b ∷ []) ∷ pieces bs else onto_first b (pieces bs)

-- a byte that may not stand in such a text: neither LF nor 32 to 126
abbrev pub is_bad : ℕ → Bool
is_bad b = not (is_lf b || (nat_le 32 b && nat_le b 126))

-- a piece without LF
abbrev pub lacks_lf : List ℕ → Bool
lacks_lf piece = not (list_any is_lf piece)

abbrev pub is_space : ℕ → Bool
is_space b = b == 32

-- a piece up to its LF
abbrev pub body_of : List ℕ → List ℕ
body_of piece = before_first is_lf piece

-- the words of a piece: what stands between its spaces, up to its LF
abbrev pub words_of : List ℕ → Words
words_of piece = slice_split is_space (body_of piece)

-- a word is empty where a space stands at an end or beside another one
abbrev pub is_empty : List ℕ → Bool
is_empty word = length word == 0

-- words as a line: one space between two, and LF at the end
abbrev pub spelled : Words → List ℕ
spelled ws = join_with_byte 32 ws ++ 10 ∷ []

-- a byte of a word: 33 to 126
abbrev pub is_word_byte : ℕ → Bool
is_word_byte b = nat_le 33 b && nat_le b 126

-- what can stand between two spaces: at least one byte, each from 33 to 126
pub record IsWord (word : List ℕ) : Type 0 where
  pub some : 0 < length word
  pub bytes : list_all is_word_byte word ≡ true
