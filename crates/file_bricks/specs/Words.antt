-- The words of a line.
use Rattle.std.specs.Prelude.{◌≡◌, ℕ, ◌<◌, List, [], ◌∷◌, length, Bool, true, false, ◌&&◌, slice_index_or, if◌then◌else◌, Option, Some, None}
use Rattle.std.specs.List.{list_all}
use Rattle.std.specs.Str.{bytes_eq}
use Rattle.std.specs.Borrow.{Bor}
use Rattle.line_words.specs.Text.{is_word_byte}
use Rattle.line_words.specs.Rules.{Words}

-- a word: bytes from 33 to 126 without `#`, one at least
pub record IsWord (word : List ℕ) : Type 0 where
  pub some : 0 < length word
  pub plain : list_all is_word_byte word ≡ true

-- the word at a place, from 0; past the last one there is an empty one
abbrev pub word_at : Words → ℕ → List ℕ
word_at ws i = slice_index_or ws i []

-- a file's first statement: the kind of the file, and the version of its form
abbrev pub is_headed : List ℕ → List ℕ → Words → Bool
is_headed kind version [] = false
is_headed kind version (k ∷ []) = false
is_headed kind version (k ∷ v ∷ []) = bytes_eq k kind && bytes_eq v version
is_headed kind version (k ∷ v ∷ w ∷ more) = false

-- what a table of keywords has for a word, at the first entry with the word
abbrev pub keyword_in : {K : Type 0} → List (List ℕ × K) → List ℕ → Option K
keyword_in [] word = None
keyword_in (entry ∷ more) word = if bytes_eq entry.0 word then Some entry.1 else keyword_in more word

-- an entry whose word is lent
abbrev pub entry_said : {K : Type 0} → Bor (List ℕ) × K → List ℕ × K
entry_said entry = (entry.0.now, entry.1)
