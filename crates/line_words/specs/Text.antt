-- The lines of a file and the words of a line.
use Rattle.std.specs.Prelude.{◌≡◌, ℕ, ◌+◌, ◌<◌, ◌≤◌, List, [], ◌∷◌, length, Bool, true, ◌||◌, ◌&&◌, not, ◌==◌, nat_le, slice_range, if◌then◌else◌}
use Rattle.std.specs.List.{onto_first, before_first, list_all}

-- TAB, CR and the space
abbrev pub is_blank : ℕ → Bool
is_blank b = (b == 9) || (b == 13) || (b == 32)

-- a byte that may not stand outside a comment
abbrev pub is_bad : ℕ → Bool
is_bad b = not ((b == 9) || (b == 13) || (nat_le 32 b && nat_le b 126))

-- the pieces between LF bytes; the piece after the last LF is a line where it isn't empty
unfoldable pub lines : List ℕ → List (List ℕ)
lines [] = []
lines (b ∷ bs) = if b == 10 then [] ∷ lines bs else onto_first b (lines bs)

-- a line without its comment, which begins at the first `#`
abbrev pub content : List ℕ → List ℕ
content line = before_first (λ b. b == 35) line

-- a word, and where it starts and ends in its line
pub record Piece : Type 0 where
  pub start : ℕ
  pub end : ℕ
  pub text : List ℕ

-- a word of one byte
abbrev pub byte_word : ℕ → ℕ → Piece
byte_word start b = record { start = start; end = start + 1; text = b ∷ [] }

-- a byte at a place, in front of the words that follow it: it joins a word that starts right after it
abbrev pub onto_word : ℕ → ℕ → List Piece → List Piece
onto_word start b [] = byte_word start b ∷ []
onto_word start b (w ∷ ws) = if w.start == start + 1 then record { start = start; end = w.end; text = b ∷ w.text } ∷ ws else byte_word start b ∷ w ∷ ws

-- the longest runs of bytes that aren't blank, in bytes whose first stands at this place
unfoldable pub words_from : ℕ → List ℕ → List Piece
words_from start [] = []
words_from start (b ∷ bs) = if is_blank b then words_from (start + 1) bs else onto_word start b (words_from (start + 1) bs)

-- the words of a line without its comment
abbrev pub words_in : List ℕ → List Piece
words_in bytes = words_from 0 bytes

-- the words of a line
abbrev pub words : List ℕ → List Piece
words line = words_in (content line)

-- a byte of a word: 33 to 126, and no `#`
abbrev pub is_word_byte : ℕ → Bool
is_word_byte b = nat_le 33 b && nat_le b 126 && not (b == 35)

-- a byte of a line without fault, before its comment
abbrev pub is_content_byte : ℕ → Bool
is_content_byte b = is_blank b || is_word_byte b

-- words whose bytes are all such
abbrev pub ArePlain : List Piece → Type 0
ArePlain [] = Unit {0}
ArePlain (w ∷ ws) = (list_all is_word_byte w.text ≡ true) × ArePlain ws

-- a word that stands in its source at this place or later: its text is the slice that its span names
pub record IsSpan (source : List ℕ) (place : ℕ) (w : Piece) : Type 0 where
  pub starts : place ≤ w.start
  pub some : w.start < w.end
  pub within : w.end ≤ length source
  pub text_is : w.text ≡ slice_range source w.start w.end

-- words whose spans rise, from this place on, with a byte at least between two
abbrev pub AreSpans : List ℕ → ℕ → List Piece → Type 0
AreSpans source place [] = Unit {0}
AreSpans source place (w ∷ ws) = IsSpan source place w × AreSpans source (w.end + 1) ws
