-- Lines of a few short words.
use Rattle.std.proofs.Common.{◌≡◌, ℕ, ◌*◌, ◌<◌, ◌≤◌, Bool, true, ◌&&◌, List, [], ◌∷◌, length, arith}
use Rattle.std.specs.Prelude.{nat_lt, nat_le}
use Rattle.std.specs.List.{list_all, join_with_byte, flat_map}
use Rattle.std.proofs.lemmas.Bool.{and_parts, ltb-true, leb-true}
use Rattle.std.proofs.lemmas.List.{length-append}
use Rattle.line_words.specs.Rules.{Words}
use Rattle.line_words.specs.Text.{is_word_byte}
use Rattle.file_bricks.specs.Words.{IsWord}
use Rattle.spelled_lines.specs.Lines.{spelled}
use Rattle.made_laws.specs.Reading.{AreWords, IsLine}

abbrev pub is_short_word : List ℕ → Bool
is_short_word w = nat_lt 0 (length w) && (list_all is_word_byte w && nat_le (length w) 16)

pub record IsShort (w : List ℕ) : Type 0 where
  pub word : IsWord w
  pub short : length w ≤ 16

pub record IsShortLine (ws : Words) : Type 0 where
  pub words : list_all is_short_word ws ≡ true
  pub some : 0 < length ws
  pub few : length ws ≤ 8

abbrev pub AreShortLines : List Words → Type 0
AreShortLines [] = Unit {0}
AreShortLines (ws ∷ ls) = IsShortLine ws × AreShortLines ls

pub short_word : (w : List ℕ) → is_short_word w ≡ true → IsShort w
short_word w h =
    let parts = and_parts (nat_lt 0 (length w)) (list_all is_word_byte w && nat_le (length w) 16) h in
    let more = and_parts (list_all is_word_byte w) (nat_le (length w) 16) parts.1 in
    record { word = record { some = ltb-true 0 (length w) parts.0; plain = more.0 }; short = leb-true (length w) 16 more.1 }

short_words : (ws : Words) → list_all is_short_word ws ≡ true → AreWords ws
short_words [] h = tt
short_words (w ∷ ws) h =
    let parts = and_parts (is_short_word w) (list_all is_short_word ws) h in
    ((short_word w parts.0).word, short_words ws parts.1)

joined_length : (ws : Words) → list_all is_short_word ws ≡ true → length (join_with_byte 32 ws) ≤ 17 * length ws
joined_length [] h = omega arith
joined_length (w ∷ []) h =
    let short = (short_word w (and_parts (is_short_word w) true h).0).short in
    omega (arith, short)
joined_length (w ∷ v ∷ ws) h =
    let parts = and_parts (is_short_word w) (list_all is_short_word (v ∷ ws)) h in
    let short = (short_word w parts.0).short in
    let more = joined_length (v ∷ ws) parts.1 in
    let long = length-append w (32 ∷ join_with_byte 32 (v ∷ ws)) in
    omega (arith, short, more, long)

pub spelled_length : (ws : Words) → IsShortLine ws → length (spelled ws) ≤ 137
spelled_length ws h =
    let body = joined_length ws h.words in
    let long = length-append (join_with_byte 32 ws) (10 ∷ []) in
    omega (arith, body, long, h.few)

pub line_of_short : (ws : Words) → IsShortLine ws → IsLine ws
line_of_short [] h = absurd (omega (arith, h.some))
line_of_short (w ∷ ws) h =
    let words = short_words (w ∷ ws) h.words in
    let short = spelled_length (w ∷ ws) h in
    record { first = words.0; others = words.1; short = omega (arith, short) }

-- so many lines are a short text
pub text_length : (ls : List Words) → AreShortLines ls → length (flat_map spelled ls) ≤ 137 * length ls
text_length [] h = omega arith
text_length (ws ∷ ls) h =
    let first = spelled_length ws h.0 in
    let more = text_length ls h.1 in
    let long = length-append (spelled ws) (flat_map spelled ls) in
    omega (arith, first, more, long)
