-- A spelled line is one piece, and its words are read again.
use Rattle.std.proofs.Common.{◌≡◌, ℕ, ◌<◌, Bool, true, false, List, [], ◌∷◌, ◌++◌, length, take, refl, ap, ◌∙◌, arith}
use Rattle.std.specs.Prelude.{◌||◌}
use Rattle.std.specs.List.{list_any, list_all, slice_split, join_with_byte, AllByRecursion, position_or_len, onto_first, before_first}
use Rattle.std.proofs.lemmas.Bool.{and_parts}
use Rattle.std.proofs.lemmas.Bool.Decides.{nat_tests}
use Rattle.std.proofs.lemmas.List.{take_at}
use Rattle.std.proofs.lemmas.List.Splits.{slice_split_at, slice_split_none}
use Rattle.std.proofs.lemmas.List.Elements.{All-from_recursion}
use Rattle.line_words.specs.Front.{is_lf}
use Rattle.line_words.specs.Rules.{Words}
use Rattle.spelled_lines.specs.Lines.{pieces, is_bad, is_space, is_empty, lacks_lf, words_of, spelled, is_word_byte, IsWord}
use Rattle.spelled_lines.proofs.FirstPiece.{pieces_end, pieces_byte}

-- ---- bytes

-- a byte of a line, before its LF
pub record IsLineByte (b : ℕ) : Type 0 where
  pub good : is_bad b ≡ false
  pub no_lf : is_lf b ≡ false

abbrev IsLine : List ℕ → Type 0
IsLine l = AllByRecursion IsLineByte l

word_byte : (b : ℕ) → is_word_byte b ≡ true → IsLineByte b
word_byte b h = record { good = grind (arith, nat_tests, h); no_lf = grind (arith, nat_tests, h) }

no_space : (b : ℕ) → is_word_byte b ≡ true → is_space b ≡ false
no_space b h = grind (arith, nat_tests, h)

space : IsLineByte 32
space = record { good = refl; no_lf = refl }

word_line : (w : List ℕ) → list_all is_word_byte w ≡ true → IsLine w
word_line [] h = tt
word_line (b ∷ w) h = let p = and_parts (is_word_byte b) (list_all is_word_byte w) h in (word_byte b p.0, word_line w p.1)

no_spaces : (w : List ℕ) → list_all is_word_byte w ≡ true → AllByRecursion (λ b. is_space b ≡ false) w
no_spaces [] h = tt
no_spaces (b ∷ w) h = let p = and_parts (is_word_byte b) (list_all is_word_byte w) h in (no_space b p.0, no_spaces w p.1)

line_append : (xs ys : List ℕ) → IsLine xs → IsLine ys → IsLine (xs ++ ys)
line_append [] ys a b = b
line_append (x ∷ xs) ys a b = (a.0, line_append xs ys a.1 b)

abbrev pub AreWords : Words → Type 0
AreWords ws = AllByRecursion IsWord ws

-- words that are joined are a line
join_line : (ws : Words) → AreWords ws → IsLine (join_with_byte 32 ws)
join_line [] h = tt
join_line (w ∷ []) h = word_line w h.0.bytes
join_line (w ∷ x ∷ ws) h = line_append w (32 ∷ join_with_byte 32 (x ∷ ws)) (word_line w h.0.bytes) (space, join_line (x ∷ ws) h.1)

-- words joined and split
split_join : (w : List ℕ) (ws : Words) → AreWords (w ∷ ws) → slice_split is_space (join_with_byte 32 (w ∷ ws)) ≡ w ∷ ws
split_join w [] h = slice_split_none is_space w (All-from_recursion (λ b. is_space b ≡ false) w (no_spaces w h.0.bytes))
split_join w (x ∷ ws) h =
    slice_split_at is_space w 32 (join_with_byte 32 (x ∷ ws)) (All-from_recursion (λ b. is_space b ≡ false) w (no_spaces w h.0.bytes)) refl
    ∙ ap (λ (r : Words). w ∷ r) (split_join x ws h.1)

-- no word is empty
pub none_empty : (ws : Words) → AreWords ws → list_any is_empty ws ≡ false
none_empty [] h = refl
none_empty (w ∷ ws) h = ap (λ (b : Bool). b || list_any is_empty ws) (some_byte w h.0.some) ∙ none_empty ws h.1
  where
    some_byte : (w : List ℕ) → 0 < length w → is_empty w ≡ false
    some_byte w lt = grind (arith, nat_tests, lt)

-- ---- lines

abbrev ended : List ℕ → List ℕ
ended l = l ++ 10 ∷ []

pieces_line : (l more : List ℕ) → IsLine l → pieces (ended l ++ more) ≡ ended l ∷ pieces more
pieces_line [] more h = pieces_end 10 more refl
pieces_line (b ∷ l) more h = pieces_byte b (ended l ++ more) h.0.no_lf ∙ ap (onto_first b) (pieces_line l more h.1)

none_bad : (l : List ℕ) → IsLine l → list_any is_bad (ended l) ≡ false
none_bad [] h = refl
none_bad (b ∷ l) h = ap (λ (x : Bool). x || list_any is_bad (ended l)) h.0.good ∙ none_bad l h.1

some_lf : (l : List ℕ) → IsLine l → list_any is_lf (ended l) ≡ true
some_lf [] h = refl
some_lf (b ∷ l) h = ap (λ (x : Bool). x || list_any is_lf (ended l)) h.0.no_lf ∙ some_lf l h.1

lf_at : (l : List ℕ) → IsLine l → position_or_len is_lf (ended l) ≡ length l
lf_at [] h = refl
lf_at (b ∷ l) h = rw h.0.no_lf (omega (arith, lf_at l h.1))

body_of : (l : List ℕ) → IsLine l → before_first is_lf (ended l) ≡ l
body_of l h = ap (λ (n : ℕ). take n (ended l)) (lf_at l h) ∙ take_at l (10 ∷ []) (length l) refl

-- a spelled line is the first piece, has no bad byte and its LF, and has its words
pub record IsSpelled (ws : Words) : Type 0 where
  pub first : (more : List ℕ) → pieces (spelled ws ++ more) ≡ spelled ws ∷ pieces more
  pub good : list_any is_bad (spelled ws) ≡ false
  pub ended : lacks_lf (spelled ws) ≡ false
  pub words : words_of (spelled ws) ≡ ws

-- words are spelled as a line that has them
pub spelled_is : (w : List ℕ) (ws : Words) → AreWords (w ∷ ws) → IsSpelled (w ∷ ws)
spelled_is w ws h =
    let l = join_with_byte 32 (w ∷ ws) in
    let line = join_line (w ∷ ws) h in
    record {
      first = λ more. pieces_line l more line;
      good = none_bad l line;
      ended = rw (some_lf l line) refl;
      words = ap (slice_split is_space) (body_of l line) ∙ split_join w ws h;
    }
