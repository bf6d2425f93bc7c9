-- Words as they stand in a line, and words lent from one.
use Rattle.std.proofs.Common.{◌≡◌, ℕ, ◌+◌, ◌-◌, ◌<◌, List, [], ◌∷◌, ◌++◌, length, take, drop, get_or, ap, ◌∙◌, arith, All, Bor}
use Rattle.std.proofs.lemmas.List.{length-take, length-drop, length-map, take_more, map_push}
use Rattle.std.proofs.lemmas.List.Elements.{All-nil, All-cons}
use Rattle.line_words.specs.Text.{Piece, AreSpans, ArePlain, IsSpan, words_in}
use Rattle.line_words.specs.Rules.{Words, texts, said}
use Rattle.line_words.specs.Left.{Left, Numbered, Gives}
use Rattle.file_bricks.specs.Words.{IsWord}

some_byte : (source : List ℕ) (place : ℕ) (w : Piece) → IsSpan source place w → 0 < length w.text
some_byte source place w s =
    let n : length w.text ≡ length (take (w.end - w.start) (drop w.start source)) = ap length s.text_is in
    omega (arith, n, length-take (w.end - w.start) (drop w.start source), length-drop w.start source, s.some, s.within)

-- the words of a line
pub words_plain : (source : List ℕ) (place : ℕ) (ws : List Piece) → AreSpans source place ws → ArePlain ws → All IsWord (texts ws)
words_plain source place [] s p = All-nil IsWord
words_plain source place (w ∷ ws) s p =
    All-cons IsWord w.text (texts ws) (record { some = some_byte source place w s.0; plain = p.0 }) (words_plain source (w.end + 1) ws s.1 p.1)

-- a line that is given has a word
pub some_word : (old new : Left) (line : Numbered) (ws : Words) → Gives old new line → ws ≡ texts (words_in line.content) → 0 < length ws
some_word old new line ws g e = omega (arith, g.some_word, ap length e, length-map (words_in line.content) (λ (w : Piece). w.text))

-- one more word
pub said_more : (ws : List (Bor (List ℕ))) (i : ℕ) (d : Bor (List ℕ)) → i < length ws → said (take (i + 1) ws) ≡ said (take i ws) ++ (get_or ws i d).now ∷ []
said_more ws i d h = ap said (take_more ws i d h) ∙ map_push (λ (w : Bor (List ℕ)). w.now) (take i ws) (get_or ws i d)
