-- Spelled lines are read.
use Rattle.std.proofs.Common.{◌≡◌, ℕ, ◌+◌, true, not, ◌&&◌, eqb, leb, List, [], ◌∷◌, ◌++◌, length, None, Ok, sym, ap, subst, ◌∙◌, arith, append_assoc, append-nil, true≢false}
use Rattle.std.specs.List.{flat_map, join_with_byte, list_all}
use Rattle.std.proofs.lemmas.Bool.{and_parts, leb-true, eq-eqb}
use Rattle.std.proofs.lemmas.List.{length-append}
use Rattle.line_words.specs.Text.{lines, words_from, is_word_byte}
use Rattle.line_words.specs.Rules.{Words, Statement, Test, first_broken, text_rules, texts}
use Rattle.line_words.specs.Run.{run}
use Rattle.line_words.proofs.FirstLine.{lines-nil}
use Rattle.line_words.proofs.Least.{Outcome, run-nil, run_is}
use Rattle.file_bricks.specs.Words.{IsWord}
use Rattle.file_bricks.proofs.Written.{IsWordByte, IsWritten, IsLine as IsPlain, States, word_line, line_parts, first_word, last_word, lines_line, line_states, goes_on}
use Rattle.spelled_lines.specs.Lines.{spelled}
use Rattle.made_laws.specs.Reading.{AreWords, MakeLine, numbered, BreakNone, SpelledIsRead}

-- ---- one line

byte_of : (b : ℕ) → is_word_byte b ≡ true → IsWordByte b
byte_of b h =
    let parts = and_parts (leb 33 b && leb b 126) (not (eqb b 35)) h in
    let ends = and_parts (leb 33 b) (leb b 126) parts.0 in
    record {
      low = leb-true 33 b ends.0;
      high = leb-true b 126 ends.1;
      other = λ e. true≢false (sym parts.1 ∙ ap not (eq-eqb b 35 e));
    }

written : (w : List ℕ) → list_all is_word_byte w ≡ true → IsWritten w
written [] h = tt
written (b ∷ w) h = let parts = and_parts (is_word_byte b) (list_all is_word_byte w) h in (byte_of b parts.0, written w parts.1)

joined_plain : (w : List ℕ) (ws : Words) → IsWord w → AreWords ws → IsPlain (join_with_byte 32 (w ∷ ws))
joined_plain w [] first others = word_line w (written w first.plain)
joined_plain w (v ∷ ws) first others = line_parts w (join_with_byte 32 (v ∷ ws)) (written w first.plain) (joined_plain v ws others.0 others.1)

joined_words : (at : ℕ) (w : List ℕ) (ws : Words) → IsWord w → AreWords ws → texts (words_from at (join_with_byte 32 (w ∷ ws))) ≡ w ∷ ws
joined_words at w [] first others = last_word w at first.some (written w first.plain)
joined_words at w (v ∷ ws) first others =
    first_word w (join_with_byte 32 (v ∷ ws)) at first.some (written w first.plain)
    ∙ ap (λ (us : Words). w ∷ us) (joined_words (at + length w + 1) v ws others.0 others.1)

joined_states : (w : List ℕ) (ws : Words) → MakeLine w ws → States (join_with_byte 32 (w ∷ ws)) (w ∷ ws)
joined_states w ws h =
    line_states (join_with_byte 32 (w ∷ ws)) w ws (joined_plain w ws h.first h.others)
    (omega (arith, h.short, length-append (join_with_byte 32 (w ∷ ws)) (10 ∷ [])))
    (joined_words 0 w ws h.first h.others)

-- ---- all lines

line_first : (ws : Words) (rest : List ℕ) → spelled ws ++ rest ≡ join_with_byte 32 ws ++ 10 ∷ rest
line_first ws rest = append_assoc (join_with_byte 32 ws) (10 ∷ []) rest

lines_read : (statement : List Statement → Words → List Test) (end : List Statement → List Test) (number : ℕ) (before : List Statement) (ls : List Words)
    → BreakNone statement number before ls
    → first_broken (end (before ++ numbered number ls)) ≡ None
    → run (text_rules statement end) number before (lines (flat_map spelled ls)) ≡ Ok (before ++ numbered number ls)
lines_read statement end number before [] fine ended =
    let whole = append-nil before in
    let at_end : first_broken (end before) ≡ None = subst (λ bs. first_broken (end bs) ≡ None) whole ended in
    ap (run (text_rules statement end) number before) lines-nil ∙ run-nil (text_rules statement end) number before ∙ rw at_end (ap (λ bs. Ok bs) (sym whole))
lines_read statement end number before ([] ∷ ls) fine ended = absurd fine.0
lines_read statement end number before ((w ∷ ws) ∷ ls) fine ended =
    let s : Statement = record { number = number; words = w ∷ ws } in
    let line = join_with_byte 32 (w ∷ ws) in
    let rest = flat_map spelled ls in
    let again = append_assoc before (s ∷ []) (numbered (number + 1) ls) in
    let ended_again : first_broken (end (before ++ s ∷ [] ++ numbered (number + 1) ls)) ≡ None = subst (λ bs. first_broken (end bs) ≡ None) (sym again) ended in
    ap (λ t. run (text_rules statement end) number before (lines t)) (line_first (w ∷ ws) rest)
    ∙ ap (run (text_rules statement end) number before) (lines_line line rest (joined_plain w ws fine.0.first fine.0.others))
    ∙ goes_on statement end number before line (lines rest) (w ∷ ws) (joined_states w ws fine.0) fine.1.0
    ∙ lines_read statement end (number + 1) (before ++ s ∷ []) ls fine.1.1 ended_again
    ∙ ap (λ bs. Ok bs) again

pub spelled_is_read : SpelledIsRead
spelled_is_read statement end ls ordered fine ended =
    let rules = text_rules statement end in
    let read = lines_read statement end 1 [] ls fine ended in
    let out = subst (Outcome rules (lines (flat_map spelled ls))) read (run_is rules (lines (flat_map spelled ls)) ordered) in
    record { stated = sym out.0; unbroken = out.1 }
