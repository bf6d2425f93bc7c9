-- What is written reads as it was written: a line of words with a space between two.
use Rattle.std.proofs.Common.{◌≡◌, ◌≢◌, ℕ, suc, ◌+◌, ◌^◌, ◌<◌, ◌≤◌, Bool, true, false, ◌||◌, eqb, leb, ltb, List, [], ◌∷◌, ◌++◌, length, take, drop, None, Some, Ok, refl, ap, ◌∙◌, arith}
use Rattle.std.specs.Prelude.{decimal}
use Rattle.std.specs.List.{AllByRecursion, list_any, list_all, position_or_len, onto_first}
use Rattle.std.specs.Char.{is_ascii_digit}
use Rattle.std.specs.Str.Parse.{digits_value}
use Rattle.std.proofs.lemmas.Bool.{le-leb, leb-true, lt-ltb, le-ltb, and_parts, ne_eqb}
use Rattle.std.proofs.lemmas.List.{take_all, drop_all}
use Rattle.std.proofs.lemmas.Fmt.{digits_decimal, digits_value-decimal, decimal_nonempty}
use Rattle.std.proofs.Math.Seq.{take-append_seam, drop-append_seam}
use Rattle.line_words.specs.Text.{Piece, is_blank, is_bad, lines, content, words_from}
use Rattle.line_words.specs.Limits.{most_line_bytes}
use Rattle.line_words.specs.Rules.{Words, Statement, Test, first_broken, tests_after, statement_tests, text_rules, line_tests, line_fault, has_bad_byte, is_long, texts, some_words, stated_words}
use Rattle.line_words.specs.Numbers.{is_digits, whole_of}
use Rattle.line_words.specs.Run.{run}
use Rattle.line_words.specs.Front.{is_lf}
use Rattle.line_words.proofs.Digits.{own}
use Rattle.line_words.proofs.Runs.{words_from_run, words_from-blank, words_from-nil}
use Rattle.line_words.proofs.Least.{run-cons, first_broken-append-none}

-- ---- bytes

-- a byte of a written word
pub record IsWordByte (b : ℕ) : Type 0 where
  pub low : 33 ≤ b
  pub high : b ≤ 126
  pub other : b ≢ 35

-- a byte of a written line
pub record IsLineByte (b : ℕ) : Type 0 where
  pub low : 32 ≤ b
  pub high : b ≤ 126
  pub other : b ≢ 35

abbrev pub IsWritten : List ℕ → Type 0
IsWritten w = AllByRecursion IsWordByte w

abbrev pub IsLine : List ℕ → Type 0
IsLine l = AllByRecursion IsLineByte l

not_blank : (b : ℕ) → IsWordByte b → is_blank b ≡ false
not_blank b h = rw (ne_eqb b 9 (λ e. omega (arith, e, h.low)), ne_eqb b 13 (λ e. omega (arith, e, h.low)), ne_eqb b 32 (λ e. omega (arith, e, h.low))) refl

not_lf : (b : ℕ) → IsLineByte b → is_lf b ≡ false
not_lf b h = ne_eqb b 10 (λ e. omega (arith, e, h.low))

not_bad : (b : ℕ) → IsLineByte b → is_bad b ≡ false
not_bad b h = rw (ne_eqb b 9 (λ e. omega (arith, e, h.low)), ne_eqb b 13 (λ e. omega (arith, e, h.low)), le-leb 32 b h.low, le-leb b 126 h.high) refl

-- a written word has no end of a line
pub word_line : (w : List ℕ) → IsWritten w → IsLine w
word_line [] h = tt
word_line (b ∷ w) h = (record { low = omega (arith, h.0.low); high = h.0.high; other = h.0.other }, word_line w h.1)

-- a line of two parts with a space between
pub line_parts : (w l : List ℕ) → IsWritten w → IsLine l → IsLine (w ++ 32 ∷ l)
line_parts [] l h k = (record { low = omega arith; high = omega arith; other = λ e. absurd (omega (arith, e)) }, k)
line_parts (b ∷ w) l h k = (record { low = omega (arith, h.0.low); high = h.0.high; other = h.0.other }, line_parts w l h.1 k)

-- a byte past `#`
pub letter : (b : ℕ) → 33 ≤ b → b ≤ 126 → 35 < b → IsWordByte b
letter b low high above = record { low = low; high = high; other = λ e. absurd (omega (arith, e, above)) }

-- ---- words

run_len : (w rest : List ℕ) → IsWritten w → position_or_len is_blank (w ++ 32 ∷ rest) ≡ length w
run_len [] rest h = refl
run_len (b ∷ w) rest h =
    let f = not_blank b h.0 in
    let more : position_or_len is_blank (b ∷ (w ++ 32 ∷ rest)) ≡ suc (position_or_len is_blank (w ++ 32 ∷ rest)) = rw f (omega arith) in
    more ∙ ap (λ (n : ℕ). suc n) (run_len w rest h.1)

run_all : (w : List ℕ) → IsWritten w → position_or_len is_blank w ≡ length w
run_all [] h = refl
run_all (b ∷ w) h =
    let f = not_blank b h.0 in
    let more : position_or_len is_blank (b ∷ w) ≡ suc (position_or_len is_blank w) = rw f (omega arith) in
    more ∙ ap (λ (n : ℕ). suc n) (run_all w h.1)

-- a written word before a blank is the first one,
pub first_word : (w rest : List ℕ) (at : ℕ) → 0 < length w → IsWritten w → texts (words_from at (w ++ 32 ∷ rest)) ≡ w ∷ texts (words_from (at + length w + 1) rest)
first_word w rest at some h =
    let n = run_len w rest h in
    let run = words_from_run (w ++ 32 ∷ rest) at (omega (arith, n, some)) in
    ap texts run
    ∙ ap (λ (k : ℕ). take k (w ++ 32 ∷ rest) ∷ texts (words_from (at + k) (drop k (w ++ 32 ∷ rest)))) n
    ∙ ap (λ (t : List ℕ). t ∷ texts (words_from (at + length w) (drop (length w) (w ++ 32 ∷ rest)))) (take-append_seam w (32 ∷ rest))
    ∙ ap (λ (t : List ℕ). w ∷ texts (words_from (at + length w) t)) (drop-append_seam w (32 ∷ rest))
    ∙ ap (λ (ws : List Piece). w ∷ texts ws) (words_from-blank (at + length w) 32 rest refl)

-- and one alone is the last
pub last_word : (w : List ℕ) (at : ℕ) → 0 < length w → IsWritten w → texts (words_from at w) ≡ w ∷ []
last_word w at some h =
    let n = run_all w h in
    let run = words_from_run w at (omega (arith, n, some)) in
    ap texts run
    ∙ ap (λ (k : ℕ). take k w ∷ texts (words_from (at + k) (drop k w))) n
    ∙ ap (λ (t : List ℕ). t ∷ texts (words_from (at + length w) (drop (length w) w))) (take_all (length w) w (omega arith))
    ∙ ap (λ (t : List ℕ). w ∷ texts (words_from (at + length w) t)) (drop_all (length w) w (omega arith))
    ∙ ap (λ (ws : List Piece). w ∷ texts ws) (words_from-nil (at + length w))

-- ---- lines

-- a line with its LF is the first one
pub lines_line : (l rest : List ℕ) → IsLine l → lines (l ++ 10 ∷ rest) ≡ l ∷ lines rest
unfolding lines
lines_line [] rest h = refl
lines_line (b ∷ l) rest h = rw (not_lf b h.0) (ap (onto_first b) (lines_line l rest h.1))

abbrev is_hash : ℕ → Bool
is_hash b = eqb b 35

content_line : (l : List ℕ) → IsLine l → content l ≡ l
content_line [] h = refl
content_line (b ∷ l) h =
    let f : is_hash b ≡ false = ne_eqb b 35 h.0.other in
    let n : position_or_len is_hash (b ∷ l) ≡ suc (position_or_len is_hash l) = rw f (omega arith) in
    let cut : content (b ∷ l) ≡ b ∷ content l = rw n refl in
    cut ∙ ap (λ (t : List ℕ). b ∷ t) (content_line l h.1)

none_bad : (l : List ℕ) → IsLine l → list_any is_bad l ≡ false
none_bad [] h = refl
none_bad (b ∷ l) h = ap (λ (x : Bool). x || list_any is_bad l) (not_bad b h.0) ∙ none_bad l h.1

-- a line without fault, and its words
pub record States (line : List ℕ) (ws : Words) : Type 0 where
  pub fine : line_fault line ≡ None
  pub stated : stated_words line ≡ Some ws

-- a short line states its words
pub line_states : (l w : List ℕ) (ws : Words) → IsLine l → length l ≤ most_line_bytes → texts (words_from 0 l) ≡ w ∷ ws → States l (w ∷ ws)
line_states l w ws h short are =
    let same = content_line l h in
    let good : has_bad_byte l ≡ false = ap (λ (t : List ℕ). list_any is_bad t) same ∙ none_bad l h in
    let long : is_long l ≡ false = le-ltb most_line_bytes (length l) short in
    record {
      fine = rw (good, long) refl;
      stated = ap (λ (t : List ℕ). some_words (texts (words_from 0 t))) same ∙ ap some_words are;
    }

-- reading goes on after a line that breaks no rule
pub goes_on : (statement : List Statement → Words → List Test) (end : List Statement → List Test) (number : ℕ) (before : List Statement) (l : List ℕ) (ls : List (List ℕ)) (ws : Words)
    → States l ws → first_broken (statement before ws) ≡ None
    → run (text_rules statement end) number before (l ∷ ls) ≡ run (text_rules statement end) (number + 1) (before ++ record { number = number; words = ws } ∷ []) ls
goes_on statement end number before l ls ws s fine =
    let tests : first_broken (tests_after (text_rules statement end) before l) ≡ None =
    first_broken-append-none (line_tests l) (statement_tests (text_rules statement end) before (stated_words l)) s.fine ∙ rw s.stated fine in
    run-cons (text_rules statement end) number before l ls ∙ rw (tests, s.stated) refl

-- ---- numbers

digit_byte : (b : ℕ) → is_ascii_digit b ≡ true → IsWordByte b
digit_byte b h =
    let parts = and_parts (leb 48 b) (leb b 57) h in
    let low : 48 ≤ b = leb-true 48 b parts.0 in
    let high : b ≤ 57 = leb-true b 57 parts.1 in
    record { low = omega (arith, low); high = omega (arith, high); other = λ e. absurd (omega (arith, e, low)) }

digit_word : (w : List ℕ) → list_all is_ascii_digit w ≡ true → IsWritten w
digit_word [] h = tt
digit_word (b ∷ w) h = let parts = and_parts (is_ascii_digit b) (list_all is_ascii_digit w) h in (digit_byte b parts.0, digit_word w parts.1)

-- a decimal number is a word,
pub decimal_word : (n : ℕ) → n < 2 ^ 64 → IsWritten (decimal n)
decimal_word n lt = digit_word (decimal n) (digits_decimal own n lt)

-- which is read as the number
pub whole_of-decimal : (n : ℕ) → n < 2 ^ 63 → whole_of (decimal n) ≡ Ok n
unfolding whole_of
whole_of-decimal n lt =
    let wide : n < 2 ^ 64 = omega arith in
    let some : ltb 0 (length (decimal n)) ≡ true = lt-ltb 0 (length (decimal n)) (decimal_nonempty n wide) in
    let all : list_all is_ascii_digit (decimal n) ≡ true = digits_decimal own n wide in
    let d : is_digits (decimal n) ≡ true = rw (some, all) refl in
    let v : digits_value 10 (decimal n) ≡ n = digits_value-decimal own n wide in
    let low : ltb n (2 ^ 63) ≡ true = lt-ltb n (2 ^ 63) lt in
    rw (d, v, low) refl
