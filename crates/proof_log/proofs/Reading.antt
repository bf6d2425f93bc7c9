-- The lines of a file: a text has them exactly where it is the one text of them, and they can be written.
use Rattle.std.proofs.Common.{◌≡◌, ℕ, ◌<◌, ◌^◌, Bool, true, false, cond, List, [], ◌∷◌, ◌++◌, map, Option, Some, None, refl, sym, ap, ◌∙◌, subst, arith}
use Rattle.std.specs.Prelude.{All, codes, decimal, option_map, ◌||◌}
use Rattle.std.specs.List.{flat_map, concat, list_any, join_with_byte, AllByRecursion}
use Rattle.std.specs.Str.{bytes_eq}
use Rattle.std.proofs.lemmas.List.Elements.{All-head, All-tail}
use Rattle.std.proofs.lemmas.Slice.Eq.{bytes_eq-Decides}
use Rattle.line_words.specs.Rules.{Words}
use Rattle.pb_rules.specs.declared.Op.{Op}
use Rattle.pb_rules.specs.declared.Op.TheVariants.{Id, Axiom, Add, Times, Divide, Saturate, Weaken}
use Rattle.pb_rules.specs.Frames.{Line, derived, cover, base_of}
use Rattle.proof_words.specs.Words.{op_text, op_of, numeral_number, IsWritable}
use Rattle.proof_words.specs.Lines.{line_text, derivation_words, cover_words}
use Rattle.proof_words.specs.Legal.{IsWritableLine}
use Rattle.proof_words.proofs.Spellings.{read_back}
use Rattle.proof_words.proofs.Legal.{lines_are}
use Rattle.spelled_lines.specs.Lines.{pieces, lacks_lf, words_of, is_empty, spelled, IsWord}
use Rattle.spelled_lines.proofs.FirstPiece.{pieces-nil}
use Rattle.spelled_lines.proofs.Decimals.{decimal_word}
use Rattle.spelled_lines.proofs.Spelled.{AreWords, none_empty, spelled_is}
use Rattle.proof_log.specs.Text.{header, proof_text}
use Rattle.proof_log.specs.Files.{each_said, line_said, line_in, after_header, lines_in, IsWritten, ReadExactly, LegalReadBack, HonestCarries, ShownCarries}
use Rattle.proof_log.proofs.Words.{first_said, said_back, said_each, said_texts, op_text_of, numbers_text, numbers_back}
use Rattle.proof_log.proofs.Pieces.{Cut, pieces_cut, pieces_join, joined_words}

-- ---- what a line says

-- words say a line: `p` and its operations, or `c` and its numbers
pub data SaysLine (ws : Words) : Line → Type 0 where
  says_derived : {ops : List Op} (later : Words) → ws ≡ codes "p" ∷ later → each_said op_of later ≡ Some ops → SaysLine ws (derived ops)
  says_cover : {v : List ℕ} (later : Words) → ws ≡ codes "c" ∷ later → each_said numeral_number later ≡ Some v → SaysLine ws (cover v)

derived_said : (ws later : Words) (l : Line) → ws ≡ codes "p" ∷ later → option_map derived (each_said op_of later) ≡ Some l → SaysLine ws l
derived_said ws later l is e = go (each_said op_of later) refl e
  where
    go : (o : Option (List Op)) → each_said op_of later ≡ o → option_map derived o ≡ Some l → SaysLine ws l
    go None q f = absurd cc
    go (Some ops) q f = let same : derived ops ≡ l = cc in subst (SaysLine ws) same (says_derived later is q)

cover_said : (ws later : Words) (l : Line) → ws ≡ codes "c" ∷ later → option_map cover (each_said numeral_number later) ≡ Some l → SaysLine ws l
cover_said ws later l is e = go (each_said numeral_number later) refl e
  where
    go : (o : Option (List ℕ)) → each_said numeral_number later ≡ o → option_map cover o ≡ Some l → SaysLine ws l
    go None q f = absurd cc
    go (Some v) q f = let same : cover v ≡ l = cc in subst (SaysLine ws) same (says_cover later is q)

words_say : (ws : Words) (l : Line) → line_said ws ≡ Some l → SaysLine ws l
words_say [] l e = absurd cc
words_say (k ∷ ws) l e = go (bytes_eq k (codes "p")) (bytes_eq k (codes "c")) refl refl e
  where
    go : (a b : Bool) → bytes_eq k (codes "p") ≡ a → bytes_eq k (codes "c") ≡ b → cond a (option_map derived (each_said op_of ws)) (cond b (option_map cover (each_said numeral_number ws)) None)
        ≡ Some l → SaysLine (k ∷ ws) l
    go true b p q f = derived_said (k ∷ ws) ws l (ap (λ (w : List ℕ). w ∷ ws) ((bytes_eq-Decides k (codes "p")).0 p)) f
    go false true p q f = cover_said (k ∷ ws) ws l (ap (λ (w : List ℕ). w ∷ ws) ((bytes_eq-Decides k (codes "c")).0 q)) f
    go false false p q f = absurd cc

-- a piece says a line: it has its form, and its words say the line
pub record PieceSays (piece : List ℕ) (l : Line) : Type 0 where
  pub has_lf : lacks_lf piece ≡ false
  pub no_empty : list_any is_empty (words_of piece) ≡ false
  pub says : SaysLine (words_of piece) l

-- a piece that is read as a line says it
pub piece_says : (piece : List ℕ) (l : Line) → line_in piece ≡ Some l → PieceSays piece l
piece_says piece l e = go (lacks_lf piece) (list_any is_empty (words_of piece)) refl refl e
  where
    go : (a b : Bool) → lacks_lf piece ≡ a → list_any is_empty (words_of piece) ≡ b → cond (a || b) None (line_said (words_of piece)) ≡ Some l → PieceSays piece l
    go true b p q f = absurd cc
    go false true p q f = absurd cc
    go false false p q f = record { has_lf = p; no_empty = q; says = words_say (words_of piece) l f }

-- what is said can be written,
said_writable : (ws : Words) (l : Line) → SaysLine ws l → IsWritableLine l
said_writable ws (derived ops) (says_derived later is e) = (said_texts op_text op_of IsWritable op_text_of later ops e).each
said_writable ws (cover v) (says_cover later is e) = (numbers_text later v e).each

-- a line that is read can be written
pub line_writable : (piece : List ℕ) (l : Line) → line_in piece ≡ Some l → IsWritableLine l
line_writable piece l e = said_writable (words_of piece) l (piece_says piece l e).says

-- and words that say a line are spelled as its text
said_text : (ws : Words) (l : Line) → SaysLine ws l → join_with_byte 32 ws ++ 10 ∷ [] ≡ line_text l
said_text ws (derived ops) (says_derived later is e) =
    ap (λ (vs : Words). join_with_byte 32 vs ++ 10 ∷ []) (is ∙ ap (λ (vs : Words). codes "p" ∷ vs) (said_texts op_text op_of IsWritable op_text_of later ops e).text)
said_text ws (cover v) (says_cover later is e) =
    ap (λ (vs : Words). join_with_byte 32 vs ++ 10 ∷ []) (is ∙ ap (λ (vs : Words). codes "c" ∷ vs) (numbers_text later v e).text)

pub line_of_text : (piece : List ℕ) (l : Line) → Cut piece → line_in piece ≡ Some l → piece ≡ line_text l
line_of_text piece l h e =
    let x = piece_says piece l e in
    joined_words piece h x.has_lf ∙ said_text (words_of piece) l x.says

-- ---- pieces that each say a line

-- the pieces that are read as lines make the lines' text
pub texts_join : (ps : List (List ℕ)) (ls : List Line) → AllByRecursion Cut ps → each_said line_in ps ≡ Some ls → concat ps ≡ flat_map line_text ls
texts_join [] ls h e = go ls cc
  where
    go : (ls : List Line) → [] ≡ ls → [] ≡ flat_map line_text ls
    go [] f = refl
    go (l ∷ ls) f = absurd cc
texts_join (p ∷ ps) ls h e =
    let s = first_said line_in p ps ls e in
    subst (λ (ks : List Line). concat (p ∷ ps) ≡ flat_map line_text ks) s.is
    (ap (λ (t : List ℕ). p ++ t) (texts_join ps s.more h.1 s.others) ∙ ap (λ (t : List ℕ). t ++ flat_map line_text s.more) (line_of_text p s.first h.0 s.said))

lines_writable : (ps : List (List ℕ)) (ls : List Line) → each_said line_in ps ≡ Some ls → All IsWritableLine ls
lines_writable ps ls e = said_each line_in IsWritableLine line_writable ps ls e

-- ---- the text of a line

-- an operation's text is a word
pub op_named : (op : Op) → IsWritable op → IsWord (op_text op)
op_named (Id i) h = decimal_word i h
op_named (Axiom l) h = of_sign l.yes
  where
    of_sign : (b : Bool) → IsWord (cond b (codes "x" ++ decimal l.var) (codes "~x" ++ decimal l.var))
    of_sign true = record { some = omega arith; bytes = (decimal_word l.var h).bytes }
    of_sign false = record { some = omega arith; bytes = (decimal_word l.var h).bytes }
op_named Add h = record { some = omega arith; bytes = refl }
op_named (Times n) h = record { some = omega arith; bytes = (decimal_word n h.1).bytes }
op_named (Divide n) h = record { some = omega arith; bytes = (decimal_word n h).bytes }
op_named Saturate h = record { some = omega arith; bytes = refl }
op_named (Weaken x) h = record { some = omega arith; bytes = (decimal_word x h).bytes }

each_named : {X : Type 0} (write : X → List ℕ) (P : X → Type 0) → ((x : X) → P x → IsWord (write x)) → (xs : List X) → All P xs → AreWords (map write xs)
each_named write P one [] h = tt
each_named write P one (x ∷ xs) h = (one x (All-head P x xs h), each_named write P one xs (All-tail P x xs h))

-- a spelled line says what its words say
spelled_said : (w : List ℕ) (ws : Words) → AreWords (w ∷ ws) → line_in (spelled (w ∷ ws)) ≡ line_said (w ∷ ws)
spelled_said w ws h =
    let x = spelled_is w ws h in
    let t : List ℕ = spelled (w ∷ ws) in
    ap (λ (m : Bool). cond (m || list_any is_empty (words_of t)) None (line_said (words_of t))) x.ended
    ∙ (ap (λ (vs : Words). cond (list_any is_empty vs) None (line_said vs)) x.words ∙ ap (λ (m : Bool). cond m None (line_said (w ∷ ws))) (none_empty (w ∷ ws) h))

-- the text of a line that can be written stands first in a text, and says the line
pub record IsLineText (l : Line) : Type 0 where
  pub first : (more : List ℕ) → pieces (line_text l ++ more) ≡ line_text l ∷ pieces more
  pub said : line_in (line_text l) ≡ Some l

pub text_of_line : (l : Line) → IsWritableLine l → IsLineText l
text_of_line (derived ops) h =
    let named : AreWords (derivation_words ops) = (record { some = omega arith; bytes = refl }, each_named op_text IsWritable op_named ops h) in
    record {
      first = (spelled_is (codes "p") (map op_text ops) named).first;
      said = spelled_said (codes "p") (map op_text ops) named ∙ ap (option_map derived) (said_back op_text op_of IsWritable read_back ops h);
    }
text_of_line (cover v) h =
    let named : AreWords (cover_words v) = (record { some = omega arith; bytes = refl }, each_named decimal (λ n. n < 2 ^ 63) decimal_word v h) in
    record {
      first = (spelled_is (codes "c") (map decimal v) named).first;
      said = spelled_said (codes "c") (map decimal v) named ∙ ap (option_map cover) (numbers_back v h);
    }

pub line_read : (l : Line) → IsWritableLine l → line_in (line_text l) ≡ Some l
line_read l h = (text_of_line l h).said

pub lines_cut : (ls : List Line) → All IsWritableLine ls → pieces (flat_map line_text ls) ≡ map line_text ls
lines_cut [] h = pieces-nil
lines_cut (l ∷ ls) h =
    (text_of_line l (All-head IsWritableLine l ls h)).first (flat_map line_text ls) ∙ ap (λ (ps : List (List ℕ)). line_text l ∷ ps) (lines_cut ls (All-tail IsWritableLine l ls h))

-- ---- whole files

pub header_first : (more : List ℕ) → pieces (header ++ more) ≡ header ∷ pieces more
header_first more = (spelled_is (codes "proof") (codes "1" ∷ []) (record { some = omega arith; bytes = refl }, (record { some = omega arith; bytes = refl }, tt))).first more

same_header : bytes_eq header header ≡ true
same_header = refl

-- the pieces of a file: its first line, and those that say its lines
pub record IsCutSo (text : List ℕ) (ls : List Line) : Type 0 where
  pub more : List (List ℕ)
  pub cut : pieces text ≡ header ∷ more
  pub said : each_said line_in more ≡ Some ls

-- a file that is read has a first line and a piece for each line
pub file_cut : (text : List ℕ) (ls : List Line) → lines_in text ≡ Some ls → IsCutSo text ls
file_cut text ls e = go (pieces text) refl e
  where
    go : (ps : List (List ℕ)) → pieces text ≡ ps → after_header ps ≡ Some ls → IsCutSo text ls
    go [] q f = absurd cc
    go (p ∷ ps) q f = by_test (bytes_eq p header) refl f
      where
        by_test : (b : Bool) → bytes_eq p header ≡ b → cond b (each_said line_in ps) None ≡ Some ls → IsCutSo text ls
        by_test false r g = absurd cc
        by_test true r g = record { more = ps; cut = q ∙ ap (λ (w : List ℕ). w ∷ ps) ((bytes_eq-Decides p header).0 r); said = g }

written : (ls : List Line) (text : List ℕ) → lines_in text ≡ Some ls → IsWritten ls text
written ls text e =
    let x = file_cut text ls e in
    let each : AllByRecursion Cut (header ∷ x.more) = subst (AllByRecursion Cut) x.cut (pieces_cut text) in
    record {
      is = sym (pieces_join text) ∙ (ap concat x.cut ∙ ap (λ (t : List ℕ). header ++ t) (texts_join x.more ls each.1 x.said));
      writable = lines_writable x.more ls x.said;
    }

-- lines that can be written are read again
pub read_again : (ls : List Line) → All IsWritableLine ls → lines_in (proof_text ls) ≡ Some ls
read_again ls h =
    ap after_header (header_first (flat_map line_text ls))
    ∙ (ap (λ (b : Bool). cond b (each_said line_in (pieces (flat_map line_text ls))) None) same_header
    ∙ (ap (λ (ps : List (List ℕ)). each_said line_in ps) (lines_cut ls h) ∙ said_back line_text line_in IsWritableLine line_read ls h))

pub read_exactly : ReadExactly
read_exactly ls text = (written ls text, λ w. ap lines_in w.is ∙ read_again ls w.writable)

pub legal_read_back : LegalReadBack
legal_read_back f g ls e = read_again ls (lines_are f (base_of f) g ls e)

pub honest_carries : HonestCarries
honest_carries f ls h = record { lines = ls; read = legal_read_back f h.honest.after ls h.honest.legal; holds = h }

pub shown_carries : ShownCarries
shown_carries f g ls order v e shows = record { lines = ls; read = legal_read_back f g ls e; holds = shows }
