-- A reader's steps over what `Lines` gives, for each kind of file that may have comments.
--
-- A reader keeps "reading on from here gives `total`", where `total` is what the whole file gives. One of the
-- lemmas below serves each way on: a statement is taken, a statement breaks a rule, a line alone is refused, the
-- file ends and breaks no rule, or its end breaks one.
use Rattle.std.proofs.Common.{◌≡◌, ℕ, ◌+◌, ◌<◌, ◌≤◌, Bool, true, List, [], ◌∷◌, ◌++◌, length, Option, Some, None, Ok, Err, ◌&&◌, refl, sym, ap, ◌∙◌, arith}
use Rattle.std.specs.Prelude.{nat_le}
use Rattle.std.proofs.lemmas.Bool.{leb-true, and_parts}
use Rattle.std.proofs.lemmas.List.{append-nil}
use Rattle.line_words.specs.Text.{Piece, words, words_in}
use Rattle.line_words.specs.Rules.{Test, IsRanked, first_broken, Words, Statement, Rules, tests_after, statement_tests, AreInOrder, line_tests, texts, some_words, stated_words, text_rules}
use Rattle.line_words.specs.Left.{Left, Numbered, IsEmptyLine, AllEmpty, Passes, Gives, Refuses}
use Rattle.line_words.specs.Run.{Reading, unless_broken, run}
use Rattle.line_words.specs.declared.refusals.Why.{Why}
use Rattle.line_words.specs.Refused.{rank}
use Rattle.line_words.specs.declared.refusals.Why.TheVariants.{LongLine, NoHeader}
use Rattle.line_words.specs.declared.refusals.Refusal1.{Refusal1}
use Rattle.line_words.proofs.Least.{run-nil, run-cons, first_broken-append-none, first_broken-append-some}

-- ---- rules in their order

-- whether rules stand in the order of what they refuse for, none before `low`
abbrev pub is_ranked : ℕ → List Test → Bool
is_ranked low [] = true
is_ranked low (t ∷ ts) = nat_le low (rank t.0) && is_ranked (rank t.0) ts

-- Rules that are written out stand in their order: computed from what they refuse for.
pub ranked : (low : ℕ) (ts : List Test) → is_ranked low ts ≡ true → IsRanked low ts
ranked low [] e = tt
ranked low (t ∷ ts) e = let parts = and_parts (nat_le low (rank t.0)) (is_ranked (rank t.0) ts) e in (leb-true low (rank t.0) parts.0, ranked (rank t.0) ts parts.1)

-- Rules of statements that stand in their order, from the header on, are in order with those of the line.
pub in_order : (statement : List Statement → Words → List Test) (end : List Statement → List Test)
    → ((before : List Statement) (ws : Words) → IsRanked (rank NoHeader) (statement before ws)) → ((before : List Statement) → IsRanked (rank NoHeader) (end before))
    → AreInOrder (text_rules statement end)
in_order statement end s e = record {
  at_lines = λ before line. (omega arith, (omega arith, stated_ranked statement end before (stated_words line) s));
  at_end = λ before. ranked_below 0 (rank NoHeader) (end before) (omega arith) (e before);
}
  where
    ranked_below : (low high : ℕ) (ts : List Test) → low ≤ high → IsRanked high ts → IsRanked low ts
    ranked_below low high [] le h = tt
    ranked_below low high (t ∷ ts) le h = (omega (arith, le, h.0), h.1)

    stated_ranked : (statement : List Statement → Words → List Test) (end : List Statement → List Test) (before : List Statement) (stated : Option Words)
        → ((before : List Statement) (ws : Words) → IsRanked (rank NoHeader) (statement before ws)) → IsRanked (rank LongLine) (statement_tests (text_rules statement end) before stated)
    stated_ranked statement end before None s = tt
    stated_ranked statement end before (Some ws) s = ranked_below (rank LongLine) (rank NoHeader) (statement before ws) (omega arith) (s before ws)

-- ---- one line

empty_stated : (l : List ℕ) → words l ≡ [] → stated_words l ≡ None
empty_stated l e = ap (λ (ws : List Piece). some_words (texts ws)) e

some_stated : (ws : List Piece) → 0 < length ws → some_words (texts ws) ≡ Some (texts ws)
some_stated [] lt = absurd (omega (arith, lt))
some_stated (w ∷ ws) lt = refl

empties_run : (rules : Rules) (before : List Statement) (passed more : List (List ℕ)) (number : ℕ)
    → ((l : List ℕ) → IsEmptyLine l → (first_broken (tests_after rules before l) ≡ None) × (rules.stated l ≡ None))
    → AllEmpty passed → run rules number before (passed ++ more) ≡ run rules (number + length passed) before more
empties_run rules before [] more number fine h = ap (λ (n : ℕ). run rules n before more) (omega arith)
empties_run rules before (l ∷ ls) more number fine h =
    let here = fine l h.0 in
    let n : number + 1 + length ls ≡ number + length (l ∷ ls) = omega arith in
    run-cons rules number before l (ls ++ more)
    ∙ rw (here.0, here.1, append-nil before) (empties_run rules before ls more (number + 1) fine h.1 ∙ ap (λ (n : ℕ). run rules n before more) n)

empty_line : (statement : List Statement → Words → List Test) (end : List Statement → List Test) (before : List Statement) (l : List ℕ) → IsEmptyLine l
    → (first_broken (tests_after (text_rules statement end) before l) ≡ None) × (stated_words l ≡ None)
empty_line statement end before l e =
    let none = empty_stated l e.no_word in
    (first_broken-append-none (line_tests l) (statement_tests (text_rules statement end) before (stated_words l)) e.fine ∙ rw none refl, none)

pub passes_run : (statement : List Statement → Words → List Test) (end : List Statement → List Test) (before : List Statement) (old new : Left) → Passes old new
    → run (text_rules statement end) old.number before old.lines ≡ run (text_rules statement end) new.number before new.lines
passes_run statement end before old new p =
    ap (run (text_rules statement end) old.number before) p.lines_are
    ∙ empties_run (text_rules statement end) before p.passed new.lines old.number (empty_line statement end before) p.empty
    ∙ ap (λ (n : ℕ). run (text_rules statement end) n before new.lines) (sym p.number_is)

pub gives_run : (statement : List Statement → Words → List Test) (end : List Statement → List Test) (before : List Statement) (old new : Left) (line : Numbered) → Gives old new line
    → run (text_rules statement end) old.number before old.lines
    ≡ unless_broken line.number (first_broken (statement before (texts (words_in line.content))))
    (run (text_rules statement end) new.number (before ++ record { number = line.number; words = texts (words_in line.content) } ∷ []) new.lines)
gives_run statement end before old new line g =
    let rules = text_rules statement end in
    let ws = texts (words_in line.content) in
    let stated : stated_words g.line ≡ Some ws = ap (λ (c : List ℕ). some_words (texts (words_in c))) (sym g.content_is) ∙ some_stated (words_in line.content) g.some_word in
    let tests : first_broken (tests_after (text_rules statement end) before g.line) ≡ first_broken (statement before ws)
    = first_broken-append-none (line_tests g.line) (statement_tests (text_rules statement end) before (stated_words g.line)) g.fine ∙ rw stated refl in
    passes_run statement end before old (record { number = line.number; lines = g.line ∷ new.lines }) g.passes
    ∙ run-cons (text_rules statement end) line.number before g.line new.lines
    ∙ rw (tests, stated, g.number_is) refl

pub refuses_run : (statement : List Statement → Words → List Test) (end : List Statement → List Test) (before : List Statement) (old new : Left) (refusal : Refusal1) → Refuses old new refusal
    → run (text_rules statement end) old.number before old.lines ≡ Err refusal
refuses_run statement end before old new refusal r =
    let s = r.stops in
    let tests : first_broken (tests_after (text_rules statement end) before s.line) ≡ Some refusal.why
    = first_broken-append-some (line_tests s.line) (statement_tests (text_rules statement end) before (stated_words s.line)) refusal.why s.broken in
    passes_run statement end before old new r.passes
    ∙ ap (run (text_rules statement end) new.number before) s.lines_are
    ∙ run-cons (text_rules statement end) new.number before s.line s.more
    ∙ rw (tests, ← s.number_is) refl

pub ends_run : (statement : List Statement → Words → List Test) (end : List Statement → List Test) (before : List Statement) (old new : Left) → Passes old new → new.lines ≡ []
    → run (text_rules statement end) old.number before old.lines ≡ unless_broken new.number (first_broken (end before)) (Ok before)
ends_run statement end before old new p e =
    passes_run statement end before old new p ∙ ap (run (text_rules statement end) new.number before) e ∙ run-nil (text_rules statement end) new.number before

-- ---- a reader's ways on

-- a statement that breaks no rule is taken
pub goes_on : (statement : List Statement → Words → List Test) (end : List Statement → List Test) (before : List Statement) (old new : Left) (line : Numbered) (ws : Words) (total : Reading)
    → Gives old new line → ws ≡ texts (words_in line.content) → run (text_rules statement end) old.number before old.lines ≡ total → first_broken (statement before ws) ≡ None
    → run (text_rules statement end) new.number (before ++ record { number = line.number; words = ws } ∷ []) new.lines ≡ total
goes_on statement end before old new line ws total g is so_far fine =
    let here : first_broken (statement before (texts (words_in line.content))) ≡ None = ap (λ (w : Words). first_broken (statement before w)) (sym is) ∙ fine in
    ap (λ (w : Words). run (text_rules statement end) new.number (before ++ record { number = line.number; words = w } ∷ []) new.lines) is
    ∙ sym (gives_run statement end before old new line g ∙ rw here refl) ∙ so_far

-- a statement that breaks a rule is the file's refusal
pub stops_here : (statement : List Statement → Words → List Test) (end : List Statement → List Test) (before : List Statement) (old new : Left) (line : Numbered) (ws : Words) (total : Reading)
    (why : Why)
    → Gives old new line → ws ≡ texts (words_in line.content) → run (text_rules statement end) old.number before old.lines ≡ total → first_broken (statement before ws) ≡ Some why
    → total ≡ Err (record { line = line.number; why = why })
stops_here statement end before old new line ws total why g is so_far broken =
    let here : first_broken (statement before (texts (words_in line.content))) ≡ Some why = ap (λ (w : Words). first_broken (statement before w)) (sym is) ∙ broken in
    sym so_far ∙ gives_run statement end before old new line g ∙ rw here refl

-- a line that is refused alone is the file's refusal
pub refused_alone : (statement : List Statement → Words → List Test) (end : List Statement → List Test) (before : List Statement) (old new : Left) (refusal : Refusal1) (total : Reading)
    → Refuses old new refusal → run (text_rules statement end) old.number before old.lines ≡ total → total ≡ Err refusal
refused_alone statement end before old new refusal total r so_far = sym so_far ∙ refuses_run statement end before old new refusal r

-- a file whose end breaks no rule has these statements
pub ends_well : (statement : List Statement → Words → List Test) (end : List Statement → List Test) (before : List Statement) (old new : Left) (total : Reading)
    → Passes old new → new.lines ≡ [] → run (text_rules statement end) old.number before old.lines ≡ total → first_broken (end before) ≡ None → total ≡ Ok before
ends_well statement end before old new total p e so_far fine = sym so_far ∙ ends_run statement end before old new p e ∙ rw fine refl

-- a file whose end breaks a rule is refused at its end line
pub ends_broken : (statement : List Statement → Words → List Test) (end : List Statement → List Test) (before : List Statement) (old new : Left) (line : ℕ) (total : Reading) (why : Why)
    → Passes old new → new.lines ≡ [] → line ≡ new.number + length new.lines → run (text_rules statement end) old.number before old.lines ≡ total → first_broken (end before) ≡ Some why
    → total ≡ Err (record { line = line; why = why })
ends_broken statement end before old new line total why p e line_is so_far broken =
    let number : new.number ≡ line = omega (arith, line_is, ap length e) in
    sym so_far ∙ ends_run statement end before old new p e ∙ rw (broken, number) refl
