-- What the lines of a front text taken so far state, and a reader's ways on.
use Rattle.std.proofs.Common.{◌≡◌, ◌≢◌, ℕ, ◌+◌, Bool, List, [], ◌∷◌, ◌++◌, length, Option, Some, None, Result, Ok, Err, refl, sym, ap, ◌∙◌, arith, inl, inr}
use Rattle.std.specs.Prelude.{codes, is_some}
use Rattle.std.specs.Str.{bytes_eq}
use Rattle.std.proofs.lemmas.Bool.{cases_Bool}
use Rattle.line_words.specs.Refused.{rank}
use Rattle.line_words.specs.Rules.{Words, Test, Statement, IsRanked, AreInOrder, first_broken}
use Rattle.line_words.specs.Run.{Reading, run, unless_broken}
use Rattle.line_words.specs.Reads.{Agrees}
use Rattle.line_words.specs.declared.refusals.Why.{Why}
use Rattle.line_words.specs.declared.refusals.Why.TheVariants.{BadByte, BadStatement}
use Rattle.line_words.specs.declared.refusals.FileTag.TheVariants as files
use Rattle.line_words.specs.declared.refusals.ReadFault.{ReadFault}
use Rattle.line_words.specs.declared.refusals.Stop.TheVariants.{Broken}
use Rattle.line_words.proofs.Least.{run-nil}
use Rattle.line_words.proofs.Answering.{stopped}
use Rattle.spec_model.specs.Spec.{SpecValue, design_variables}
use Rattle.spelled_lines.proofs.Over.{taken, refused}
use Rattle.spelled_lines.specs.Lines.{words_of}
use Rattle.result_text.specs.Stating.{misshapen, starts_with}
use Rattle.result_text.specs.Statements.{Stated, with_line}
use Rattle.result_text.specs.Answers.{EntryValue}
use Rattle.result_text.specs.Fronts.{FrontValue, front_of}
use Rattle.result_text.specs.FrontLines.{FrontStated, front_nothing, byte_tests, between_tests, tests_in, front_tests, next_number, after_words, next_in, line_in, front_with_line, front_with_lines, end_tests_in, front_rules, front_in}
use Rattle.result_text.specs.FrontAnswers.{IsFrontAtEnd}
use Rattle.result_text.specs.declared.fronts.Front.{Front}
use Rattle.result_text.specs.declared.places.Place.{Place}
use Rattle.result_text.specs.declared.places.Place.TheVariants.{Header, Objectives, Between, Inside, Closed}
use Rattle.result_text.proofs.Going.{ranked_words, length-with_line, length-nothing}

pub between_other : (next : ℕ) (ws : Words) → length ws ≢ 1 → length ws ≢ 2 → between_tests next ws ≡ misshapen
between_other next [] a b = refl
between_other next (k ∷ []) a b = absurd (a refl)
between_other next (k ∷ w ∷ []) a b = absurd (b refl)
between_other next (k ∷ w ∷ x ∷ more) a b = refl

-- ---- the state

pub front_with_lines-push : (s : SpecValue) (stated : FrontStated) (done : List Statement) (line : Statement) (piece : List ℕ) → line.words ≡ piece ∷ []
    → front_with_lines s stated (done ++ line ∷ []) ≡ front_with_line s (front_with_lines s stated done) piece
front_with_lines-push s stated [] line piece e = rw e refl
front_with_lines-push s stated (d ∷ done) line piece e = front_with_lines-push s (front_with_line s stated (line_in d.words)) done line piece e

length-after_words : (s : SpecValue) (stated : FrontStated) (now : Stated) → length now.design ≡ design_variables s → length (after_words s stated now).current.design ≡ design_variables s
length-after_words s stated now e =
    elim (cases_Bool (is_some now.vector)) [
      | inl t ↦ rw t (length-nothing s)
      | inr f ↦ rw f e
    ]

length-next : (s : SpecValue) (stated : FrontStated) (ws : Words) (place : Place) → length stated.current.design ≡ design_variables s
    → length (next_in s stated ws place).current.design ≡ design_variables s
length-next s stated ws Header e = e
length-next s stated ws Objectives e = e
length-next s stated ws Between e =
    elim (cases_Bool (starts_with (codes "entry") ws)) [
      | inl t ↦ rw t e
      | inr f ↦ rw f e
    ]
length-next s stated ws Inside e = length-after_words s stated (with_line s stated.current ws) (length-with_line s stated.current ws ∙ e)
length-next s stated ws Closed e = e

-- the design within an entry has a bit for each variable
pub length-front : (s : SpecValue) (stated : FrontStated) (piece : List ℕ) → length stated.current.design ≡ design_variables s
    → length (front_with_line s stated piece).current.design ≡ design_variables s
length-front s stated piece e = length-next s stated (words_of piece) stated.place e

-- ---- the order of the tests

ranked_between : (next : ℕ) (ws : Words) → IsRanked (rank BadStatement) (between_tests next ws)
ranked_between next [] = (omega arith, tt)
ranked_between next (k ∷ []) = (omega arith, tt)
ranked_between next (k ∷ w ∷ []) =
    elim (cases_Bool (bytes_eq k (codes "entry"))) [
      | inl t ↦ rw t (omega arith, (omega arith, (omega arith, tt)))
      | inr f ↦ rw f (omega arith, tt)
    ]
ranked_between next (k ∷ w ∷ x ∷ more) = (omega arith, tt)

ranked_in : (s : SpecValue) (stated : FrontStated) (piece : List ℕ) (place : Place) → IsRanked (rank BadByte) (tests_in s stated piece place)
ranked_in s stated piece Header = (omega arith, (omega arith, tt))
ranked_in s stated piece Objectives = (omega arith, (omega arith, tt))
ranked_in s stated piece Between = (omega arith, ranked_between (next_number stated) (words_of piece))
ranked_in s stated piece Inside = (omega arith, ranked_words s stated.current (words_of piece))
ranked_in s stated piece Closed = (omega arith, tt)

abbrev pub front_after : SpecValue → List Statement → FrontStated
front_after s done = front_with_lines s (front_nothing s) done

pub front_in_order : (s : SpecValue) → AreInOrder (front_rules s)
front_in_order s = record {
  at_lines = λ before line. (omega arith, ranked_in s (front_after s before) line (front_after s before).place);
  at_end = λ before. (omega arith, (omega arith, tt));
}

-- ---- a reader's ways on

-- what a line is tried by after what others state
abbrev pub front_line_tests : SpecValue → FrontStated → List ℕ → List Test
front_line_tests s stated piece = byte_tests piece ++ front_tests s stated piece

-- the statement of a line
abbrev pub front_line_at : ℕ → List ℕ → Statement
front_line_at number piece = record { number = number; words = piece ∷ [] }

-- a line that breaks no rule is taken
pub front_goes_on : (s : SpecValue) (number : ℕ) (done : List Statement) (stated : FrontStated) (piece : List ℕ) (more now : List (List ℕ)) (total : Reading)
    → run (front_rules s) number done now ≡ total → now ≡ piece ∷ more → stated ≡ front_after s done → first_broken (front_line_tests s stated piece) ≡ None
    → run (front_rules s) (number + 1) (done ++ front_line_at number piece ∷ []) more ≡ total
front_goes_on s number done stated piece more now total so_far lines is fine =
    taken (front_rules s) number done piece more now total so_far lines (ap (λ (x : FrontStated). first_broken (front_line_tests s x piece)) (sym is) ∙ fine)

-- a line that breaks a rule is the text's refusal
pub front_stops_here : (s : SpecValue) (number : ℕ) (done : List Statement) (stated : FrontStated) (piece : List ℕ) (more now : List (List ℕ)) (total : Reading) (why : Why)
    → run (front_rules s) number done now ≡ total → now ≡ piece ∷ more → stated ≡ front_after s done → first_broken (front_line_tests s stated piece) ≡ Some why
    → total ≡ Err (record { line = number; why = why })
front_stops_here s number done stated piece more now total why so_far lines is broken =
    refused (front_rules s) number done piece more now total why so_far lines (ap (λ (x : FrontStated). first_broken (front_line_tests s x piece)) (sym is) ∙ broken)

abbrev ok : List Statement → Reading
ok all = Ok all

abbrev front_value : List EntryValue → Bool → FrontValue
front_value entries complete = record { entries = entries; complete = complete }

-- what is answered at the end of the text
pub front_ends : (s : SpecValue) (number : ℕ) (done : List Statement) (stated : FrontStated) (total : Reading) (found : Result Front ReadFault)
    → run (front_rules s) number done [] ≡ total → stated ≡ front_after s done → IsFrontAtEnd stated number found → Agrees files.Front front_of (front_in s) total found
front_ends s number done stated total (Ok front) so_far is h =
    let fine : first_broken ((front_rules s).end done) ≡ None = ap (λ (x : FrontStated). first_broken (end_tests_in x.place)) (sym is) ∙ h.0 in
    let read : total ≡ ok done = sym so_far ∙ run-nil (front_rules s) number done ∙ ap (λ (b : Option Why). unless_broken number b (ok done)) fine in
    (done, read, h.1 ∙ ap (λ (x : FrontStated). front_value x.entries x.complete) is)
front_ends s number done stated total (Err fault) so_far is h =
    let broken : first_broken ((front_rules s).end done) ≡ Some h.0 = ap (λ (x : FrontStated). first_broken (end_tests_in x.place)) (sym is) ∙ h.1 in
    stopped files.Front front_of (front_in s) total number (Some h.0) (Broken h.0) fault h.2 refl
    (λ why e. sym so_far ∙ run-nil (front_rules s) number done ∙ ap (λ (b : Option Why). unless_broken number b (ok done)) (broken ∙ e))
