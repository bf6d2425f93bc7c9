-- What the lines taken so far state, and a reader's ways on.
use Rattle.std.proofs.Common.{◌≡◌, ℕ, ◌+◌, Bool, true, false, List, [], ◌∷◌, ◌++◌, length, Option, Some, None, Result, Ok, Err, refl, sym, ap, ◌∙◌, arith, inl, inr}
use Rattle.std.specs.Prelude.{codes, is_some}
use Rattle.std.specs.List.{list_any}
use Rattle.std.specs.Str.{bytes_eq}
use Rattle.std.proofs.lemmas.Bool.{cases_Bool}
use Rattle.std.proofs.lemmas.List.{length-set, length-replicate}
use Rattle.line_words.specs.Refused.{rank}
use Rattle.line_words.specs.Rules.{Words, Test, Statement, IsRanked, AreInOrder, first_broken}
use Rattle.line_words.specs.Run.{Reading, run, unless_broken}
use Rattle.line_words.specs.Reads.{Agrees}
use Rattle.line_words.specs.declared.refusals.Why.{Why}
use Rattle.line_words.specs.declared.refusals.Why.TheVariants.{BadStatement, NotInOrder, Unclosed}
use Rattle.line_words.specs.declared.refusals.FileTag.TheVariants.{Front}
use Rattle.line_words.specs.declared.refusals.ReadFault.{ReadFault}
use Rattle.line_words.proofs.Least.{run-nil, first_broken-append-some}
use Rattle.spelled_lines.proofs.Over.{taken, refused}
use Rattle.line_words.specs.declared.refusals.Stop.TheVariants.{Broken}
use Rattle.line_words.proofs.Answering.{stopped}
use Rattle.line_words.proofs.Whys.{some}
use Rattle.spec_model.specs.Spec.{SpecValue, design_variables}
use Rattle.spelled_lines.specs.Lines.{words_of, is_empty}
use Rattle.result_text.specs.Lines.{piece_tests}
use Rattle.result_text.specs.Stating.{item_tests, item_variable, is_vector}
use Rattle.result_text.specs.Statements.{Stated, nothing, with_line, with_lines, words_tests, end_tests, result_rules}
use Rattle.result_text.specs.Answers.{as_seen, entry_of, IsEntryOf}
use Rattle.result_text.specs.declared.entries.Entry.{Entry}

-- ---- the state

pub with_lines-push : (s : SpecValue) (stated : Stated) (done : List Statement) (line : Statement) → with_lines s stated (done ++ line ∷ []) ≡ with_line s (with_lines s stated done) line.words
with_lines-push s stated [] line = refl
with_lines-push s stated (d ∷ done) line = with_lines-push s (with_line s stated d.words) done line

pub length-with_line : (s : SpecValue) (stated : Stated) (ws : Words) → length (with_line s stated ws).design ≡ length stated.design
length-with_line s stated ws =
    elim (cases_Bool (is_vector ws)) [
      | inl t ↦ rw t refl
      | inr f ↦ rw f (length-set stated.design (item_variable s ws) true)
    ]

pub length-nothing : (s : SpecValue) → length (nothing s).design ≡ design_variables s
length-nothing s = length-replicate (design_variables s) false

-- ---- one line

-- a line of an item that isn't refused for its form is tried by its own tests
pub item_line : (s : SpecValue) (stated : Stated) (ws : Words) (why : Why) → is_some stated.vector ≡ false → list_any is_empty ws ≡ false → is_vector ws ≡ false
    → first_broken (item_tests s ws) ≡ Some why → first_broken (words_tests s stated ws) ≡ Some why
item_line s stated ws why a b d e = rw (a, b, d) (first_broken-append-some (item_tests s ws) _ why e)

-- ---- the order of the tests

ranked_item : (s : SpecValue) (ws : Words) (late : Bool) → IsRanked (rank BadStatement) (item_tests s ws ++ (NotInOrder, late) ∷ [])
ranked_item s [] late = (omega arith, (omega arith, tt))
ranked_item s (k ∷ []) late = (omega arith, (omega arith, tt))
ranked_item s (k ∷ a ∷ []) late =
    elim (cases_Bool (bytes_eq k (codes "alloc"))) [
      | inl t ↦ rw t (omega arith, (omega arith, tt))
      | inr f ↦ elim (cases_Bool (bytes_eq k (codes "wire"))) [
        | inl u ↦ rw (f, u) (omega arith, (omega arith, tt))
        | inr g ↦ rw (f, g) (omega arith, (omega arith, tt))
      ]
    ]
ranked_item s (k ∷ a ∷ b ∷ []) late = (omega arith, (omega arith, tt))
ranked_item s (k ∷ a ∷ b ∷ c ∷ []) late =
    elim (cases_Bool (bytes_eq k (codes "bind"))) [
      | inl t ↦ rw t (omega arith, (omega arith, (omega arith, (omega arith, (omega arith, tt)))))
      | inr f ↦ rw f (omega arith, (omega arith, tt))
    ]
ranked_item s (k ∷ a ∷ b ∷ c ∷ d ∷ []) late =
    elim (cases_Bool (bytes_eq k (codes "use"))) [
      | inl t ↦ rw t (omega arith, (omega arith, (omega arith, tt)))
      | inr f ↦ rw f (omega arith, (omega arith, tt))
    ]
ranked_item s (k ∷ a ∷ b ∷ c ∷ d ∷ e ∷ more) late = (omega arith, (omega arith, tt))

pub ranked_words : (s : SpecValue) (stated : Stated) (ws : Words) → IsRanked (rank BadStatement) (words_tests s stated ws)
ranked_words s stated ws =
    elim (cases_Bool (is_vector ws)) [
      | inl t ↦ rw t (omega arith, (omega arith, (omega arith, (omega arith, tt))))
      | inr f ↦ rw f (omega arith, ranked_item s ws _)
    ]

pub in_order : (s : SpecValue) → AreInOrder (result_rules s)
in_order s = record {
  at_lines = λ before line. (omega arith, (omega arith, ranked_words s (with_lines s (nothing s) before) (words_of line)));
  at_end = λ before. (omega arith, tt);
}

-- ---- a reader's ways on

-- what a line is tried by after some statements
abbrev pub tests_of : SpecValue → Stated → List ℕ → List Test
tests_of s stated piece = piece_tests piece ++ words_tests s stated (words_of piece)

abbrev pub after : SpecValue → List Statement → Stated
after s done = with_lines s (nothing s) done

-- the statement of a line
abbrev pub line_at : ℕ → List ℕ → Statement
line_at number piece = record { number = number; words = words_of piece }

-- a line that breaks no rule is taken
pub goes_on : (s : SpecValue) (number : ℕ) (done : List Statement) (stated : Stated) (piece : List ℕ) (more now : List (List ℕ)) (total : Reading)
    → run (result_rules s) number done now ≡ total → now ≡ piece ∷ more → stated ≡ after s done → first_broken (tests_of s stated piece) ≡ None
    → run (result_rules s) (number + 1) (done ++ line_at number piece ∷ []) more ≡ total
goes_on s number done stated piece more now total so_far lines is fine =
    taken (result_rules s) number done piece more now total so_far lines (ap (λ (x : Stated). first_broken (tests_of s x piece)) (sym is) ∙ fine)

-- a line that breaks a rule is the text's refusal
pub stops_here : (s : SpecValue) (number : ℕ) (done : List Statement) (stated : Stated) (piece : List ℕ) (more now : List (List ℕ)) (total : Reading) (why : Why)
    → run (result_rules s) number done now ≡ total → now ≡ piece ∷ more → stated ≡ after s done → first_broken (tests_of s stated piece) ≡ Some why
    → total ≡ Err (record { line = number; why = why })
stops_here s number done stated piece more now total why so_far lines is broken =
    refused (result_rules s) number done piece more now total why so_far lines (ap (λ (x : Stated). first_broken (tests_of s x piece)) (sym is) ∙ broken)

-- what is answered at the end of the text
pub ends : (s : SpecValue) (number : ℕ) (done : List Statement) (stated : Stated) (total : Reading) (found : Result Entry ReadFault)
    → run (result_rules s) number done [] ≡ total → stated ≡ after s done → IsEntryOf stated number found → Agrees Front as_seen (entry_of s) total found
ends s number done stated total (Ok e) so_far is h =
    let vector : (after s done).vector ≡ Some e.vector = ap (λ (x : Stated). x.vector) (sym is) ∙ h.0 in
    let design : e.design ≡ (after s done).design = h.1 ∙ ap (λ (x : Stated). x.design) is in
    let ok : total ≡ Ok done = sym so_far ∙ run-nil (result_rules s) number done ∙ rw vector refl in
    (done, ok, rw (vector, design) refl)
ends s number done stated total (Err fault) so_far is h =
    let none : (after s done).vector ≡ None = ap (λ (x : Stated). x.vector) (sym is) ∙ h.0 in
    let open_end : first_broken (end_tests s done) ≡ some Unclosed = rw none refl in
    stopped Front as_seen (entry_of s) total number (Some Unclosed) (Broken Unclosed) fault h.1 refl
    (λ why e. sym so_far ∙ run-nil (result_rules s) number done ∙ ap (λ (b : Option Why). unless_broken number b (Ok done)) (open_end ∙ e))
