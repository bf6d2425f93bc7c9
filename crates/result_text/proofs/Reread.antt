-- The text of a design and a vector is read as them.
use Rattle.std.proofs.Common.{◌≡◌, ℕ, zero, suc, ◌+◌, ◌<◌, ◌≤◌, Bool, true, false, ltb, List, [], ◌∷◌, ◌++◌, length, get_or, Some, None, Ok, refl, sym, ap, ◌∙◌, append_assoc, arith, inl, inr}
use Rattle.std.specs.Prelude.{slice_set, replicate}
use Rattle.std.proofs.lemmas.Bool.{cases_Bool, cases_lt, le-ltb}
use Rattle.std.proofs.lemmas.List.{append-nil, get_or-set_same, get_or-set_other, get_or-replicate, get_or_past, get_or_default, length-replicate, same_lists}
use Rattle.line_words.specs.Rules.{Words, Statement, first_broken}
use Rattle.line_words.specs.Run.{Reading, run}
use Rattle.line_words.specs.declared.refusals.Why.TheVariants.{NotInOrder}
use Rattle.line_words.proofs.Least.{run-nil, first_broken-append-none}
use Rattle.spec_model.specs.Spec.{SpecValue, Bits, bits_of, design_variables}
use Rattle.spec_model.specs.WellFormed.{IsWellFormed}
use Rattle.spec_model.proofs.Pieces.{flat-suc}
use Rattle.spelled_lines.specs.Lines.{spelled, pieces, words_of}
use Rattle.result_text.specs.Spelling.{item_words, item_text, items_text, vector_words, implementation_text}
use Rattle.result_text.specs.Lines.{piece_tests}
use Rattle.result_text.specs.Stating.{item_tests, item_variable}
use Rattle.result_text.specs.Statements.{Stated, nothing, with_line, words_tests, result_rules}
use Rattle.result_text.specs.Answers.{EntryValue, entry_of, numbers_or_none}
use Rattle.result_text.specs.Printed.{HasNames}
use Rattle.spelled_lines.proofs.FirstPiece.{pieces-nil}
use Rattle.result_text.proofs.Going.{tests_of, after, line_at, with_lines-push, goes_on, length-with_line, length-nothing}
use Rattle.result_text.proofs.Parsing.{IsReadAs, item_read, AreSmall, IsVectorRead, vector_read}
use Rattle.spelled_lines.proofs.Spelled.{AreWords, IsSpelled, spelled_is, none_empty}

spelled_of : (ws : Words) → 0 < length ws → AreWords ws → IsSpelled ws
spelled_of [] lt h = absurd (omega (arith, lt))
spelled_of (w ∷ ws) lt h = spelled_is w ws h

-- ---- a line of an item

-- the line of a design variable that isn't before the least one is taken
item_taken : (s : SpecValue) (stated : Stated) (ws : Words) (v : ℕ) → stated.vector ≡ None → IsReadAs s v ws → stated.least ≤ v → first_broken (words_tests s stated ws) ≡ None
item_taken s stated ws v none r low =
    let late : ltb (item_variable s ws) stated.least ≡ false = le-ltb (item_variable s ws) stated.least (omega (arith, low, r.variable)) in
    let last : first_broken (item_tests s ws ++ (NotInOrder, ltb (item_variable s ws) stated.least) ∷ []) ≡ None =
    first_broken-append-none (item_tests s ws) ((NotInOrder, ltb (item_variable s ws) stated.least) ∷ []) r.tests ∙ rw late refl in
    rw (none, none_empty ws r.words, r.item) last

item_state : (s : SpecValue) (stated : Stated) (ws : Words) (v : ℕ) → IsReadAs s v ws → with_line s stated ws ≡ record stated { design = slice_set stated.design v true; least = v + 1 }
item_state s stated ws v r = rw (r.item, r.variable) refl

-- a spelled line is tried by its words
line_fine : (s : SpecValue) (stated : Stated) (ws : Words) → IsSpelled ws → first_broken (words_tests s stated ws) ≡ None → first_broken (tests_of s stated (spelled ws)) ≡ None
line_fine s stated ws p fine =
    first_broken-append-none (piece_tests (spelled ws)) (words_tests s stated (words_of (spelled ws))) (rw (p.good, p.ended) refl)
    ∙ ap (λ (w : Words). first_broken (words_tests s stated w)) p.words ∙ fine

-- what a spelled line more states
line_more : (s : SpecValue) (done : List Statement) (number : ℕ) (ws : Words) → IsSpelled ws → after s (done ++ line_at number (spelled ws) ∷ []) ≡ with_line s (after s done) ws
line_more s done number ws p = with_lines-push s (nothing s) done (line_at number (spelled ws)) ∙ ap (with_line s (after s done)) p.words

-- ---- the lines of the design variables below a number

-- once they are read
pub record Reached (s : SpecValue) (f : Bits) (v : ℕ) : Type 0 where
  pub number : ℕ
  pub done : List Statement
  pub reads : (more : List ℕ) → run (result_rules s) 1 [] (pieces (items_text s f v ++ more)) ≡ run (result_rules s) number done (pieces more)
  pub len : length (after s done).design ≡ design_variables s
  pub same : (k : ℕ) → k < v → get_or (after s done).design k false ≡ f k
  pub later : (k : ℕ) → v ≤ k → get_or (after s done).design k false ≡ false
  pub least : (after s done).least ≤ v
  pub no_vector : (after s done).vector ≡ None

pub all_false : (n k : ℕ) → get_or (replicate n false) k false ≡ false
all_false n k = elim (cases_lt k n) [
  | inl lt ↦ get_or-replicate n k false false lt
  | inr ge ↦ get_or_past (replicate n false) k false (omega (arith, ge, length-replicate n false))
]

start : (s : SpecValue) (f : Bits) → Reached s f 0
start s f = record {
  number = 1;
  done = [];
  reads = λ more. refl;
  len = length-nothing s;
  same = λ k lt. absurd (omega (arith, lt));
  later = λ k ge. all_false (design_variables s) k;
  least = omega arith;
  no_vector = refl;
}

-- a design variable that is false has no line
skipped : (s : SpecValue) (f : Bits) (v : ℕ) → Reached s f v → f v ≡ false → items_text s f (suc v) ≡ items_text s f v ++ item_text s f v → Reached s f (suc v)
skipped s f v r is text =
    let none : item_text s f v ≡ [] = rw is refl in
    let shorter : items_text s f (suc v) ≡ items_text s f v = text ∙ ap (λ (t : List ℕ). items_text s f v ++ t) none ∙ append-nil (items_text s f v) in
    let design = (after s r.done).design in
    record {
      number = r.number;
      done = r.done;
      reads = λ more. ap (λ (t : List ℕ). run (result_rules s) 1 [] (pieces (t ++ more))) shorter ∙ r.reads more;
      len = r.len;
      same = λ k lt. elim (cases_lt k v) [
        | inl low ↦ r.same k low
        | inr ge ↦ let e : k ≡ v = omega (arith, lt, ge) in r.later k (omega (arith, e)) ∙ sym (ap f e ∙ is)
      ];
      later = λ k ge. r.later k (omega (arith, ge));
      least = omega (arith, r.least);
      no_vector = r.no_vector;
    }

-- the line of one that is true is taken
taken : (s : SpecValue) (f : Bits) (v : ℕ) → Reached s f v → f v ≡ true → v < design_variables s → items_text s f (suc v) ≡ items_text s f v ++ item_text s f v → IsReadAs s v (item_words s v)
    → Reached s f (suc v)
taken s f v r is lt text h =
    let ws = item_words s v in
    let p = spelled_of ws h.some_word h.words in
    let stated = after s r.done in
    let line : item_text s f v ≡ spelled ws = rw is refl in
    let done = r.done ++ line_at r.number (spelled ws) ∷ [] in
    let fine = line_fine s stated ws p (item_taken s stated ws v r.no_vector h r.least) in
    let state : after s done ≡ record stated { design = slice_set stated.design v true; least = v + 1 } = line_more s r.done r.number ws p ∙ item_state s stated ws v h in
    let design : (after s done).design ≡ slice_set stated.design v true = ap (λ (x : Stated). x.design) state in
    let here : v < length stated.design = omega (arith, lt, r.len) in
    record {
      number = r.number + 1;
      done = done;
      reads = λ more.
          ap (λ (t : List ℕ). run (result_rules s) 1 [] (pieces t)) (ap (λ (t : List ℕ). t ++ more) text ∙ append_assoc (items_text s f v) (item_text s f v) more)
          ∙ r.reads (item_text s f v ++ more)
          ∙ ap (λ (t : List ℕ). run (result_rules s) r.number r.done (pieces (t ++ more))) line
          ∙ sym (goes_on s r.number r.done stated (spelled ws) (pieces more) (pieces (spelled ws ++ more)) _ refl (p.first more) refl fine);
      len = ap (λ (x : Stated). length x.design) (line_more s r.done r.number ws p) ∙ length-with_line s stated ws ∙ r.len;
      same = λ k low. ap (λ (d : List Bool). get_or d k false) design ∙ elim (cases_lt k v) [
        | inl before ↦ get_or-set_other stated.design v k true false (λ e. absurd (omega (arith, e, before))) ∙ r.same k before
        | inr ge ↦ let e : k ≡ v = omega (arith, low, ge) in ap (λ (j : ℕ). get_or (slice_set stated.design v true) j false) e ∙ get_or-set_same stated.design v true false here ∙ sym (ap f e ∙ is)
      ];
      later = λ k ge. ap (λ (d : List Bool). get_or d k false) design ∙ get_or-set_other stated.design v k true false (λ e. absurd (omega (arith, e, ge))) ∙ r.later k (omega (arith, ge));
      least = omega (arith, ap (λ (x : Stated). x.least) state);
      no_vector = ap (λ (x : Stated). x.vector) state ∙ r.no_vector;
    }

reached : (s : SpecValue) → IsWellFormed s → HasNames s → (f : Bits) (v : ℕ) → v ≤ design_variables s → Reached s f v
reached s w h f zero le = start s f
reached s w h f (suc v) le =
    let r = reached s w h f v (omega (arith, le)) in
    let lt : v < design_variables s = omega (arith, le) in
    let text = flat-suc (item_text s f) v in
    elim (cases_Bool (f v)) [
      | inl t ↦ taken s f v r t lt text (item_read s w h v lt)
      | inr e ↦ skipped s f v r e text
    ]

-- ---- the line of the vector

vector_taken : (s : SpecValue) (stated : Stated) (numbers : List ℕ) → stated.vector ≡ None → IsVectorRead s numbers → first_broken (words_tests s stated (vector_words numbers)) ≡ None
vector_taken s stated numbers none r = rw (none, none_empty (vector_words numbers) r.words) r.tests

-- reading the whole text gives statements that state the design and the vector
pub record IsReread (s : SpecValue) (bytes : List ℕ) (e : EntryValue) : Type 0 where
  pub all : List Statement
  pub reads : run (result_rules s) 1 [] (pieces bytes) ≡ Ok all
  pub value : entry_of s all ≡ e

abbrev ok : List Statement → Reading
ok all = Ok all

abbrev entry : List Bool → List ℕ → EntryValue
entry design vector = record { design = design; vector = vector }

pub reread : (s : SpecValue) → IsWellFormed s → HasNames s → (design : List Bool) (numbers : List ℕ) → length design ≡ design_variables s → length numbers ≡ length s.objectives → AreSmall numbers
    → IsReread s (implementation_text s (bits_of design) numbers) (record { design = design; vector = numbers })
reread s w h design numbers bits one_each small =
    let n = design_variables s in
    let r = reached s w h (bits_of design) n (omega arith) in
    let vw = vector_words numbers in
    let v = vector_read s numbers one_each small in
    let p = spelled_of vw (omega arith) v.words in
    let stated = after s r.done in
    let all = r.done ++ line_at r.number (spelled vw) ∷ [] in
    let fine = line_fine s stated vw p (vector_taken s stated numbers r.no_vector v) in
    let state : after s all ≡ record stated { vector = Some numbers } = line_more s r.done r.number vw p ∙ ap (λ (ns : List ℕ). record stated { vector = Some ns }) v.back in
    let closed : (after s all).vector ≡ Some numbers = ap (λ (x : Stated). x.vector) state in
    let end : run (result_rules s) (r.number + 1) all [] ≡ ok all = run-nil (result_rules s) (r.number + 1) all ∙ rw closed refl in
    let step = goes_on s r.number r.done stated (spelled vw) (pieces []) (pieces (spelled vw ++ [])) _ refl (p.first []) refl fine in
    let same : stated.design ≡ design = same_lists stated.design design (r.len ∙ sym bits) (λ k d lt. get_or_default stated.design k d false lt ∙ r.same k (omega (arith, lt, r.len))
    ∙ sym (get_or_default design k d false (omega (arith, lt, r.len, bits)))) in
    record {
      all = all;
      reads =
          r.reads (spelled vw) ∙ ap (λ (t : List ℕ). run (result_rules s) r.number r.done (pieces t)) (sym (append-nil (spelled vw))) ∙ sym step
          ∙ ap (run (result_rules s) (r.number + 1) all) pieces-nil ∙ end;
      value = ap (λ (x : Stated). entry x.design (numbers_or_none x.vector)) state ∙ ap (λ (d : List Bool). entry d numbers) same;
    }
