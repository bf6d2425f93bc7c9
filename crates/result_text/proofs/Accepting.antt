-- A text that breaks no rule is the text of the design and the vector that it states.
use Rattle.std.proofs.Common.{◌≡◌, ℕ, zero, suc, ◌+◌, ◌-◌, ◌<◌, ◌≤◌, Bool, true, false, ltb, List, [], ◌∷◌, ◌++◌, length, get_or, map, Option, Some, None, Ok, refl, sym, ap, subst, ◌∙◌, arith, inl, inr}
use Rattle.std.specs.Prelude.{codes, decimal, slice_set, ◌||◌, is_some, is_none, if◌then◌else◌}
use Rattle.std.specs.List.{list_any}
use Rattle.std.proofs.lemmas.Bool.{cases_Bool, ltb-false, or_parts}
use Rattle.std.proofs.lemmas.List.{append-nil, length-map, get_or-set_same, get_or-set_other, length-set}
use Rattle.std.proofs.lemmas.Slice.Eq.{bytes_eq-Decides}
use Rattle.line_words.specs.Rules.{Words, Test, Statement, first_broken}
use Rattle.line_words.specs.Run.{run}
use Rattle.line_words.specs.declared.refusals.Why.TheVariants.{BadByte, BadStatement, NotInOrder, Unclosed}
use Rattle.spec_model.specs.Spec.{SpecValue, Bits, bits_of, design_variables}
use Rattle.spec_model.specs.WellFormed.{IsWellFormed}
use Rattle.spec_model.proofs.Pieces.{flat-suc}
use Rattle.spec_model.proofs.Those.{flat_map-below_more}
use Rattle.spelled_lines.specs.Lines.{spelled, pieces, is_bad, lacks_lf, words_of, is_empty}
use Rattle.result_text.specs.Spelling.{item_words, item_text, items_text, vector_words}
use Rattle.result_text.specs.Lines.{piece_tests}
use Rattle.result_text.specs.Stating.{item_tests, item_variable, vector_tests, is_vector, later_words, vector_numbers, number_in}
use Rattle.result_text.specs.Statements.{Stated, nothing, with_line, words_tests, result_rules}
use Rattle.spelled_lines.proofs.Ended.{ended_spelled}
use Rattle.spelled_lines.proofs.Over.{IsKept, whole}
use Rattle.result_text.proofs.Going.{tests_of, after, line_at, with_lines-push, length-nothing}
use Rattle.result_text.proofs.Parsing.{AreSmall}
use Rattle.result_text.proofs.Reread.{all_false}
use Rattle.result_text.proofs.Rewriting.{cons_same, none_of, none_last, none_first, item_back, vector_back}

-- ---- the text of a design, once a variable more is true

same_below : (s : SpecValue) (f g : Bits) (n : ℕ) → ((k : ℕ) → k < n → f k ≡ g k) → items_text s f n ≡ items_text s g n
same_below s f g zero h = refl
same_below s f g (suc n) h =
    let here : item_text s f n ≡ item_text s g n = ap (λ (b : Bool). if b then spelled (item_words s n) else []) (h n (omega arith)) in
    flat-suc (item_text s f) n
    ∙ ap (λ (t : List ℕ). t ++ item_text s f n) (same_below s f g n (λ k lt. h k (omega (arith, lt))))
    ∙ ap (λ (t : List ℕ). items_text s g n ++ t) here ∙ sym (flat-suc (item_text s g) n)

-- variables that are false have no lines
none_between : (s : SpecValue) (f : Bits) (low d : ℕ) → ((k : ℕ) → low ≤ k → k < low + d → f k ≡ false) → items_text s f (low + d) ≡ items_text s f low
none_between s f low zero h = ap (items_text s f) (omega arith)
none_between s f low (suc d) h =
    let none : item_text s f (low + d) ≡ [] = ap (λ (b : Bool). if b then spelled (item_words s (low + d)) else []) (h (low + d) (omega arith) (omega arith)) in
    ap (items_text s f) (omega arith) ∙ flat_map-below_more (item_text s f) (low + d)
    ∙ ap (λ (t : List ℕ). items_text s f (low + d) ++ t) none ∙ append-nil (items_text s f (low + d))
    ∙ none_between s f low d (λ k ge lt. h k ge (omega (arith, lt)))

pub none_from : (s : SpecValue) (f : Bits) (low high : ℕ) → low ≤ high → ((k : ℕ) → low ≤ k → k < high → f k ≡ false) → items_text s f high ≡ items_text s f low
none_from s f low high le h =
    let e : low + (high - low) ≡ high = omega (arith, le) in
    sym (ap (items_text s f) e) ∙ none_between s f low (high - low) (λ k ge lt. h k ge (omega (arith, lt, e)))

one_more : (s : SpecValue) (design : List Bool) (low v : ℕ) → low ≤ v → v < length design → ((k : ℕ) → low ≤ k → get_or design k false ≡ false)
    → items_text s (bits_of (slice_set design v true)) (v + 1) ≡ items_text s (bits_of design) low ++ spelled (item_words s v)
one_more s design low v le lt later =
    let f = bits_of design in
    let g = bits_of (slice_set design v true) in
    let other : (k : ℕ) → k < v → g k ≡ f k = λ k below. get_or-set_other design v k true false (λ e. absurd (omega (arith, e, below))) in
    let here : item_text s g v ≡ spelled (item_words s v) = ap (λ (b : Bool). if b then spelled (item_words s v) else []) (get_or-set_same design v true false lt) in
    flat_map-below_more (item_text s g) v
    ∙ ap (λ (t : List ℕ). t ++ item_text s g v) (same_below s g f v other ∙ none_from s f low v le (λ k ge below. later k ge))
    ∙ ap (λ (t : List ℕ). items_text s f low ++ t) here

-- ---- a line that breaks no rule

-- a piece that breaks no rule has no bad byte and its LF, and what follows in the tests passes too
pub record IsFine (piece : List ℕ) (tests : List Test) : Type 0 where
  pub good : list_any is_bad piece ≡ false
  pub ended : lacks_lf piece ≡ false
  pub later : first_broken tests ≡ None

pub fine_alone : (piece : List ℕ) (later : List Test) → first_broken (piece_tests piece ++ later) ≡ None → IsFine piece later
fine_alone piece later e =
    let first = none_of (BadByte, list_any is_bad piece) ((BadStatement, lacks_lf piece) ∷ later) e in
    let second = none_of (BadStatement, lacks_lf piece) later first.1 in
    record { good = first.0; ended = second.0; later = second.1 }

-- ---- what the lines so far state, and their text

-- what is written of a vector that was read or not
abbrev pub vector_text : Option (List ℕ) → List ℕ
vector_text None = []
vector_text (Some numbers) = spelled (vector_words numbers)

-- a vector that was read has a number below 2 ^ 63 for each objective
abbrev pub IsVectorIn : SpecValue → Option (List ℕ) → Type 0
IsVectorIn s None = Unit {0}
IsVectorIn s (Some numbers) = (length numbers ≡ length s.objectives) × AreSmall numbers

pub record IsSpelt (s : SpecValue) (stated : Stated) (text : List ℕ) : Type 0 where
  pub len : length stated.design ≡ design_variables s
  pub low : stated.least ≤ design_variables s
  pub later : (k : ℕ) → stated.least ≤ k → get_or stated.design k false ≡ false
  pub is : text ≡ items_text s (bits_of stated.design) stated.least ++ vector_text stated.vector
  pub vector : IsVectorIn s stated.vector

pub start : (s : SpecValue) → IsSpelt s (nothing s) []
start s = record { len = length-nothing s; low = omega arith; later = λ k ge. all_false (design_variables s) k; is = refl; vector = tt }

is_none_of : (vector : Option (List ℕ)) → is_some vector ≡ false → vector ≡ None
is_none_of None e = refl
is_none_of (Some v) e = absurd (let c : true ≡ false = e in cc)

-- the words of a vector's line
vector_line : (s : SpecValue) (ws : Words) → is_vector ws ≡ true → first_broken (vector_tests s (later_words ws)) ≡ None → (ws ≡ vector_words (vector_numbers ws))
    × IsVectorIn s (Some (vector_numbers ws))
vector_line s [] t e = absurd (let c : false ≡ true = t in cc)
vector_line s (k ∷ ws) t e =
    let b = vector_back s ws e in
    (cons_same k (codes "vector") ws (map decimal (map number_in ws)) ((bytes_eq-Decides k (codes "vector")).0 t) b.numerals.words, (length-map ws number_in ∙ b.one_each, b.numerals.small))

-- a line more
pub spelt_more : (s : SpecValue) → IsWellFormed s → (stated : Stated) (text piece : List ℕ) → IsSpelt s stated text → first_broken (tests_of s stated piece) ≡ None → piece ≡ spelled (words_of piece)
    → IsSpelt s (with_line s stated (words_of piece)) (text ++ piece)
spelt_more s w stated text piece h fine spell =
    let ws = words_of piece in
    let words_fine = none_last (piece_tests piece) (words_tests s stated ws) fine in
    let rest : List Test = if is_vector ws then vector_tests s (later_words ws) else (item_tests s ws ++ (NotInOrder, ltb (item_variable s ws) stated.least) ∷ []) in
    let head = none_of (BadStatement, is_some stated.vector || list_any is_empty ws) rest words_fine in
    let no_vector : stated.vector ≡ None = is_none_of stated.vector (or_parts (is_some stated.vector) (list_any is_empty ws) head.0).0 in
    let now : text ≡ items_text s (bits_of stated.design) stated.least = h.is ∙ ap (λ (v : Option (List ℕ)). items_text s (bits_of stated.design) stated.least ++ vector_text v) no_vector
    ∙ append-nil (items_text s (bits_of stated.design) stated.least) in
    elim (cases_Bool (is_vector ws)) [
      | inl t ↦
          let tests : rest ≡ vector_tests s (later_words ws) = rw t refl in
          let line = vector_line s ws t (sym (ap first_broken tests) ∙ head.1) in
          let next : with_line s stated ws ≡ record stated { vector = Some (vector_numbers ws) } = rw t refl in
          let written : text ++ piece ≡ items_text s (bits_of stated.design) stated.least ++ spelled (vector_words (vector_numbers ws)) =
          ap (λ (x : List ℕ). x ++ piece) now ∙ ap (λ (x : List ℕ). items_text s (bits_of stated.design) stated.least ++ x) (spell ∙ ap spelled line.0) in
          subst (λ (x : Stated). IsSpelt s x (text ++ piece)) (sym next) (record { len = h.len; low = h.low; later = h.later; is = written; vector = line.1 })
      | inr f ↦
          let tests : rest ≡ item_tests s ws ++ (NotInOrder, ltb (item_variable s ws) stated.least) ∷ [] = rw f refl in
          let passed = sym (ap first_broken tests) ∙ head.1 in
          let v = item_variable s ws in
          let item = item_back s w ws (none_first (item_tests s ws) ((NotInOrder, ltb v stated.least) ∷ []) passed) in
          let late = none_of (NotInOrder, ltb v stated.least) [] (none_last (item_tests s ws) ((NotInOrder, ltb v stated.least) ∷ []) passed) in
          let from : stated.least ≤ v = ltb-false v stated.least late.0 in
          let next : with_line s stated ws ≡ record stated { design = slice_set stated.design v true; least = v + 1 } = rw f refl in
          let here : v < length stated.design = omega (arith, item.there, h.len) in
          let grown = one_more s stated.design stated.least v from here h.later in
          let items = items_text s (bits_of (slice_set stated.design v true)) (v + 1) in
          let written : text ++ piece ≡ items ++ vector_text stated.vector =
          ap (λ (x : List ℕ). x ++ piece) now ∙ ap (λ (x : List ℕ). items_text s (bits_of stated.design) stated.least ++ x) (spell ∙ ap spelled item.words)
          ∙ sym grown ∙ sym (append-nil items) ∙ ap (λ (x : Option (List ℕ)). items ++ vector_text x) (sym no_vector) in
          subst (λ (x : Stated). IsSpelt s x (text ++ piece)) (sym next) (record {
            len = length-set stated.design v true ∙ h.len;
            low = omega (arith, item.there);
            later = λ k ge. get_or-set_other stated.design v k true false (λ e. absurd (omega (arith, e, ge))) ∙ h.later k (omega (arith, ge, from));
            is = written;
            vector = h.vector;
          })
    ]

-- ---- the whole text

-- what lines that break no rule state is spelled by them
spelt_kept : (s : SpecValue) → IsWellFormed s → IsKept (result_rules s) (λ done text. IsSpelt s (after s done) text)
spelt_kept s w = record {
  start = start s;
  more = λ done text piece number h fine ended.
      subst (λ (x : Stated). IsSpelt s x (text ++ piece)) (sym (with_lines-push s (nothing s) done (line_at number piece)))
      (spelt_more s w (after s done) text piece h fine (ended_spelled piece ended));
  ended = λ done piece lacks fine. absurd (let c : true ≡ false = sym lacks ∙ (fine_alone piece (words_tests s (after s done) (words_of piece)) fine).ended in cc);
}

-- the statements of a text are its lines, and the last one is the vector's
pub record IsWholeText (s : SpecValue) (all : List Statement) (text : List ℕ) : Type 0 where
  pub spelt : IsSpelt s (after s all) text
  pub closed : is_none (after s all).vector ≡ false

pub whole_text : (s : SpecValue) → IsWellFormed s → (bytes : List ℕ) (all : List Statement) → run (result_rules s) 1 [] (pieces bytes) ≡ Ok all → IsWholeText s all bytes
whole_text s w bytes all e =
    let h = whole (result_rules s) (λ done text. IsSpelt s (after s done) text) (spelt_kept s w) bytes all e in
    record { spelt = h.kept; closed = (none_of (Unclosed, is_none (after s all).vector) [] h.closed).0 }
