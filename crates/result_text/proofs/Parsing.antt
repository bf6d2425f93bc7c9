-- The written lines are read as what they were written for.
use Rattle.std.proofs.Common.{◌≡◌, ℕ, ◌<◌, ◌^◌, false, List, [], ◌∷◌, length, map, Ok, None, refl, sym, ap, subst, ◌∙◌, arith, inl, inr, All}
use Rattle.std.specs.Prelude.{decimal}
use Rattle.std.specs.List.{list_any, list_all, AllByRecursion}
use Rattle.std.specs.Char.{is_ascii_digit}
use Rattle.std.proofs.lemmas.Bool.{lt-leb, lt-ltb, eq-eqb}
use Rattle.std.proofs.lemmas.List.{length-map}
use Rattle.std.proofs.lemmas.Fmt.{digits_decimal, decimal_nonempty}
use Rattle.line_words.specs.Numbers.{plain_whole_of}
use Rattle.line_words.specs.Rules.{Words, first_broken}
use Rattle.line_words.proofs.Digits.{own}
use Rattle.line_words.proofs.Plain.{plain_whole_of-decimal}
use Rattle.names.specs.Names.{IsName, number_by_name}
use Rattle.spec_model.specs.Spec.{SpecValue, Arc, Choice, Name, name_at, option_at, arc_at, arc_var, resource_var, link_var, design_variables, choice}
use Rattle.spec_model.specs.WellFormed.{IsWellFormed, AreDistinct}
use Rattle.result_text.specs.Spelling.{bind_words, use_words, alloc_words, wire_words, item_words, vector_words}
use Rattle.result_text.specs.Stating.{arc_number, bind_tests, use_tests, name_tests, item_tests, item_variable, vector_tests, is_vector, vector_numbers, no_number, too_big, number_in}
use Rattle.result_text.specs.Printed.{HasNames}
use Rattle.result_text.proofs.ItemWords.{kind_of, item_option, use_is, alloc_is, wire_is}
use Rattle.result_text.proofs.Numbering.{number_of_name, known_name, place_of_arc}
use Rattle.spelled_lines.specs.Lines.{is_word_byte, IsWord}
use Rattle.spelled_lines.proofs.Spelled.{AreWords}
pub use Rattle.spelled_lines.proofs.Decimals.{decimal_word}

-- ---- items

-- words that are read as a design variable
pub record IsReadAs (s : SpecValue) (v : ℕ) (ws : Words) : Type 0 where
  pub words : AreWords ws
  pub some_word : 0 < length ws
  pub item : is_vector ws ≡ false
  pub tests : first_broken (item_tests s ws) ≡ None
  pub variable : item_variable s ws ≡ v

-- a name is a word of a line
pub word_of : (name : Name) → IsName name → IsWord name
word_of name h = record { some = h.some; bytes = h.bytes }

name_in : (names : List Name) (i : ℕ) → All IsName names → i < length names → IsWord (name_at names i)
name_in names i h lt = word_of (name_at names i) (h i [] lt)

abbrev no_option : Choice
no_option = choice 0 0 0

abbrev no_arc : Arc
no_arc = record { link = 0; tail = 0; head = 0 }

bind_fine : (s : SpecValue) (t r n : List ℕ) (task resource o : ℕ) → plain_whole_of n ≡ Ok o → number_by_name s.tasks t ≡ task → number_by_name s.resources r ≡ resource → task < length s.tasks
    → resource < length s.resources
    → o < length s.options → (option_at s o).task ≡ task → (option_at s o).resource ≡ resource → (first_broken (bind_tests s t r n) ≡ None) × (number_in n ≡ o)
bind_fine s t r n task resource o number et er lt lr lo ot or = (
  rw (
    number,
    et,
    er,
    lt-ltb task (length s.tasks) lt,
    lt-ltb resource (length s.resources) lr,
    lt-leb (length s.options) o lo,
    ot,
    or,
    eq-eqb task task refl,
    eq-eqb resource resource refl,
  ) refl,
  rw number refl,
)

bind_read : (s : SpecValue) → IsWellFormed s → HasNames s → (o : ℕ) → o < length s.options → IsReadAs s o (bind_words s o)
bind_read s w h o lt =
    let is = w.plan.options_in o no_option lt in
    let small : o < 2 ^ 63 = omega (arith, lt, w.plan.few_options) in
    let task = (option_at s o).task in
    let resource = (option_at s o).resource in
    let fine = bind_fine s (name_at s.tasks task) (name_at s.resources resource) (decimal o) task resource o (plain_whole_of-decimal o small)
    (number_of_name s.tasks task w.plan.tasks_distinct is.task) (number_of_name s.resources resource w.plan.resources_distinct is.resource) is.task is.resource lt refl refl in
    record {
      words = (record { some = omega arith; bytes = refl }, (name_in s.tasks task h.tasks is.task, (name_in s.resources resource h.resources is.resource, (decimal_word o small, tt))));
      some_word = omega arith;
      item = refl;
      tests = fine.0;
      variable = fine.1;
    }

use_fine : (s : SpecValue) (m l p q : List ℕ) (message a : ℕ) → number_by_name s.message_names m ≡ message → message < length s.message_names
    → number_by_name s.links l < length s.links → number_by_name s.resources p < length s.resources → number_by_name s.resources q < length s.resources → arc_number s l p q ≡ a → a < length s.arcs
    → (first_broken (use_tests s m l p q) ≡ None) × (arc_var s (number_by_name s.message_names m) (arc_number s l p q) ≡ arc_var s message a)
use_fine s m l p q message a em lm ll lp lq ea la = (
  rw (
    em,
    lt-ltb message (length s.message_names) lm,
    lt-ltb (number_by_name s.links l) (length s.links) ll,
    lt-ltb (number_by_name s.resources p) (length s.resources) lp,
    lt-ltb (number_by_name s.resources q) (length s.resources) lq,
    ea,
    lt-leb (length s.arcs) a la,
  ) refl,
  rw (em, ea) refl,
)

use_read : (s : SpecValue) → IsWellFormed s → HasNames s → (m a : ℕ) → m < length s.messages → a < length s.arcs → IsReadAs s (arc_var s m a) (use_words s m a)
use_read s w h m a lm la =
    let is = w.plan.arcs_in a no_arc la in
    let arc = arc_at s a in
    let named : m < length s.message_names = omega (arith, lm, w.plan.named) in
    let link = number_of_name s.links arc.link w.plan.links_distinct is.link in
    let tail = number_of_name s.resources arc.tail w.plan.resources_distinct is.tail in
    let head = number_of_name s.resources arc.head w.plan.resources_distinct is.head in
    let place : arc_number s (name_at s.links arc.link) (name_at s.resources arc.tail) (name_at s.resources arc.head) ≡ a =
    rw (link, tail, head) (place_of_arc s.arcs a no_arc w.plan.arcs_distinct la) in
    let fine = use_fine s (name_at s.message_names m) (name_at s.links arc.link) (name_at s.resources arc.tail) (name_at s.resources arc.head) m a
    (number_of_name s.message_names m w.plan.messages_distinct named) named (omega (arith, link, is.link)) (omega (arith, tail, is.tail)) (omega (arith, head, is.head)) place la in
    record {
      words = (
        record { some = omega arith; bytes = refl },
        (
          name_in s.message_names m h.messages named,
          (name_in s.links arc.link h.links is.link, (name_in s.resources arc.tail h.resources is.tail, (name_in s.resources arc.head h.resources is.head, tt))),
        ),
      );
      some_word = omega arith;
      item = refl;
      tests = fine.0;
      variable = fine.1;
    }

name_fine : (names : List Name) (i : ℕ) → AreDistinct names → i < length names → first_broken (name_tests names (name_at names i)) ≡ None
name_fine names i distinct lt = rw (known_name names i distinct lt) refl

alloc_read : (s : SpecValue) → IsWellFormed s → HasNames s → (r : ℕ) → r < length s.resources → IsReadAs s (resource_var s r) (alloc_words s r)
alloc_read s w h r lt =
    record {
      words = (record { some = omega arith; bytes = refl }, (name_in s.resources r h.resources lt, tt));
      some_word = omega arith;
      item = refl;
      tests = name_fine s.resources r w.plan.resources_distinct lt;
      variable = ap (resource_var s) (number_of_name s.resources r w.plan.resources_distinct lt);
    }

wire_read : (s : SpecValue) → IsWellFormed s → HasNames s → (l : ℕ) → l < length s.links → IsReadAs s (link_var s l) (wire_words s l)
wire_read s w h l lt =
    record {
      words = (record { some = omega arith; bytes = refl }, (name_in s.links l h.links lt, tt));
      some_word = omega arith;
      item = refl;
      tests = name_fine s.links l w.plan.links_distinct lt;
      variable = ap (link_var s) (number_of_name s.links l w.plan.links_distinct lt);
    }

read_as : (s : SpecValue) (v u : ℕ) (ws us : Words) → v ≡ u → ws ≡ us → IsReadAs s u us → IsReadAs s v ws
read_as s v u ws us e f h = subst (λ (x : ℕ). IsReadAs s x ws) (sym e) (subst (IsReadAs s u) (sym f) h)

-- the line of a design variable is read as it
pub item_read : (s : SpecValue) → IsWellFormed s → HasNames s → (v : ℕ) → v < design_variables s → IsReadAs s v (item_words s v)
item_read s w h v lt =
    elim (kind_of s v lt) [
      | inl o ↦ read_as s v v (item_words s v) (bind_words s v) refl (item_option s v o) (bind_read s w h v o)
      | inr (inl u) ↦ read_as s v (arc_var s u.message u.arc) (item_words s v) (use_words s u.message u.arc) u.is.is (use_is s v u.message u.arc u.is)
          (use_read s w h u.message u.arc u.is.message u.is.arc)
      | inr (inr (inl r)) ↦ read_as s v (resource_var s r.resource) (item_words s v) (alloc_words s r.resource) r.is.is (alloc_is s v r.resource r.is) (alloc_read s w h r.resource r.is.there)
      | inr (inr (inr l)) ↦ read_as s v (link_var s l.link) (item_words s v) (wire_words s l.link) l.is.is (wire_is s v l.link l.is) (wire_read s w h l.link l.is.there)
    ]

-- ---- vectors

abbrev pub AreSmall : List ℕ → Type 0
AreSmall numbers = AllByRecursion (λ n. n < 2 ^ 63) numbers

decimals_named : (numbers : List ℕ) → AreSmall numbers → AreWords (map decimal numbers)
decimals_named [] h = tt
decimals_named (n ∷ more) h = (decimal_word n h.0, decimals_named more h.1)

are_numbers : (numbers : List ℕ) → AreSmall numbers → list_any no_number (map decimal numbers) ≡ false
are_numbers [] h = refl
are_numbers (n ∷ more) h = rw (plain_whole_of-decimal n h.0) (are_numbers more h.1)

none_big : (numbers : List ℕ) → AreSmall numbers → list_any too_big (map decimal numbers) ≡ false
none_big [] h = refl
none_big (n ∷ more) h = rw (plain_whole_of-decimal n h.0) (none_big more h.1)

numbers_back : (numbers : List ℕ) → AreSmall numbers → map number_in (map decimal numbers) ≡ numbers
numbers_back [] h = refl
numbers_back (n ∷ more) h = rw (plain_whole_of-decimal n h.0, numbers_back more h.1) refl

-- words that are read as a vector
pub record IsVectorRead (s : SpecValue) (numbers : List ℕ) : Type 0 where
  pub words : AreWords (vector_words numbers)
  pub tests : first_broken (vector_tests s (map decimal numbers)) ≡ None
  pub back : vector_numbers (vector_words numbers) ≡ numbers

pub vector_read : (s : SpecValue) (numbers : List ℕ) → length numbers ≡ length s.objectives → AreSmall numbers → IsVectorRead s numbers
vector_read s numbers len small =
    let count : length (map decimal numbers) ≡ length s.objectives = length-map numbers decimal ∙ len in
    record {
      words = (record { some = omega arith; bytes = refl }, decimals_named numbers small);
      tests = rw (count, eq-eqb (length s.objectives) (length s.objectives) refl, are_numbers numbers small, none_big numbers small) refl;
      back = numbers_back numbers small;
    }
