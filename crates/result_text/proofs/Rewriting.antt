-- A line that breaks no rule is the written line of what it states.
use Rattle.std.proofs.Common.{◌≡◌, ℕ, ◌<◌, true, false, not, leb, List, [], ◌∷◌, ◌++◌, length, map, None, Result, Ok, Err, refl, sym, ap, ◌∙◌, arith, inl, inr}
use Rattle.std.specs.Prelude.{codes, decimal, ◌||◌, ◌==◌}
use Rattle.std.specs.List.{list_any}
use Rattle.std.specs.Str.{bytes_eq}
use Rattle.std.proofs.lemmas.Bool.{cases_Bool, leb-false, eqb-true, and_parts, or_parts, not-false}
use Rattle.std.proofs.lemmas.Nat.{mul-add-lt}
use Rattle.std.proofs.lemmas.List.Sums.{passes_at_first}
use Rattle.std.proofs.lemmas.Slice.Eq.{bytes_eq-Decides}
use Rattle.line_words.specs.Numbers.{plain_whole_of}
use Rattle.line_words.specs.Rules.{Words, Test, first_broken}
use Rattle.line_words.specs.declared.numbers.NumberFault.{NumberFault}
use Rattle.line_words.specs.declared.numbers.NumberFault.TheVariants.{BadNumber, TooBig}
use Rattle.line_words.specs.declared.refusals.Why.TheVariants as whys
use Rattle.line_words.proofs.Plain.{decimal_when_read}
use Rattle.line_words.proofs.Whys.{some, none}
use Rattle.names.specs.Names.{number_by_name}
use Rattle.spec_model.specs.Spec.{SpecValue, Arc, name_at, option_at, arc_at, arc_var, resource_var, link_var, design_variables}
use Rattle.spec_model.specs.WellFormed.{IsWellFormed}
use Rattle.result_text.specs.Spelling.{item_words}
use Rattle.result_text.specs.Stating.{is_no_number, is_too_big, is_past, number_given, is_name, is_option_of, is_arc_of, arc_number, bind_tests, use_tests, name_tests, misshapen, item_tests, item_variable, vector_tests, no_number, too_big, number_in}
use Rattle.result_text.proofs.ItemWords.{item_option, item_arc, item_resource, item_link}
use Rattle.result_text.proofs.Numbering.{name_of_number, known_lt, arc_passes}
use Rattle.result_text.proofs.Parsing.{AreSmall}

-- ---- tests that all pass

pub none_of : (t : Test) (ts : List Test) → first_broken (t ∷ ts) ≡ None → (t.1 ≡ false) × (first_broken ts ≡ None)
none_of t ts e =
    elim (cases_Bool t.1) [
      | inl holds ↦ absurd (let here : first_broken (t ∷ ts) ≡ some t.0 = rw holds refl in let c : some t.0 ≡ none = sym here ∙ e in cc)
      | inr fine ↦ let later : first_broken (t ∷ ts) ≡ first_broken ts = rw fine refl in (fine, sym later ∙ e)
    ]

pub none_last : (xs ys : List Test) → first_broken (xs ++ ys) ≡ None → first_broken ys ≡ None
none_last [] ys e = e
none_last (x ∷ xs) ys e = none_last xs ys (none_of x (xs ++ ys) e).1

pub none_first : (xs ys : List Test) → first_broken (xs ++ ys) ≡ None → first_broken xs ≡ None
none_first [] ys e = refl
none_first (x ∷ xs) ys e = let p = none_of x (xs ++ ys) e in rw p.0 (none_first xs ys p.1)

pub cons_same : (x y : List ℕ) (xs ys : Words) → x ≡ y → xs ≡ ys → x ∷ xs ≡ y ∷ ys
cons_same x y xs ys a b = cc

pub misshapen_not : first_broken misshapen ≡ None → ⊥
misshapen_not e = let c : some whys.BadStatement ≡ none = e in cc

abbrev ok : ℕ → Result ℕ NumberFault
ok n = Ok n

number_ok : (m : Result ℕ NumberFault) → is_no_number m ≡ false → is_too_big m ≡ false → m ≡ ok (number_given m)
number_ok (Ok n) a b = refl
number_ok (Err BadNumber) a b = absurd (let c : true ≡ false = a in cc)
number_ok (Err TooBig) a b = absurd (let c : true ≡ false = b in cc)

-- ---- items

-- words that are those of their design variable
pub record IsItemOf (s : SpecValue) (ws : Words) (v : ℕ) : Type 0 where
  pub there : v < design_variables s
  pub words : ws ≡ item_words s v

bind_back : (s : SpecValue) (t r n : List ℕ) → first_broken (bind_tests s t r n) ≡ None → IsItemOf s (codes "bind" ∷ t ∷ r ∷ n ∷ []) (number_given (plain_whole_of n))
bind_back s t r n e =
    let m = plain_whole_of n in
    let o = number_given m in
    let known_t = not (is_name s.tasks t) in
    let known_r = not (is_name s.resources r) in
    let past = is_past (length s.options) m in
    let a = none_of (whys.BadNumber, is_no_number m) ((whys.UnknownName, known_t || known_r || past) ∷ (whys.TooBig, is_too_big m)
    ∷ (whys.WrongBinding, not (is_option_of s (number_by_name s.tasks t) (number_by_name s.resources r) o)) ∷ []) e in
    let b = none_of (whys.UnknownName, known_t || known_r || past) ((whys.TooBig, is_too_big m) ∷ (
      whys.WrongBinding,
      not (is_option_of s (number_by_name s.tasks t) (number_by_name s.resources r) o),
    ) ∷ [])
    a.1 in
    let d = none_of (whys.TooBig, is_too_big m) ((whys.WrongBinding, not (is_option_of s (number_by_name s.tasks t) (number_by_name s.resources r) o)) ∷ []) b.1 in
    let w = none_of (whys.WrongBinding, not (is_option_of s (number_by_name s.tasks t) (number_by_name s.resources r) o)) [] d.1 in
    let outer = or_parts (known_t || known_r) past b.0 in
    let inner = or_parts known_t known_r outer.0 in
    let number : m ≡ ok o = number_ok m a.0 d.0 in
    let text = decimal_when_read n o number in
    let within : leb (length s.options) o ≡ false = sym (ap (is_past (length s.options)) number) ∙ outer.1 in
    let lt : o < length s.options = leb-false (length s.options) o within in
    let option = and_parts ((option_at s o).task == number_by_name s.tasks t) ((option_at s o).resource == number_by_name s.resources r) (not-false _ w.0) in
    let task : name_at s.tasks (option_at s o).task ≡ t = ap (name_at s.tasks) (eqb-true (option_at s o).task (number_by_name s.tasks t) option.0) ∙ name_of_number s.tasks t (not-false _ inner.0) in
    let resource : name_at s.resources (option_at s o).resource ≡ r = ap (name_at s.resources) (eqb-true (option_at s o).resource (number_by_name s.resources r) option.1)
    ∙ name_of_number s.resources r (not-false _ inner.1) in
    record {
      there = omega (arith, lt);
      words = sym (item_option s o lt ∙ rw (task, resource, ← text.0) refl);
    }

abbrev no_arc : Arc
no_arc = record { link = 0; tail = 0; head = 0 }

use_back : (s : SpecValue) → IsWellFormed s → (m l p q : List ℕ) → first_broken (use_tests s m l p q) ≡ None
    → IsItemOf s (codes "use" ∷ m ∷ l ∷ p ∷ q ∷ []) (arc_var s (number_by_name s.message_names m) (arc_number s l p q))
use_back s w m l p q e =
    let known_m = not (is_name s.message_names m) in
    let known_l = not (is_name s.links l) in
    let known_p = not (is_name s.resources p) in
    let known_q = not (is_name s.resources q) in
    let message = number_by_name s.message_names m in
    let a = arc_number s l p q in
    let x = none_of (whys.UnknownName, known_m || known_l || known_p || known_q) ((whys.WrongBinding, leb (length s.arcs) a) ∷ []) e in
    let y = none_of (whys.WrongBinding, leb (length s.arcs) a) [] x.1 in
    let three = or_parts (known_m || known_l || known_p) known_q x.0 in
    let two = or_parts (known_m || known_l) known_p three.0 in
    let one = or_parts known_m known_l two.0 in
    let lt : a < length s.arcs = leb-false (length s.arcs) a y.0 in
    let there : message < length s.messages = omega (arith, known_lt s.message_names m (not-false _ one.0), w.plan.named) in
    let is = arc_passes (number_by_name s.links l) (number_by_name s.resources p) (number_by_name s.resources q) (arc_at s a)
    (passes_at_first (is_arc_of (number_by_name s.links l) (number_by_name s.resources p) (number_by_name s.resources q)) s.arcs no_arc lt) in
    let link : name_at s.links (arc_at s a).link ≡ l = ap (name_at s.links) is.link ∙ name_of_number s.links l (not-false _ one.1) in
    let tail : name_at s.resources (arc_at s a).tail ≡ p = ap (name_at s.resources) is.tail ∙ name_of_number s.resources p (not-false _ two.1) in
    let head : name_at s.resources (arc_at s a).head ≡ q = ap (name_at s.resources) is.head ∙ name_of_number s.resources q (not-false _ three.1) in
    let name : name_at s.message_names message ≡ m = name_of_number s.message_names m (not-false _ one.0) in
    let inside = mul-add-lt message (length s.arcs) a (length s.messages) there lt in
    record {
      there = omega (arith, inside);
      words = sym (item_arc s message a there lt ∙ rw (name, link, tail, head) refl);
    }

alloc_back : (s : SpecValue) (r : List ℕ) → first_broken (name_tests s.resources r) ≡ None → IsItemOf s (codes "alloc" ∷ r ∷ []) (resource_var s (number_by_name s.resources r))
alloc_back s r e =
    let x = none_of (whys.UnknownName, not (is_name s.resources r)) [] e in
    let known = not-false _ x.0 in
    let lt = known_lt s.resources r known in
    record {
      there = omega (arith, lt);
      words = sym (item_resource s (number_by_name s.resources r) lt ∙ rw (name_of_number s.resources r known) refl);
    }

wire_back : (s : SpecValue) (l : List ℕ) → first_broken (name_tests s.links l) ≡ None → IsItemOf s (codes "wire" ∷ l ∷ []) (link_var s (number_by_name s.links l))
wire_back s l e =
    let x = none_of (whys.UnknownName, not (is_name s.links l)) [] e in
    let known = not-false _ x.0 in
    let lt = known_lt s.links l known in
    record {
      there = omega (arith, lt);
      words = sym (item_link s (number_by_name s.links l) lt ∙ rw (name_of_number s.links l known) refl);
    }

item_by : (s : SpecValue) (ws us : Words) (v u : ℕ) → ws ≡ us → v ≡ u → IsItemOf s us u → IsItemOf s ws v
item_by s ws us v u e f h = record { there = omega (arith, f, h.there); words = e ∙ h.words ∙ ap (item_words s) (sym f) }

pub item_back : (s : SpecValue) → IsWellFormed s → (ws : Words) → first_broken (item_tests s ws) ≡ None → IsItemOf s ws (item_variable s ws)
item_back s w [] e = absurd (misshapen_not e)
item_back s w (k ∷ []) e = absurd (misshapen_not e)
item_back s w (k ∷ a ∷ []) e =
    elim (cases_Bool (bytes_eq k (codes "alloc"))) [
      | inl t ↦
          let tests : item_tests s (k ∷ a ∷ []) ≡ name_tests s.resources a = rw t refl in
          let variable : item_variable s (k ∷ a ∷ []) ≡ resource_var s (number_by_name s.resources a) = rw t refl in
          item_by s (k ∷ a ∷ []) (codes "alloc" ∷ a ∷ []) _ _ (cons_same k (codes "alloc") (a ∷ []) (a ∷ []) ((bytes_eq-Decides k (codes "alloc")).0 t) refl) variable
          (alloc_back s a (sym (ap first_broken tests) ∙ e))
      | inr f ↦ elim (cases_Bool (bytes_eq k (codes "wire"))) [
        | inl t ↦
            let tests : item_tests s (k ∷ a ∷ []) ≡ name_tests s.links a = rw (f, t) refl in
            let variable : item_variable s (k ∷ a ∷ []) ≡ link_var s (number_by_name s.links a) = rw f refl in
            item_by s (k ∷ a ∷ []) (codes "wire" ∷ a ∷ []) _ _ (cons_same k (codes "wire") (a ∷ []) (a ∷ []) ((bytes_eq-Decides k (codes "wire")).0 t) refl) variable
            (wire_back s a (sym (ap first_broken tests) ∙ e))
        | inr g ↦ absurd (let tests : item_tests s (k ∷ a ∷ []) ≡ misshapen = rw (f, g) refl in misshapen_not (sym (ap first_broken tests) ∙ e))
      ]
    ]
item_back s w (k ∷ a ∷ b ∷ []) e = absurd (misshapen_not e)
item_back s w (k ∷ a ∷ b ∷ c ∷ []) e =
    elim (cases_Bool (bytes_eq k (codes "bind"))) [
      | inl t ↦
          let tests : item_tests s (k ∷ a ∷ b ∷ c ∷ []) ≡ bind_tests s a b c = rw t refl in
          item_by s (k ∷ a ∷ b ∷ c ∷ []) (codes "bind" ∷ a ∷ b ∷ c ∷ []) _ _ (cons_same k (codes "bind") (a ∷ b ∷ c ∷ []) (a ∷ b ∷ c ∷ []) ((bytes_eq-Decides k (codes "bind")).0 t) refl) refl
          (bind_back s a b c (sym (ap first_broken tests) ∙ e))
      | inr f ↦ absurd (let tests : item_tests s (k ∷ a ∷ b ∷ c ∷ []) ≡ misshapen = rw f refl in misshapen_not (sym (ap first_broken tests) ∙ e))
    ]
item_back s w (k ∷ a ∷ b ∷ c ∷ d ∷ []) e =
    elim (cases_Bool (bytes_eq k (codes "use"))) [
      | inl t ↦
          let tests : item_tests s (k ∷ a ∷ b ∷ c ∷ d ∷ []) ≡ use_tests s a b c d = rw t refl in
          item_by s (k ∷ a ∷ b ∷ c ∷ d ∷ []) (codes "use" ∷ a ∷ b ∷ c ∷ d ∷ []) _ _
          (cons_same k (codes "use") (a ∷ b ∷ c ∷ d ∷ []) (a ∷ b ∷ c ∷ d ∷ []) ((bytes_eq-Decides k (codes "use")).0 t) refl) refl
          (use_back s w a b c d (sym (ap first_broken tests) ∙ e))
      | inr f ↦ absurd (let tests : item_tests s (k ∷ a ∷ b ∷ c ∷ d ∷ []) ≡ misshapen = rw f refl in misshapen_not (sym (ap first_broken tests) ∙ e))
    ]
item_back s w (k ∷ a ∷ b ∷ c ∷ d ∷ x ∷ more) e = absurd (misshapen_not e)

-- ---- vectors

-- words that are numbers
pub record AreNumerals (ws : Words) : Type 0 where
  pub words : ws ≡ map decimal (map number_in ws)
  pub small : AreSmall (map number_in ws)

pub numerals : (ws : Words) → list_any no_number ws ≡ false → list_any too_big ws ≡ false → AreNumerals ws
numerals [] a b = record { words = refl; small = tt }
numerals (w ∷ ws) a b =
    let p = or_parts (no_number w) (list_any no_number ws) a in
    let q = or_parts (too_big w) (list_any too_big ws) b in
    let one = decimal_when_read w (number_in w) (number_ok (plain_whole_of w) p.0 q.0) in
    let rest = numerals ws p.1 q.1 in
    record { words = cons_same w (decimal (number_in w)) ws (map decimal (map number_in ws)) one.0 rest.words; small = (one.1, rest.small) }

-- words after `vector` that break no rule
pub record IsVectorLine (s : SpecValue) (ws : Words) : Type 0 where
  pub one_each : length ws ≡ length s.objectives
  pub numerals : AreNumerals ws

pub vector_back : (s : SpecValue) (ws : Words) → first_broken (vector_tests s ws) ≡ None → IsVectorLine s ws
vector_back s ws e =
    let x = none_of (whys.BadStatement, not (length ws == length s.objectives)) ((whys.BadNumber, list_any no_number ws) ∷ (whys.TooBig, list_any too_big ws) ∷ []) e in
    let y = none_of (whys.BadNumber, list_any no_number ws) ((whys.TooBig, list_any too_big ws) ∷ []) x.1 in
    let z = none_of (whys.TooBig, list_any too_big ws) [] y.1 in
    record { one_each = eqb-true (length ws) (length s.objectives) (not-false _ x.0); numerals = numerals ws y.0 z.0 }
