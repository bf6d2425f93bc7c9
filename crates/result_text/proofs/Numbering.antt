-- Names and numbers of one another.
use Rattle.std.proofs.Common.{◌≡◌, ℕ, ◌<◌, true, false, List, [], length, get_or, refl, sym, arith, inl, inr}
use Rattle.std.specs.Prelude.{◌&&◌, ◌==◌}
use Rattle.std.specs.List.{position_or_len}
use Rattle.std.specs.Str.{bytes_eq}
use Rattle.std.proofs.lemmas.Bool.{cases_Bool, lt-ltb, ltb-true, eqb-true, and_parts, eq-eqb}
use Rattle.std.proofs.lemmas.List.Sums.{position_or_len_is, passes_at_first}
use Rattle.std.proofs.lemmas.Slice.Eq.{bytes_eq-Decides}
use Rattle.names.specs.Names.{number_by_name}
use Rattle.spec_model.specs.Spec.{Name, Arc, name_at}
use Rattle.spec_model.specs.WellFormed.{AreDistinct, AreArcsDistinct}
use Rattle.result_text.specs.Stating.{is_name, is_arc_of}

-- the number of the name at a place
pub number_of_name : (names : List Name) (i : ℕ) → AreDistinct names → i < length names → number_by_name names (name_at names i) ≡ i
number_of_name names i distinct lt =
    position_or_len_is (bytes_eq (name_at names i)) names i [] (omega (arith, lt)) earlier (λ _. (bytes_eq-Decides (name_at names i) (name_at names i)).1 refl)
  where
    earlier : (k : ℕ) → k < i → bytes_eq (name_at names i) (get_or names k []) ≡ false
    earlier k low =
        elim (cases_Bool (bytes_eq (name_at names i) (get_or names k []))) [
          | inl t ↦ absurd (distinct k i [] low lt (sym ((bytes_eq-Decides (name_at names i) (get_or names k [])).0 t)))
          | inr f ↦ f
        ]

pub known_name : (names : List Name) (i : ℕ) → AreDistinct names → i < length names → is_name names (name_at names i) ≡ true
known_name names i distinct lt = lt-ltb (number_by_name names (name_at names i)) (length names) (omega (arith, lt, number_of_name names i distinct lt))

-- the name at the number of a word
pub name_of_number : (names : List Name) (word : List ℕ) → is_name names word ≡ true → name_at names (number_by_name names word) ≡ word
name_of_number names word t =
    let n = number_by_name names word in
    let lt : n < length names = ltb-true n (length names) t in
    sym ((bytes_eq-Decides word (get_or names n [])).0 (passes_at_first (bytes_eq word) names [] lt))

pub known_lt : (names : List Name) (word : List ℕ) → is_name names word ≡ true → number_by_name names word < length names
known_lt names word t = ltb-true (number_by_name names word) (length names) t

-- ---- arcs

pub is_arc_self : (arc : Arc) → is_arc_of arc.link arc.tail arc.head arc ≡ true
is_arc_self arc = rw (eq-eqb arc.link arc.link refl, eq-eqb arc.tail arc.tail refl, eq-eqb arc.head arc.head refl) refl

-- an arc that passes is of the link, and goes from the one resource to the other
pub record IsArc (l p q : ℕ) (arc : Arc) : Type 0 where
  pub link : arc.link ≡ l
  pub tail : arc.tail ≡ p
  pub head : arc.head ≡ q

pub arc_passes : (l p q : ℕ) (arc : Arc) → is_arc_of l p q arc ≡ true → IsArc l p q arc
arc_passes l p q arc t =
    let first = and_parts ((arc.link == l) && (arc.tail == p)) (arc.head == q) t in
    let two = and_parts (arc.link == l) (arc.tail == p) first.0 in
    record { link = eqb-true arc.link l two.0; tail = eqb-true arc.tail p two.1; head = eqb-true arc.head q first.1 }

-- the place of the arc at a place
pub place_of_arc : (arcs : List Arc) (a : ℕ) (d : Arc) → AreArcsDistinct arcs → a < length arcs → position_or_len (is_arc_of (get_or arcs a d).link (get_or arcs a d).tail (get_or arcs a d).head)
    arcs ≡ a
place_of_arc arcs a d distinct lt =
    position_or_len_is (is_arc_of arc.link arc.tail arc.head) arcs a d (omega (arith, lt)) earlier (λ _. is_arc_self arc)
  where
    arc : Arc
    arc = get_or arcs a d

    earlier : (k : ℕ) → k < a → is_arc_of arc.link arc.tail arc.head (get_or arcs k d) ≡ false
    earlier k low =
        elim (cases_Bool (is_arc_of arc.link arc.tail arc.head (get_or arcs k d))) [
          | inl t ↦ let is = arc_passes arc.link arc.tail arc.head (get_or arcs k d) t in absurd (distinct k a d low lt is.link is.tail)
          | inr f ↦ f
        ]
