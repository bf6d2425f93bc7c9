-- Rows that are found by their type.
use Rattle.std.proofs.Common.{◌≡◌, ◌≢◌, ℕ, zero, suc, ◌+◌, ◌^◌, ◌<◌, ◌≤◌, inl, inr, true, false, ltb, List, [], ◌∷◌, length, get_or, Result, Ok, Err, ap, subst, ◌∙◌, arith, All, Contains}
use Rattle.std.specs.List.Sorted.{IsPermutation, IsNonDecreasingBy, IsPartitionPoint}
use Rattle.std.proofs.lemmas.Bool.{cases_lt, eqb-true, false≢true, false_from_ne_true, ltb-true, ltb-false}
use Rattle.std.proofs.lemmas.List.{get_or_default}
use Rattle.std.proofs.lemmas.List.Elements.{All-nil, All-append, All-cons, Contains-append_left, Contains-append_right}
use Rattle.std.proofs.lemmas.List.Sorted.{All-permutation, Contains-permutation}
use Rattle.line_words.specs.Numbers.{whole_of}
use Rattle.line_words.specs.declared.numbers.NumberFault.{NumberFault}
use Rattle.tgff_reader.specs.Words.{first}
use Rattle.tgff_reader.specs.Rows.{is_number, is_of_kind, row_in, IsFirstIn, HasNoneIn, number_in, kind_in, entry_of, kinds_from, order_of, IsKind, AreKinds}
use Rattle.tgff_reader.specs.declared.file.Row.{Row}
use Rattle.tgff_reader.specs.declared.rows.RowKind.{RowKind}

abbrev pub entry : ℕ → ℕ → RowKind
entry kind place = record { kind = kind; place = place }

-- ---- the entries of rows, one by one

-- ---- they are right, in whatever order

one_sound : (P : RowKind → Type 0) (place : ℕ) (number : Result ℕ NumberFault) → ((kind : ℕ) → is_number kind number ≡ true → P (entry kind place)) → All P (entry_of place (number_in number))
one_sound P place (Ok n) h = All-cons P (entry n place) [] (h n (search arith)) (All-nil P)
one_sound P place (Err fault) h = All-nil P

all_sound : (P : RowKind → Type 0) (place : ℕ) (rows : List Row) → ((i kind : ℕ) → i < length rows → is_of_kind kind (row_in rows i) ≡ true → P (entry kind (place + i)))
    → All P (kinds_from place rows)
all_sound P place [] h = All-nil P
all_sound P place (row ∷ rows) h =
    All-append P (entry_of place (kind_in row)) (kinds_from (place + 1) rows)
    (one_sound P place (whole_of (first row.words)) (λ kind e. subst (λ (p : ℕ). P (entry kind p)) (omega arith) (h 0 kind (omega arith) e)))
    (all_sound P (place + 1) rows (λ i kind lt e. subst (λ (p : ℕ). P (entry kind p)) (omega arith) (h (suc i) kind (omega (arith, lt)) e)))

one_complete : (place kind : ℕ) (number : Result ℕ NumberFault) → is_number kind number ≡ true → Contains (entry_of place (number_in number)) (entry kind place)
one_complete place kind (Ok n) e = (0, omega arith, ap (λ (k : ℕ). entry k place) (eqb-true n kind e))
one_complete place kind (Err fault) e = absurd (false≢true e)

all_complete : (place : ℕ) (rows : List Row) (i kind : ℕ) → i < length rows → is_of_kind kind (row_in rows i) ≡ true → Contains (kinds_from place rows) (entry kind (place + i))
all_complete place [] i kind lt e = absurd (omega (arith, lt))
all_complete place (row ∷ rows) zero kind lt e =
    Contains-append_left (entry_of place (kind_in row)) (kinds_from (place + 1) rows) (entry kind (place + 0))
    (subst (λ (p : ℕ). Contains (entry_of place (kind_in row)) (entry kind p)) (omega arith) (one_complete place kind (whole_of (first row.words)) e))
all_complete place (row ∷ rows) (suc i) kind lt e =
    Contains-append_right (entry_of place (kind_in row)) (kinds_from (place + 1) rows) (entry kind (place + suc i))
    (subst (λ (p : ℕ). Contains (kinds_from (place + 1) rows) (entry kind p)) (omega arith) (all_complete (place + 1) rows i kind (omega (arith, lt)) e))

-- the entries of rows once they are in their order
pub sorted_kinds : (rows : List Row) (kinds : List RowKind) → IsPermutation (kinds_from 0 rows) kinds → IsNonDecreasingBy order_of kinds → AreKinds kinds rows
sorted_kinds rows kinds same rising = record {
  rising = rising;
  sound =
      All-permutation (IsKind rows) (kinds_from 0 rows) kinds same (all_sound (IsKind rows) 0 rows (λ i kind lt e.
      subst (λ (p : ℕ). IsKind rows (entry kind p)) (omega arith) (record { there = lt; kind_is = e })));
  complete =
      λ place kind lt e. Contains-permutation (kinds_from 0 rows) kinds (entry kind place) same (subst (λ (p : ℕ). Contains (kinds_from 0 rows) (entry kind p)) (omega arith)
      (all_complete 0 rows place kind lt e));
}

-- ---- the search

abbrev Point : List RowKind → ℕ → ℕ → ℕ → Type 0
Point kinds from kind at = IsPartitionPoint (λ (k : RowKind). ltb (order_of k) (order_of (entry kind from)) ≡ true) (λ (k : RowKind). ltb (order_of k) (order_of (entry kind from)) ≡ false) kinds at

-- an entry of the type from the place on stands at the point or past it
not_before : (kinds : List RowKind) (from kind at i m : ℕ) → Point kinds from kind at → from ≤ i → m < length kinds → get_or kinds m (entry kind i) ≡ entry kind i → at ≤ m
not_before kinds from kind at i m point le lt is = elim (cases_lt m at) [
  | inr ge ↦ ge
  | inl before ↦
      let small : order_of (get_or kinds m (entry kind i)) < order_of (entry kind from) = ltb-true (order_of (get_or kinds m (entry kind i))) (order_of (entry kind from))
      (point.0 m (entry kind i) (omega arith) before) in
      let same : order_of (get_or kinds m (entry kind i)) ≡ order_of (entry kind i) = ap order_of is in
      absurd (omega (arith, small, same, le))
]

-- the entry at the point is none before the place
at_point : (kinds : List RowKind) (from kind at : ℕ) (d : RowKind) → Point kinds from kind at → at < length kinds → order_of (entry kind from) ≤ order_of (get_or kinds at d)
at_point kinds from kind at d point lt = ltb-false (order_of (get_or kinds at d)) (order_of (entry kind from)) (point.1 at d (omega arith) lt)

-- a row of the type from the place on has an entry that isn't before the one at the point
entry_past : (rows : List Row) (kinds : List RowKind) (from kind at i : ℕ) (d : RowKind) → AreKinds kinds rows → Point kinds from kind at → from ≤ i → i < length rows
    → is_of_kind kind (row_in rows i) ≡ true
    → (at < length kinds) × (order_of (get_or kinds at d) ≤ order_of (entry kind i))
entry_past rows kinds from kind at i d are point le lt e =
    let c = are.complete i kind lt e in
    let past = not_before kinds from kind at i c.0 point le c.1 c.2 in
    let rise : order_of (get_or kinds at d) ≤ order_of (get_or kinds c.0 d) = are.rising at c.0 d past c.1 in
    let same : order_of (get_or kinds c.0 d) ≡ order_of (entry kind i) = ap order_of (get_or_default kinds c.0 d (entry kind i) c.1 ∙ c.2) in
    (omega (arith, past, c.1), omega (arith, rise, same))

pub found_kind : (rows : List Row) (kinds : List RowKind) (from kind at : ℕ) (d : RowKind) → AreKinds kinds rows → Point kinds from kind at → at < length kinds → (get_or kinds at d).kind ≡ kind
    → IsFirstIn rows from kind (get_or kinds at d).place
found_kind rows kinds from kind at d are point lt same =
    let k = get_or kinds at d in
    let s = are.sound at d lt in
    let low = at_point kinds from kind at d point lt in
    record {
      later = omega (arith, low, same);
      there = s.there;
      kind_is = subst (λ (n : ℕ). is_of_kind n (row_in rows k.place) ≡ true) same s.kind_is;
      others = λ i le less. false_from_ne_true _ (λ e. let past = entry_past rows kinds from kind at i d are point le (omega (arith, less, s.there)) e in omega (arith, past.1, less, same));
    }

pub none_past : (rows : List Row) (kinds : List RowKind) (from kind at : ℕ) → AreKinds kinds rows → Point kinds from kind at → length kinds ≤ at → HasNoneIn rows from kind
none_past rows kinds from kind at are point ge i le lt =
    false_from_ne_true _ (λ e. let past = entry_past rows kinds from kind at i (entry 0 0) are point le lt e in omega (arith, past.0, ge))

pub none_there : (rows : List Row) (kinds : List RowKind) (from kind at : ℕ) (d : RowKind) → AreKinds kinds rows → Point kinds from kind at → at < length kinds → length rows ≤ 2 ^ 64
    → (get_or kinds at d).kind ≢ kind
    → HasNoneIn rows from kind
none_there rows kinds from kind at d are point here few other i le lt =
    let s = are.sound at d here in
    let low = at_point kinds from kind at d point here in
    false_from_ne_true _ (λ e.
    let past = entry_past rows kinds from kind at i d are point le lt e in
    other (omega (arith, past.1, low, lt, few, s.there)))
