-- Vectors that rise, and entries without fault.
use Rattle.std.proofs.Common.{◌≡◌, ℕ, zero, suc, ◌+◌, ◌-◌, ◌<◌, ◌≤◌, true, false, eqb, List, [], ◌∷◌, length, map, take, get_or, refl, sym, ap, ◌∙◌, subst, arith, inl, inr}
use Rattle.std.specs.Prelude.{All, slice_index_or}
use Rattle.std.proofs.lemmas.Bool.{cases_lt}
use Rattle.std.proofs.lemmas.List.{get_or-map, length-map, get_or-take, length-take}
use Rattle.spec_model.specs.Spec.{SpecValue}
use Rattle.spec_model.specs.Vectors.{IsAtMost}
use Rattle.result_text.specs.Answers.{EntryValue, as_seen}
use Rattle.result_text.specs.declared.entries.Entry.{Entry}
use Rattle.result_text.specs.Fronts.{FrontValue, IsShaped}
use Rattle.front_model.specs.Fronts.{StandsBefore, Rise, IsClaim, vector_in, vectors_of}
use Rattle.std.proofs.lemmas.List.Elements.{All-map, All-take}
use Rattle.front_model.specs.declared.refusals.FrontWhy.{FrontWhy}
use Rattle.front_model.specs.declared.refusals.FrontWhy.TheVariants.{Invalid, VectorDiffers, NotRising, CoveredBy, Open}
use Rattle.front_model.specs.Faults.{StandsAfter, IsFine, HasFault, IsFaultAt, FaultOf, earlier}
use Rattle.front_model.proofs.Rising.{through}
use Rattle.proof_checker.specs.Answers.{AllLong}
use Rattle.proof_checker.specs.Checkers.{vectors_in}

-- the vector of an entry
pub vector_at : (es : List Entry) (i : ℕ) (e : Entry) (d : List ℕ) → i < length es → e ≡ get_or es i e → get_or (vectors_in es) i d ≡ e.vector
vector_at es i e d l is =
    let one : i < length (map as_seen es) = omega (arith, l, length-map es as_seen) in
    get_or-map vector_in (map as_seen es) i (as_seen e) d one ∙ (ap vector_in (get_or-map as_seen es i e (as_seen e) l) ∙ ap (λ (x : Entry). x.vector) (sym is))

pub vectors_long : (es : List Entry) → length (vectors_in es) ≡ length es
vectors_long es = length-map (map as_seen es) vector_in ∙ length-map es as_seen

pub long_at : (n : ℕ) (es : List Entry) (i : ℕ) (e : Entry) → AllLong n (vectors_in es) → i < length es → e ≡ get_or es i e → length e.vector ≡ n
long_at n es i e h l is = sym (ap length (vector_at es i e [] l is)) ∙ h i [] (omega (arith, l, vectors_long es))

-- the last one before
pub after_of : (es : List Entry) (e : Entry) (v : List ℕ) → 0 < length es → e ≡ get_or es (length es - 1) e → StandsBefore e.vector v → StandsAfter (vectors_in es) v
after_of es e v some is h d l =
    let n : length (vectors_in es) - 1 ≡ length es - 1 = omega (arith, vectors_long es) in
    let at : get_or (vectors_in es) (length (vectors_in es) - 1) d ≡ e.vector = ap (λ (k : ℕ). get_or (vectors_in es) k d) n ∙ vector_at es (length es - 1) e d (omega (arith, some)) is in
    subst (λ (u : List ℕ). StandsBefore u v) (sym at) h

pub of_after : (es : List Entry) (e : Entry) (v : List ℕ) → 0 < length es → e ≡ get_or es (length es - 1) e → StandsAfter (vectors_in es) v → StandsBefore e.vector v
of_after es e v some is h =
    let n : length (vectors_in es) - 1 ≡ length es - 1 = omega (arith, vectors_long es) in
    let at : get_or (vectors_in es) (length (vectors_in es) - 1) [] ≡ e.vector = ap (λ (k : ℕ). get_or (vectors_in es) k []) n ∙ vector_at es (length es - 1) e [] (omega (arith, some)) is in
    subst (λ (u : List ℕ). StandsBefore u v) at (h [] (omega (arith, some, vectors_long es)))

-- ---- rising

not_back : (u v : List ℕ) → StandsBefore u v → ¬ IsAtMost v u
not_back u v a h = omega (arith, a.less, h a.place)

-- each entry has no fault after those before it
abbrev pub AllFine : SpecValue → FrontValue → ℕ → Type 0
AllFine s front n = (k : ℕ) (d : EntryValue) → k < n → IsFine s (earlier front k) (slice_index_or front.entries k d)

module _ (s : SpecValue) (front : FrontValue) (fine : AllFine s front (length front.entries)) where
  abbrev us : List (List ℕ)
  us = vectors_of front

  many : length (vectors_of front) ≡ length front.entries
  many = length-map front.entries vector_in

  at : (k : ℕ) (d : List ℕ) (e : EntryValue) → k < length front.entries → get_or (vectors_of front) k d ≡ (get_or front.entries k e).vector
  at k d e l = get_or-map vector_in front.entries k e d l

  next : (k : ℕ) (d : List ℕ) → k + 1 < length front.entries → StandsBefore (get_or (vectors_of front) k d) (get_or (vectors_of front) (k + 1) d)
  next k d l =
      let blank : EntryValue = record { design = []; vector = [] } in
      let h = fine (k + 1) blank l in
      let n : length (take (k + 1) (vectors_of front)) ≡ k + 1 = omega (arith, length-take (k + 1) (vectors_of front), l, many) in
      let b = h.after d (omega (arith, n)) in
      let is : get_or (take (k + 1) (vectors_of front)) (length (take (k + 1) (vectors_of front)) - 1) d ≡ get_or (vectors_of front) k d =
      (let m : length (take (k + 1) (vectors_of front)) - 1 ≡ k = omega (arith, n) in ap (λ (i : ℕ). get_or (take (k + 1) (vectors_of front)) i d) m
      ∙ get_or-take (k + 1) (vectors_of front) k d (omega arith)) in
      subst (λ (u : List ℕ). StandsBefore u (get_or (vectors_of front) (k + 1) d)) is (subst (λ (w : List ℕ).
      StandsBefore (get_or (take (k + 1) (vectors_of front)) (length (take (k + 1) (vectors_of front)) - 1) d) w) (sym (at (k + 1) d blank l)) b)

  rise_by : (m i : ℕ) (d : List ℕ) → i + suc m < length front.entries → StandsBefore (get_or (vectors_of front) i d) (get_or (vectors_of front) (i + suc m) d)
  rise_by zero i d l = next i d l
  rise_by (suc m) i d l =
      let e : (i + suc m) + 1 ≡ i + suc (suc m) = omega arith in
      through (get_or (vectors_of front) i d) (get_or (vectors_of front) (i + suc m) d) (get_or (vectors_of front) (i + suc (suc m)) d) (rise_by m i d (omega (arith, l)))
      (subst (λ (k : ℕ). StandsBefore (get_or (vectors_of front) (i + suc m) d) (get_or (vectors_of front) k d)) e (next (i + suc m) d (omega (arith, l))))

  rises : Rise (vectors_of front)
  rises i j d lt l =
      let m : ℕ = j - i - 1 in
      let e : i + suc m ≡ j = omega (arith, lt) in
      subst (λ (k : ℕ). StandsBefore (get_or (vectors_of front) i d) (get_or (vectors_of front) k d)) e (rise_by m i d (omega (arith, l, e, many)))

  before_apart : (i j : ℕ) (d : List ℕ) → i < j → j < length (vectors_of front) → ¬ IsAtMost (get_or (vectors_of front) i d) (get_or (vectors_of front) j d)
  before_apart i j d lt l h =
      let blank : EntryValue = record { design = []; vector = [] } in
      let there : j < length front.entries = omega (arith, l, many) in
      let x = fine j blank there in
      let n : length (take j (vectors_of front)) ≡ j = omega (arith, length-take j (vectors_of front), l) in
      let here : IsAtMost (get_or (take j (vectors_of front)) i d) (get_or (vectors_of front) j d) =
      subst (λ (u : List ℕ). IsAtMost u (get_or (vectors_of front) j d)) (sym (get_or-take j (vectors_of front) i d lt)) h in
      x.apart i d (omega (arith, lt, n)) (subst (λ (w : List ℕ). IsAtMost (get_or (take j (vectors_of front)) i d) w) (at j d blank there) here)

  pub claim_of : front.complete ≡ true → IsClaim s front
  claim_of complete = record {
    entries = λ k d l. (fine k d l).entry;
    rising = rises;
    apart = λ i j d hi hj n h. elim (cases_lt i j) [
      | inl l ↦ before_apart i j d l hj h
      | inr g ↦ not_back (get_or (vectors_of front) j d) (get_or (vectors_of front) i d) (rises j i d (strictly j i g n) hi) h
    ];
    complete = complete;
  }
    where
      strictly : (p q : ℕ) → p ≤ q → (q ≡ p → ⊥) → p < q
      strictly p q h n =
          elim (cases_lt p q) [
            | inl l ↦ l
            | inr g ↦ absurd (n (omega (arith, h, g)))
          ]

-- ---- along the entries

-- a number that isn't 0 is more
pub some_of : (n : ℕ) → eqb n 0 ≡ false → 0 < n
some_of zero e = absurd (let c : true ≡ false = e in cc)
some_of (suc n) e = omega arith

map_front : {A B : Type 0} (f : A → B) (i : ℕ) (xs : List A) → map f (take i xs) ≡ take i (map f xs)
map_front f zero xs = refl
map_front f (suc i) [] = refl
map_front f (suc i) (x ∷ xs) = ap (λ ys. f x ∷ ys) (map_front f i xs)

pub earlier_is : (front : FrontValue) (es : List Entry) (i : ℕ) → map as_seen es ≡ front.entries → vectors_in (take i es) ≡ earlier front i
earlier_is front es i same = ap (map vector_in) (map_front as_seen i es) ∙ (map_front vector_in i (map as_seen es) ∙ ap (λ (xs : List EntryValue). take i (map vector_in xs)) same)

pub seen_at : (entries : List EntryValue) (es : List Entry) (i : ℕ) (e : Entry) (d : EntryValue) → map as_seen es ≡ entries → i < length es → e ≡ get_or es i e → as_seen e ≡ get_or entries i d
seen_at entries es i e d same l is =
    let there : get_or (map as_seen es) i d ≡ as_seen e = get_or-map as_seen es i e d l ∙ ap as_seen (sym is) in
    sym there ∙ ap (λ (xs : List EntryValue). get_or xs i d) same

pub shaped_long : (s : SpecValue) (front : FrontValue) (es : List Entry) (i : ℕ) → map as_seen es ≡ front.entries → All (IsShaped s) front.entries
    → AllLong (length s.objectives) (vectors_in (take i es))
shaped_long s front es i same h =
    let all : AllLong (length s.objectives) (vectors_of front) = All-map (λ (u : List ℕ). length u ≡ length s.objectives) vector_in front.entries (λ k d l. (h k d l).one_each) in
    subst (AllLong (length s.objectives)) (sym (earlier_is front es i same)) (All-take (λ (u : List ℕ). length u ≡ length s.objectives) i (vectors_of front) all)

pub one_more_fine : (s : SpecValue) (front : FrontValue) (es : List Entry) (i : ℕ) (e : Entry) → map as_seen es ≡ front.entries → i < length es → e ≡ get_or es i e → AllFine s front i
    → IsFine s (vectors_in (take i es)) (as_seen e) → AllFine s front (i + 1)
one_more_fine s front es i e same l is fine here k d m =
    elim (cases_lt k i) [
      | inl before ↦ fine k d before
      | inr g ↦
          let at : i ≡ k = omega (arith, m, g) in
          subst (λ (j : ℕ). IsFine s (earlier front j) (get_or front.entries j d)) at
          (subst (λ (x : EntryValue). IsFine s (earlier front i) x) (seen_at front.entries es i e d same l is)
          (subst (λ (us : List (List ℕ)). IsFine s us (as_seen e)) (earlier_is front es i same) here))
    ]

fault_is : (s : SpecValue) (front : FrontValue) (i : ℕ) (why : FrontWhy) → i < length front.entries → ((d : EntryValue) → HasFault s (earlier front i) (get_or front.entries i d) why)
    → AllFine s front i → (0 < i + 1) × IsFaultAt s front ((i + 1) - 1) why
fault_is s front i why l h fine =
    let e : i ≡ (i + 1) - 1 = omega arith in
    (omega arith, subst (λ (k : ℕ). IsFaultAt s front k why) e (record { in_range = l; fault = h; first = fine }))

pub fault_at : (s : SpecValue) (front : FrontValue) (i : ℕ) (why : FrontWhy) → i < length front.entries → ((d : EntryValue) → HasFault s (earlier front i) (get_or front.entries i d) why)
    → AllFine s front i → FaultOf s front (i + 1) why
fault_at s front i (Invalid rule) l h fine = fault_is s front i (Invalid rule) l h fine
fault_at s front i (VectorDiffers j) l h fine = fault_is s front i (VectorDiffers j) l h fine
fault_at s front i NotRising l h fine = fault_is s front i NotRising l h fine
fault_at s front i (CoveredBy j) l h fine = fault_is s front i (CoveredBy j) l h fine
fault_at s front i Open l h fine = absurd (h (record { design = []; vector = [] }))

pub fault_of_entry : (s : SpecValue) (front : FrontValue) (es : List Entry) (i : ℕ) (e : Entry) (why : FrontWhy) → map as_seen es ≡ front.entries → i < length es → e ≡ get_or es i e
    → HasFault s (vectors_in (take i es)) (as_seen e) why → AllFine s front i → FaultOf s front (i + 1) why
fault_of_entry s front es i e why same l is h fine =
    fault_at s front i why (omega (arith, l, ap length same, length-map es as_seen))
    (λ d. subst (λ (x : EntryValue). HasFault s (earlier front i) x why) (seen_at front.entries es i e d same l is)
    (subst (λ (us : List (List ℕ)). HasFault s us (as_seen e) why) (earlier_is front es i same) h)) fine
