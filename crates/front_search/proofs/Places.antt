-- The front of the first entries of a found list, and of one more.
use Rattle.std.proofs.Common.{◌≡◌, ℕ, zero, suc, ◌+◌, ◌<◌, List, [], ◌∷◌, ◌++◌, length, get_or, take, drop, map, refl, sym, ap, ap₂, ◌∙◌, subst, arith, inl, inr}
use Rattle.std.specs.Prelude.{Bool, false, All, Contains, IsTrue}
use Rattle.std.specs.List.{insert}
use Rattle.std.proofs.lemmas.Bool.{false≢true}
use Rattle.std.proofs.lemmas.List.{length-map, get_or-map, map-append, take-map, drop-map, take-append-drop, take_more, length-take, get_or-take}
use Rattle.std.proofs.lemmas.List.Elements.{All-append, All-take, All-drop, All-cons, All-weaker, All-contains, Contains-get_or, Contains-append_left, Contains-append_right, Contains-append_cases}
use Rattle.spec_model.specs.WellFormed.{AreDistinct}
use Rattle.result_text.specs.Answers.{EntryValue, as_seen}
use Rattle.result_text.specs.declared.entries.Entry.{Entry}
use Rattle.spec_model.specs.Vectors.{Dominates}
use Rattle.front_model.specs.Fronts.{vector_in, StandsBefore, Rise}
use Rattle.front_lists.specs.Lists.{AreLong, vectors_in, IsUndominated, IsKept, AreUndominated}
use Rattle.front_lists.proofs.Kept.{vector_there, entry_there}
use Rattle.front_search.specs.Searches.{seen}
use Rattle.front_search.specs.Turns.{IsPlaceFor, AreKeptOf}
use Rattle.front_search.proofs.Orders.{rise_insert}

-- ---- insertions

map-insert : {A B : Type 0} (f : A → B) (xs : List A) (i : ℕ) (x : A) → map f (insert xs i x) ≡ insert (map f xs) i (f x)
map-insert {A} {B} f xs i x =
    map-append f (take i xs) (x ∷ drop i xs) ∙ ap₂ (λ (us vs : List B). us ++ f x ∷ vs) (sym (take-map f i xs)) (sym (drop-map f i xs))

All-insert : (P : EntryValue → Type 0) (xs : List EntryValue) (i : ℕ) (x : EntryValue) → All P xs → P x → All P (insert xs i x)
All-insert P xs i x h p = All-append P (take i xs) (x ∷ drop i xs) (All-take P i xs h) (All-cons P x (drop i xs) p (All-drop P i xs h))

there_now : (xs : List EntryValue) (i : ℕ) (x : EntryValue) → Contains (insert xs i x) x
there_now xs i x = Contains-append_right (take i xs) (x ∷ drop i xs) x (0, omega arith, refl)

there_still : (xs : List EntryValue) (i : ℕ) (x y : EntryValue) → Contains xs y → Contains (insert xs i x) y
there_still xs i x y c =
    elim (Contains-append_cases (take i xs) (drop i xs) y (subst (λ (zs : List EntryValue). Contains zs y) (sym (take-append-drop i xs)) c)) [
      | inl front ↦ Contains-append_left (take i xs) (x ∷ drop i xs) y front
      | inr back ↦ Contains-append_right (take i xs) (x ∷ drop i xs) y (Contains-append_right (x ∷ []) (drop i xs) y back)
    ]

only_one : (x y : EntryValue) → Contains (x ∷ []) y → x ≡ y
only_one x y (zero, l, e) = e
only_one x y (suc k, l, e) = absurd (omega (arith, l))

-- ---- the front of one entry more

-- no found one dominates it
pub kept_more : (found early front : List EntryValue) (e : EntryValue) (k : ℕ) → AreKeptOf found early front → AreLong (length e.vector) (vectors_in front) → ¬ Contains (vectors_in early) e.vector
    → Contains found e → IsUndominated (vectors_in found) e.vector → IsPlaceFor (vectors_in front) e.vector k → AreKeptOf found (early ++ e ∷ []) (insert front k e)
kept_more found early front e k h long new there free place = record {
  only = All-insert (IsKept found) front k e h.only (record { there = there; undominated = free });
  early_each = All-insert (Contains (early ++ e ∷ [])) front k e
      (All-weaker (Contains early) (Contains (early ++ e ∷ [])) (Contains-append_left early (e ∷ [])) front h.early_each)
      (Contains-append_right early (e ∷ []) e (0, omega arith, refl));
  each = λ x c kept. elim (Contains-append_cases early (e ∷ []) x c) [
    | inl before ↦ there_still front k e x (h.each x before kept)
    | inr now ↦ subst (Contains (insert front k e)) (only_one e x now) (there_now front k e)
  ];
  rising = subst Rise (sym (map-insert vector_in front k e)) (rise_insert (vectors_in front) e.vector k h.rising long fresh place);
}
  where
    fresh : ¬ Contains (vectors_in front) e.vector
    fresh c =
        let x = entry_there front e.vector c in
        let c' : Contains early x.entry = All-contains (Contains early) front x.entry h.early_each x.there in
        new (subst (Contains (vectors_in early)) x.has (vector_there early x.entry c'))

-- one does
pub kept_less : (found early front : List EntryValue) (e : EntryValue) → AreKeptOf found early front → ¬ IsUndominated (vectors_in found) e.vector → AreKeptOf found (early ++ e ∷ []) front
kept_less found early front e h dominated = record {
  only = h.only;
  early_each = All-weaker (Contains early) (Contains (early ++ e ∷ [])) (Contains-append_left early (e ∷ [])) front h.early_each;
  each = λ x c kept. elim (Contains-append_cases early (e ∷ []) x c) [
    | inl before ↦ h.each x before kept
    | inr now ↦ absurd (dominated (subst (λ (y : EntryValue). IsUndominated (vectors_in found) y.vector) (sym (only_one e x now)) kept.undominated))
  ];
  rising = h.rising;
}

pub kept_all : (found early front : List EntryValue) → early ≡ found → AreKeptOf found early front → AreUndominated found front
kept_all found early front e h = record {
  only = h.only;
  each = λ x kept. h.each x (subst (λ (es : List EntryValue). Contains es x) (sym e) kept.there) kept;
  rising = h.rising;
}

-- ---- of entries as they are kept

pub vector_at : (es : List Entry) (i : ℕ) (e : Entry) (d : List ℕ) → i < length es → e ≡ get_or es i e → get_or (vectors_in (seen es)) i d ≡ e.vector
vector_at es i e d l is =
    get_or-map vector_in (seen es) i (as_seen e) d (omega (arith, l, length-map es as_seen)) ∙ (ap vector_in (get_or-map as_seen es i e (as_seen e) l) ∙ ap (λ (x : Entry). x.vector) (sym is))

pub vectors_many : (es : List Entry) → length (vectors_in (seen es)) ≡ length es
vectors_many es = length-map (seen es) vector_in ∙ length-map es as_seen

pub long_at : (n : ℕ) (es : List Entry) (i : ℕ) (e : Entry) → AreLong n (vectors_in (seen es)) → i < length es → e ≡ get_or es i e → length e.vector ≡ n
long_at n es i e h l is = sym (ap length (vector_at es i e [] l is)) ∙ h i [] (omega (arith, l, vectors_many es))

pub seen_there : (es : List Entry) (i : ℕ) (e : Entry) → i < length es → e ≡ get_or es i e → Contains (seen es) (as_seen e)
seen_there es i e l is = (i, omega (arith, l, length-map es as_seen), get_or-map as_seen es i e (as_seen e) l ∙ ap as_seen (sym is))

pub seen-insert : (es : List Entry) (i : ℕ) (e : Entry) → seen (insert es i e) ≡ insert (seen es) i (as_seen e)
seen-insert es i e = map-insert as_seen es i e

pub seen_more : (es : List Entry) (i : ℕ) (e : Entry) → i < length es → e ≡ get_or es i e → seen (take (i + 1) es) ≡ seen (take i es) ++ as_seen e ∷ []
seen_more es i e l is =
    ap seen (take_more es i e l ∙ ap (λ (x : Entry). take i es ++ x ∷ []) (sym is)) ∙ map-append as_seen (take i es) (e ∷ [])

-- the vectors of a front are as long as those of the found list
pub front_long : (n : ℕ) (found front : List EntryValue) → AreLong n (vectors_in found) → All (IsKept found) front → AreLong n (vectors_in front)
front_long n found front long only k d l =
    let x = entry_there front (get_or (vectors_in front) k d) (Contains-get_or (vectors_in front) k d l) in
    let c = (All-contains (IsKept found) front x.entry only x.there).there in
    sym (ap length x.has) ∙ All-contains (λ (u : List ℕ). length u ≡ n) (vectors_in found) x.entry.vector long (vector_there found x.entry c)

-- a vector of a found list is no earlier one's
pub vector_new : (es : List Entry) (i : ℕ) (e : Entry) → AreDistinct (vectors_in (seen es)) → i < length es → e ≡ get_or es i e → ¬ Contains (vectors_in (seen (take i es))) e.vector
vector_new es i e distinct l is c =
    let us : List (List ℕ) = vectors_in (seen es) in
    let cut : vectors_in (seen (take i es)) ≡ take i us = ap (map vector_in) (sym (take-map as_seen i es)) ∙ sym (take-map vector_in i (seen es)) in
    let c' : Contains (take i us) e.vector = subst (λ (ws : List (List ℕ)). Contains ws e.vector) cut c in
    let k : ℕ = c'.0 in
    let low : k < i = omega (arith, c'.1, length-take i us) in
    distinct k i e.vector low (omega (arith, l, vectors_many es)) (sym (get_or-take i us k e.vector low) ∙ (c'.2 ∙ sym (vector_at es i e e.vector l is)))

-- ---- tests that failed

-- a vector doesn't dominate where a test says so
pub dominates_along : (us u v : List ℕ) (b : Bool) → us ≡ u → b ≡ false → (Dominates us v → IsTrue b) → Dominates u v → ⊥
dominates_along us u v b e fails sure d = absurd (false≢true (sym fails ∙ sure (subst (λ (w : List ℕ). Dominates w v) (sym e) d)))

-- nor does it stand before
pub before_along : (us u v : List ℕ) (b : Bool) → us ≡ u → b ≡ false → (StandsBefore us v → IsTrue b) → StandsBefore u v → ⊥
before_along us u v b e fails sure h = absurd (false≢true (sym fails ∙ sure (subst (λ (w : List ℕ). StandsBefore w v) (sym e) h)))
