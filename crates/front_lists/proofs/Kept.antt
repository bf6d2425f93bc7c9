-- The front of a found list.
use Rattle.std.proofs.Common.{true, ◌≡◌, ◌≢◌, ℕ, ◌<◌, ◌≤◌, List, [], length, get_or, take, refl, sym, ap, ◌∙◌, subst, arith, inl, inr}
use Rattle.std.specs.Prelude.{Contains}
use Rattle.std.proofs.lemmas.Bool.{cases_lt}
use Rattle.std.proofs.lemmas.List.{length-map, get_or-map}
use Rattle.std.proofs.lemmas.List.Elements.{Contains-get_or}
use Rattle.spec_model.specs.Spec.{SpecValue, Bits}
use Rattle.spec_model.specs.Rules.{IsValid}
use Rattle.spec_model.specs.Vectors.{vector_of, IsAtMost}
use Rattle.result_text.specs.Answers.{EntryValue}
use Rattle.front_model.specs.Fronts.{vector_in, StandsBefore, IsEntry, Rise, AreApart}
use Rattle.front_model.specs.Proofs.{HasBelow}
use Rattle.spec_model.proofs.Vectors.{at_most_through}
use Rattle.front_model.proofs.Exact.{below_or_none, claim_is_front, entry_long}
use Rattle.front_lists.specs.Lists.{AreLong, IsNext, FoundPrefix, FoundWhole, vectors_in, IsUndominated, IsKept, AreUndominated, front_with}
use Rattle.front_lists.specs.Laws.{FoundHaveBelow, UndominatedAreClaim, WholeIsFront}
use Rattle.front_lists.proofs.Least.{least}

-- ---- entries and their vectors

-- the vector of an entry is among those of its list
pub vector_there : (es : List EntryValue) (e : EntryValue) → Contains es e → Contains (vectors_in es) e.vector
vector_there es e c =
    (c.0, omega (arith, c.1, length-map es vector_in), get_or-map vector_in es c.0 e e.vector c.1 ∙ ap vector_in c.2)

-- an entry that has the vector
pub record HasEntry (es : List EntryValue) (w : List ℕ) : Type 0 where
  pub entry : EntryValue
  pub there : Contains es entry
  pub has : entry.vector ≡ w

-- a vector among those of entries is that of one of them
pub entry_there : (es : List EntryValue) (w : List ℕ) → Contains (vectors_in es) w → HasEntry es w
entry_there es w c =
    let none : EntryValue = record { design = []; vector = w } in
    let l : c.0 < length es = omega (arith, c.1, length-map es vector_in) in
    record { entry = get_or es c.0 none; there = Contains-get_or es c.0 none l; has = sym (get_or-map vector_in es c.0 none w l) ∙ c.2 }

-- ---- what was found is an entry

pub found_entry : (s : SpecValue) (found : List EntryValue) (e : EntryValue) → FoundPrefix s found → Contains found e → IsEntry s e
found_entry s found e p c =
    let n : IsNext s (vectors_in (take c.0 found)) e = subst (IsNext s (vectors_in (take c.0 found))) c.2 (p c.0 e c.1) in
    record { valid = n.first.meets.valid; stated = n.stated }

-- each found vector has a number for each objective
pub vectors_long : (s : SpecValue) (found : List EntryValue) → FoundPrefix s found → AreLong (length s.objectives) (vectors_in found)
vectors_long s found p k d l =
    let x = entry_there found (get_or (vectors_in found) k d) (Contains-get_or (vectors_in found) k d l) in
    sym (ap length x.has) ∙ entry_long s x.entry (found_entry s found x.entry p x.there)

-- ---- each found vector has one of the front at most it

pub found_have_below : FoundHaveBelow
found_have_below s found front v p kept c =
    let r = least (length s.objectives) (vectors_in found) v (vectors_long s found p) c in
    let x = entry_there found r.vector r.there in
    let is_kept : IsKept found x.entry = record { there = x.there; undominated = subst (IsUndominated (vectors_in found)) (sym x.has) r.undominated } in
    record {
      vector = x.entry.vector;
      there = vector_there front x.entry (kept.each x.entry is_kept);
      below = subst (λ (w : List ℕ). IsAtMost w v) (sym x.has) r.below;
    }

-- ---- the front is a claim

pub not_before_itself : (u v : List ℕ) → u ≡ v → ¬ StandsBefore u v
not_before_itself u v e b =
    let same : get_or u b.place 0 ≡ get_or v b.place 0 = ap (λ (w : List ℕ). get_or w b.place 0) e in
    absurd (omega (arith, same, b.less))

none_of : EntryValue
none_of = record { design = []; vector = [] }

vector_at_place : (front : List EntryValue) (i : ℕ) (d : List ℕ) → i < length front → get_or (vectors_in front) i d ≡ (get_or front i none_of).vector
vector_at_place front i d l = get_or-map vector_in front i none_of d l

rises_apart : (front : List EntryValue) (i j : ℕ) → Rise (vectors_in front) → i < length front → j < length front → i ≢ j → (get_or front i none_of).vector ≢ (get_or front j none_of).vector
rises_apart front i j rising li lj n e =
    let len : length (vectors_in front) ≡ length front = length-map front vector_in in
    let ei = vector_at_place front i [] li in
    let ej = vector_at_place front j [] lj in
    elim (cases_lt i j) [
      | inl less ↦ not_before_itself _ _ (ei ∙ (e ∙ sym ej)) (rising i j [] less (omega (arith, lj, len)))
      | inr more ↦ not_before_itself _ _ (ej ∙ (sym e ∙ sym ei)) (rising j i [] (below_other i j more n) (omega (arith, li, len)))
    ]
  where
    below_other : (i j : ℕ) → j ≤ i → i ≢ j → j < i
    below_other i j le ne = elim (cases_lt j i) [
      | inl l ↦ l
      | inr m ↦ absurd (ne (omega (arith, le, m)))
    ]

pub undominated_apart : (s : SpecValue) (found front : List EntryValue) → FoundPrefix s found → AreUndominated found front → AreApart (vectors_in front)
undominated_apart s found front p kept i j d li lj n le =
    let len : length (vectors_in front) ≡ length front = length-map front vector_in in
    let mi : i < length front = omega (arith, li, len) in
    let mj : j < length front = omega (arith, lj, len) in
    let a : EntryValue = get_or front i none_of in
    let b : EntryValue = get_or front j none_of in
    let ka : IsKept found a = kept.only i none_of mi in
    let kb : IsKept found b = kept.only j none_of mj in
    let ei = vector_at_place front i d mi in
    let ej = vector_at_place front j d mj in
    let most : IsAtMost a.vector b.vector = subst (λ (w : List ℕ). IsAtMost a.vector w) ej (subst (λ (w : List ℕ). IsAtMost w (get_or (vectors_in front) j d)) ei le) in
    kb.undominated a.vector (vector_there found a ka.there) (most, rises_apart front i j kept.rising mi mj n)

pub undominated_are_claim : UndominatedAreClaim
undominated_are_claim s found front p kept = record {
  entries = λ k d l. found_entry s found (get_or front k d) p (kept.only k d l).there;
  rising = kept.rising;
  apart = undominated_apart s found front p kept;
  complete = refl;
}

-- ---- the front of a whole found list is that of the specification

-- each valid design's vector has one of the front at most it
reached : (s : SpecValue) (found front : List EntryValue) → FoundWhole s found → AreUndominated found front → (x : Bits) → IsValid s x → HasBelow (vectors_in front) (vector_of s x)
reached s found front whole kept x valid =
    elim (below_or_none (vectors_in found) (vector_of s x)) [
      | inl h ↦ (let b = found_have_below s found front h.vector whole.prefix kept h.there in
          record { vector = b.vector; there = b.there; below = at_most_through b.vector h.vector (vector_of s x) b.below h.below })
      | inr none ↦ absurd (whole.none_left x (record { valid = valid; uncovered = none }))
    ]

-- the undominated entries of a whole found list are the front
pub whole_is_front : WholeIsFront
whole_is_front s found front whole kept = claim_is_front s (front_with front true) (undominated_are_claim s found front whole.prefix kept) (reached s found front whole kept)
