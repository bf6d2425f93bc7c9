-- A front with a fault may not be checked against.
use Rattle.std.proofs.Common.{◌≡◌, ℕ, ◌-◌, ◌<◌, true, false, List, [], length, get_or, sym, ap, ◌∙◌, subst, arith}
use Rattle.std.specs.Prelude.{slice_index}
use Rattle.std.proofs.lemmas.List.{get_or-map, length-map, get_or-take, length-take}
use Rattle.impl_rules.proofs.Order.{DesignBreaks-not_valid}
use Rattle.spec_model.specs.Spec.{SpecValue, bits_of}
use Rattle.spec_model.specs.Vectors.{IsAtMost}
use Rattle.result_text.specs.Answers.{EntryValue}
use Rattle.result_text.specs.Fronts.{FrontValue}
use Rattle.front_model.specs.Fronts.{StandsBefore, IsClaim, IsEntry, vector_in, vectors_of}
use Rattle.front_model.specs.Faults.{StandsAfter, IsFaultAt, FaultOf, IsFirstFault, earlier}
use Rattle.front_model.specs.declared.refusals.FrontWhy.{FrontWhy}
use Rattle.front_model.specs.declared.refusals.FrontWhy.TheVariants.{Invalid, VectorDiffers, NotRising, CoveredBy, Open}
use Rattle.front_model.specs.declared.refusals.FrontRefused.{FrontRefused}

-- an entry that stands in no front
abbrev none : EntryValue
none = record { design = []; vector = [] }

-- entry i of a front
abbrev entry_at : FrontValue → ℕ → EntryValue
entry_at front i = get_or front.entries i none

-- its vector stands at its place
vector_at : (front : FrontValue) (i : ℕ) (d : List ℕ) → i < length front.entries → get_or (vectors_of front) i d ≡ (entry_at front i).vector
vector_at front i d l = get_or-map vector_in front.entries i none d l

-- before entry i stand i vectors
earlier_long : (front : FrontValue) (i : ℕ) → i < length front.entries → length (earlier front i) ≡ i
earlier_long front i l = omega (arith, l, length-take i (vectors_of front), length-map front.entries vector_in)

earlier_at : (front : FrontValue) (i k : ℕ) (d : List ℕ) → k < i → get_or (earlier front i) k d ≡ get_or (vectors_of front) k d
earlier_at front i k d l = get_or-take i (vectors_of front) k d l

-- each vector stands after those before it
stands_after : (s : SpecValue) (front : FrontValue) (i : ℕ) → i < length front.entries → IsClaim s front → StandsAfter (earlier front i) (entry_at front i).vector
stands_after s front i l claim d some =
    let n = earlier_long front i l in
    let k = i - 1 in
    let last : length (earlier front i) - 1 ≡ k = omega (arith, n) in
    let lt : k < i = omega (arith, n, some) in
    let there = claim.rising k i d lt (omega (arith, l, length-map front.entries vector_in)) in
    let u : get_or (earlier front i) (length (earlier front i) - 1) d ≡ get_or (vectors_of front) k d = ap (λ (j : ℕ). get_or (earlier front i) j d) last ∙ earlier_at front i k d lt in
    subst (λ (v : List ℕ). StandsBefore (get_or (earlier front i) (length (earlier front i) - 1) d) v) (vector_at front i d l)
    (subst (λ (v : List ℕ). StandsBefore v (get_or (vectors_of front) i d)) (sym u) there)

-- no earlier vector is at most it
is_apart : (s : SpecValue) (front : FrontValue) (i k : ℕ) (d : List ℕ) → i < length front.entries → k < i → IsClaim s front → ¬ IsAtMost (get_or (earlier front i) k d) (entry_at front i).vector
is_apart s front i k d l lt claim at_most =
    let n = length-map front.entries vector_in in
    claim.apart k i d (omega (arith, l, lt, n)) (omega (arith, l, n)) (λ e. omega (arith, e, lt))
    (subst (λ (v : List ℕ). IsAtMost (get_or (vectors_of front) k d) v) (sym (vector_at front i d l))
    (subst (λ (v : List ℕ). IsAtMost v (entry_at front i).vector) (earlier_at front i k d lt) at_most))

entry_of : (s : SpecValue) (front : FrontValue) (i : ℕ) → i < length front.entries → IsClaim s front → IsEntry s (entry_at front i)
entry_of s front i l claim = claim.entries i none l

faulty : (s : SpecValue) (front : FrontValue) (i : ℕ) (why : FrontWhy) → IsFaultAt s front i why → IsClaim s front → ⊥
faulty s front i (Invalid rule) h claim = DesignBreaks-not_valid s (bits_of (entry_at front i).design) rule (h.fault none).broken (entry_of s front i h.in_range claim).valid
faulty s front i (VectorDiffers j) h claim = (h.fault none).1.differ (ap (λ (v : List ℕ). slice_index v j) (entry_of s front i h.in_range claim).stated)
faulty s front i NotRising h claim = (h.fault none).1 (stands_after s front i h.in_range claim)
faulty s front i (CoveredBy n) h claim =
    let covers = (h.fault none).2 in
    let long = earlier_long front i h.in_range in
    is_apart s front i (n - 1) [] h.in_range (omega (arith, covers.from_one, covers.in_range, long)) claim (covers.covers [])
faulty s front i Open h claim = h.fault none

at_entry : (s : SpecValue) (front : FrontValue) (n : ℕ) (why : FrontWhy) → FaultOf s front n why → IsClaim s front → ⊥
at_entry s front n (Invalid rule) h claim = faulty s front (n - 1) (Invalid rule) h.1 claim
at_entry s front n (VectorDiffers j) h claim = faulty s front (n - 1) (VectorDiffers j) h.1 claim
at_entry s front n NotRising h claim = faulty s front (n - 1) NotRising h.1 claim
at_entry s front n (CoveredBy k) h claim = faulty s front (n - 1) (CoveredBy k) h.1 claim
at_entry s front n Open h claim = (let c : true ≡ false = sym claim.complete ∙ h.1.open_end in cc)

pub fault_no_claim : (s : SpecValue) (front : FrontValue) (r : FrontRefused) → IsFirstFault s front r → ¬ IsClaim s front
fault_no_claim s front r h claim = at_entry s front r.entry r.why h claim
