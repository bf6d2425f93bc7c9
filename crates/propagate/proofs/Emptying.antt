-- What one pass over all lists leaves, once many slots were emptied.
use Rattle.std.proofs.Common.{◌≡◌, ℕ, ◌+◌, ◌<◌, ◌^◌, Bool, Option, Some, None, List, [], ◌++◌, filter, length, map, take, drop, get_or, set, refl, sym, ap, ◌∙◌, subst, arith, inl, inr, is_some}
use Rattle.std.specs.Prelude.{unwrap_or}
use Rattle.std.proofs.Math.ListN.{get_or-map}
use Rattle.std.proofs.lemmas.List.{length-map, map-set, get_or-map as get_or-map-within}
use Rattle.std.proofs.lemmas.List.Edits.{map_over_more}
use Rattle.std.proofs.lemmas.List.Elements.{All-filter}
use Rattle.pb_rules.specs.Linear.{Linear, VarsBelow, total}
use Rattle.propagate.specs.declared.occurrences.Occurrence.{Occurrence}
use Rattle.propagate.specs.Counters.{nothing, linear_at, weight_of, weight_at, occurrences_of, SlotsBelow, IsLimited, IsBuilt, AreCleared, is_filled}
use Rattle.propagate.proofs.Attaching.{empty}
use Rattle.propagate.proofs.Placing.{weight_at_gone, weight_at_kept, limited_nothing}

pub cleared_more : (old mid new : List (Option Linear)) (rooms rooms' rooms'' : List ℕ) → AreCleared old mid rooms rooms' → AreCleared mid new rooms' rooms'' → AreCleared old new rooms rooms''
cleared_more old mid new rooms rooms' rooms'' a b = record {
  same_slots = b.same_slots ∙ a.same_slots;
  same_rooms = b.same_rooms ∙ a.same_rooms;
  each = λ i. elim (b.each i) [
    | inl w ↦ elim (a.each i) [
      | inl v ↦ inl (w.0 ∙ v.0, w.1 ∙ v.1)
      | inr v ↦ inr (w.0 ∙ v.0, w.1 ∙ v.1)
    ]
    | inr w ↦ inr w
  ];
}

abbrev as_linear : Option Linear → Linear
as_linear o = unwrap_or o nothing

-- what holds of a slot's constraint and of nothing
at_cleared : (slots slots' : List (Option Linear)) (rooms rooms' : List ℕ) (P : Linear → Type 0) → AreCleared slots slots' rooms rooms' → P nothing → (i : ℕ) → P (linear_at slots i)
    → P (linear_at slots' i)
at_cleared slots slots' rooms rooms' P a none i here = elim (a.each i) [
  | inl w ↦ subst P (sym (ap as_linear w.0)) here
  | inr w ↦ subst P (sym (ap as_linear w.0)) none
]

occurrences_filtered : (p : Occurrence → Bool) (lists : List (List Occurrence)) (k : ℕ) → occurrences_of (map (filter p) lists) k ≡ filter p (occurrences_of lists k)
occurrences_filtered p lists k = get_or-map (filter p) lists k []

-- one more of the lists is through
pub through_more : {V X : Type 0} → (vs : List V) (f : V → List X) (g : List X → List X) (old : List (List X)) (i : ℕ) (v w : V) → i < length vs
    → length vs ≡ length old → v ≡ get_or vs i v → f w ≡ g (f (get_or vs i v)) → map f vs ≡ map g (take i old) ++ drop i old → map f (set vs i w) ≡ map g (take (i + 1) old) ++ drop (i + 1) old
through_more vs f g old i v w h same is e so =
    let at : f v ≡ get_or (map f vs) i (f v) = ap f is ∙ sym (get_or-map-within f vs i v (f v) h) in
    map-set f vs i w ∙ ap (set (map f vs) i) (e ∙ ap (λ u. g (f u)) (sym is)) ∙ map_over_more g old (map f vs) i (f v) (omega arith) so at

-- each slot has the occurrences of what stands in it now
weights_cleared : (n : ℕ) (slots slots' : List (Option Linear)) (limits rooms rooms' : List ℕ) (lists : List (List Occurrence)) → IsBuilt n slots limits lists
    → AreCleared slots slots' rooms rooms' → (i k : ℕ) → weight_at i (filter (is_filled slots') (occurrences_of lists k)) ≡ weight_of k (linear_at slots' i).terms
weights_cleared n slots slots' limits rooms rooms' lists b a i k = go (get_or slots' i empty) refl
  where
    os : List Occurrence
    os = occurrences_of lists k

    own : (o : Occurrence) → o.slot ≡ i → is_filled slots' o ≡ is_some (get_or slots' i empty)
    own o e = ap (λ (m : ℕ). is_some (get_or slots' m empty)) e

    stays : (c : Linear) → get_or slots' i empty ≡ Some c → linear_at slots i ≡ linear_at slots' i
    stays c s = elim (a.each i) [
      | inl w ↦ ap as_linear (sym w.0)
      | inr w ↦ absurd (let z = w.0 in cc)
    ]

    go : (o : Option Linear) → get_or slots' i empty ≡ o → weight_at i (filter (is_filled slots') os) ≡ weight_of k (linear_at slots' i).terms
    go None s = weight_at_gone (is_filled slots') i os (λ o e. own o e ∙ ap (λ (u : Option Linear). is_some u) s) ∙ sym (ap (λ (u : Option Linear). weight_of k (as_linear u).terms) s)
    go (Some c) s = weight_at_kept (is_filled slots') i os (λ o e. own o e ∙ ap (λ (u : Option Linear). is_some u) s) ∙ b.weights i k ∙ ap (λ (d : Linear). weight_of k d.terms) (stays c s)

pub built_cleared : (n : ℕ) (slots slots' : List (Option Linear)) (limits rooms rooms' : List ℕ) (lists lists' : List (List Occurrence)) → IsBuilt n slots limits lists
    → AreCleared slots slots' rooms rooms' → lists' ≡ map (filter (is_filled slots')) lists → IsBuilt n slots' limits lists'
built_cleared n slots slots' limits rooms rooms' lists lists' b a e =
    let P : List (List Occurrence) → Type 0 = λ us. IsBuilt n slots' limits us in
    let B : Occurrence → Type 0 = λ o. o.slot < length slots' in
    let wide = b.wide in
    let same = a.same_slots in
    let len = length-map lists (filter (is_filled slots')) in
    let each = at_cleared slots slots' rooms rooms' in
    subst P (sym e) (record {
      few = b.few;
      wide = omega (arith, wide, len);
      in_range = λ i. each (λ c. VarsBelow n c.terms) a (λ k d z. absurd (omega arith)) i (b.in_range i);
      small = λ i. each (λ c. total c.terms < 2 ^ 63) a (omega arith) i (b.small i);
      inside = λ k. (
          let R : List Occurrence → Type 0 = λ us. SlotsBelow (length slots') us in
          let inside : SlotsBelow (length slots') (occurrences_of lists k) = λ j d g. (let x = b.inside k j d g in omega (arith, x, same)) in
          subst R (sym (occurrences_filtered (is_filled slots') lists k)) (All-filter (is_filled slots') B (occurrences_of lists k) inside));
      weights = λ i k. ap (weight_at i) (occurrences_filtered (is_filled slots') lists k) ∙ weights_cleared n slots slots' limits rooms rooms' lists b a i k;
      limited = λ i. each (IsLimited (get_or limits i 0)) a (limited_nothing (get_or limits i 0)) i (b.limited i);
    })
