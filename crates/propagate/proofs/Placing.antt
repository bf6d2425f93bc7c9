-- What putting a constraint in and taking it out leaves.
use Rattle.std.proofs.Common.{◌≡◌, ◌≢◌, ℕ, ◌+◌, ◌<◌, ◌≤◌, ◌^◌, Bool, true, false, not, cond, eqb, Option, Some, None, List, [], ◌∷◌, ◌++◌, length, get_or, set, take, drop, filter, refl, sym, ap, ◌∙◌, subst, arith, inl, inr, suc, add-one, drop-cons, get_or-set_same, get_or-set_other}
use Rattle.std.specs.Prelude.{Result, Ok, Err, OnOk, is_err, unwrap_or}
use Rattle.std.specs.declared.alloc.AllocError.{AllocError}
use Rattle.std.proofs.lemmas.Bool.{cases_eq, eq-eqb, ne_eqb}
use Rattle.std.proofs.lemmas.List.{take_more, length-set}
use Rattle.std.proofs.lemmas.List.Elements.{All-push, All-filter}
use Rattle.std.proofs.lemmas.List.Sums.{sum_by_push, sum_by-cons}
use Rattle.pb_rules.specs.declared.Term.{Term}
use Rattle.pb_rules.specs.Literal.{Literal}
use Rattle.pb_rules.specs.Linear.{Linear, VarsBelow, total}
use Rattle.pb_rules.specs.Partial.{open_weight}
use Rattle.propagate.specs.Attached.{Attached}
use Rattle.propagate.specs.declared.occurrences.Occurrence.{Occurrence}
use Rattle.propagate.specs.Counters.{literal_number, value_given, nothing, linear_at, attached_from, weight_of, weight_at, occurrences_of, SlotsBelow, IsLimited, IsQuiet, IsBuilt, IsInStep, Added, Removed}
use Rattle.propagate.specs.Flags.{is_waiting, Awaits}
use Rattle.propagate.proofs.Attaching.{empty}

weight_at-push : (os : List Occurrence) (o : Occurrence) (i : ℕ) → weight_at i (os ++ o ∷ []) ≡ weight_at i os + cond (eqb o.slot i) o.coef 0
weight_at-push os o i = sum_by_push (λ (o : Occurrence). cond (eqb o.slot i) o.coef 0) os o

weight_of_more : (ts : List Term) (i : ℕ) (t : Term) (k : ℕ) → i < length ts → t ≡ get_or ts i t → weight_of k (take (i + 1) ts) ≡ weight_of k (take i ts)
    + cond (eqb (literal_number t.lit) k) t.coef 0
weight_of_more ts i t k h is =
    let f : Term → ℕ = λ u. cond (eqb (literal_number u.lit) k) u.coef 0 in
    ap (weight_of k) (take_more ts i t h) ∙ sum_by_push f (take i ts) (get_or ts i t) ∙ ap (λ u. weight_of k (take i ts) + f u) (sym is)

-- the terms from a place on
pub weight_of-drop : (ts : List Term) (i : ℕ) (t : Term) (k : ℕ) → i < length ts → t ≡ get_or ts i t
    → weight_of k (drop i ts) ≡ cond (eqb (literal_number t.lit) k) t.coef 0 + weight_of k (drop (i + 1) ts)
weight_of-drop ts i t k h is =
    let f : Term → ℕ = λ u. cond (eqb (literal_number u.lit) k) u.coef 0 in
    let a : drop i ts ≡ t ∷ drop (i + 1) ts = drop-cons ts i t h ∙ ap (λ (u : Term). u ∷ drop (suc i) ts) (sym is) ∙ ap (λ (m : ℕ). t ∷ drop m ts) (sym (add-one i)) in
    ap (weight_of k) a ∙ sum_by-cons f t (drop (i + 1) ts)

pub occurrences_same : (lists : List (List Occurrence)) (k : ℕ) (os : List Occurrence) → k < length lists → occurrences_of (set lists k os) k ≡ os
occurrences_same lists k os h = (let none : List Occurrence = [] in get_or-set_same lists k os none h)

pub occurrences_other : (lists : List (List Occurrence)) (k j : ℕ) (os : List Occurrence) → j ≢ k → occurrences_of (set lists k os) j ≡ occurrences_of lists j
occurrences_other lists k j os n = (let none : List Occurrence = [] in get_or-set_other lists k j os none n)

pub Added-more : (slot : ℕ) (ts : List Term) (i : ℕ) (t : Term) (lists mid new : List (List Occurrence)) → Added slot (take i ts) lists mid → i < length ts → t ≡ get_or ts i t
    → literal_number t.lit < length lists → new ≡ set mid (literal_number t.lit) (occurrences_of mid (literal_number t.lit) ++ record { slot = slot; coef = t.coef } ∷ [])
    → Added slot (take (i + 1) ts) lists new
Added-more slot ts i t lists mid new p h is lt e =
    let k0 = literal_number t.lit in
    let one : Occurrence = record { slot = slot; coef = t.coef } in
    let os = occurrences_of mid k0 ++ one ∷ [] in
    let len = p.same_length in
    let lt' : k0 < length mid = omega arith in
    let P : List (List Occurrence) → Type 0 = λ us. Added slot (take (i + 1) ts) lists us in
    let B : ℕ → Occurrence → Type 0 = λ n o. o.slot < n in
    subst P (sym e) (record {
      same_length = length-set mid k0 os ∙ len;
      own = λ k. elim (cases_eq k k0) [
        | inl q ↦ (
            let Q : ℕ → Type 0 = λ j. weight_at slot (occurrences_of (set mid k0 os) j) ≡ weight_of j (take (i + 1) ts) in
            let a = ap (weight_at slot) (occurrences_same mid k0 os lt') ∙ weight_at-push (occurrences_of mid k0) one slot in
            let b = ap (λ (o : Bool). cond o t.coef 0) (eq-eqb slot slot refl) in
            let c = weight_of_more ts i t k0 h is in
            let d = ap (λ (o : Bool). cond o t.coef 0) (eq-eqb k0 k0 refl) in
            let f = p.own k0 in
            subst Q (sym q) (omega (arith, a, b, c, d, f)))
        | inr n ↦ (
            let a = ap (weight_at slot) (occurrences_other mid k0 k os n) in
            let c = weight_of_more ts i t k h is in
            let d = ap (λ (o : Bool). cond o t.coef 0) (ne_eqb k0 k (λ z. n (sym z))) in
            let f = p.own k in
            omega (arith, a, c, d, f))
      ];
      others = λ j k n. elim (cases_eq k k0) [
        | inl q ↦ (
            let Q : ℕ → Type 0 = λ m. weight_at j (occurrences_of (set mid k0 os) m) ≡ weight_at j (occurrences_of lists m) in
            let a = ap (weight_at j) (occurrences_same mid k0 os lt') ∙ weight_at-push (occurrences_of mid k0) one j in
            let b = ap (λ (o : Bool). cond o t.coef 0) (ne_eqb slot j (λ z. n (sym z))) in
            let f = p.others j k0 n in
            subst Q (sym q) (omega (arith, a, b, f)))
        | inr m ↦ (ap (weight_at j) (occurrences_other mid k0 k os m) ∙ p.others j k n)
      ];
      inside = λ n k l s. elim (cases_eq k k0) [
        | inl q ↦ (
            let Q : ℕ → Type 0 = λ m. SlotsBelow n (occurrences_of lists m) → SlotsBelow n (occurrences_of (set mid k0 os) m) in
            let R : List Occurrence → Type 0 = λ us. SlotsBelow n us in
            let here : Q k0 = λ z. subst R (sym (occurrences_same mid k0 os lt')) (All-push (B n) (occurrences_of mid k0) one (p.inside n k0 l z) l) in
            subst Q (sym q) here s)
        | inr m ↦ (
            let R : List Occurrence → Type 0 = λ us. SlotsBelow n us in
            subst R (sym (occurrences_other mid k0 k os m)) (p.inside n k l s))
      ];
    })

abbrev pub is_other : ℕ → Occurrence → Bool
is_other slot o = not (eqb o.slot slot)

-- what a filter leaves of a slot, where it takes each of its occurrences or none
pub weight_at_gone : (p : Occurrence → Bool) (i : ℕ) (os : List Occurrence) → ((o : Occurrence) → o.slot ≡ i → p o ≡ false) → weight_at i (filter p os) ≡ 0
weight_at_gone p i [] h = refl
weight_at_gone p i (o ∷ os) h = go (p o) refl (weight_at_gone p i os h)
  where
    go : (b : Bool) → p o ≡ b → weight_at i (filter p os) ≡ 0 → weight_at i (filter p (o ∷ os)) ≡ 0
    go false q ih = rw q ih
    go true q ih =
        let n : o.slot ≢ i = λ z. (let f = h o z in absurd (cc)) in
        let a = sum_by-cons (λ (o : Occurrence). cond (eqb o.slot i) o.coef 0) o (filter p os) in
        let b = ap (λ (x : Bool). cond x o.coef 0) (ne_eqb o.slot i n) in
        let c : weight_at i (o ∷ filter p os) ≡ 0 = omega (arith, a, b, ih) in
        rw q c

pub weight_at_kept : (p : Occurrence → Bool) (i : ℕ) (os : List Occurrence) → ((o : Occurrence) → o.slot ≡ i → p o ≡ true) → weight_at i (filter p os) ≡ weight_at i os
weight_at_kept p i [] h = refl
weight_at_kept p i (o ∷ os) h = go (p o) refl (weight_at_kept p i os h)
  where
    go : (b : Bool) → p o ≡ b → weight_at i (filter p os) ≡ weight_at i os → weight_at i (filter p (o ∷ os)) ≡ weight_at i (o ∷ os)
    go false q ih =
        let n : o.slot ≢ i = λ z. (let f = h o z in absurd (cc)) in
        let a = sum_by-cons (λ (o : Occurrence). cond (eqb o.slot i) o.coef 0) o os in
        let b = ap (λ (x : Bool). cond x o.coef 0) (ne_eqb o.slot i n) in
        let c : weight_at i (o ∷ os) ≡ weight_at i (filter p os) = omega (arith, a, b, ih) in
        rw q (sym c)
    go true q ih =
        let f : Occurrence → ℕ = λ (o : Occurrence). cond (eqb o.slot i) o.coef 0 in
        let c : weight_at i (o ∷ filter p os) ≡ weight_at i (o ∷ os) = sum_by-cons f o (filter p os) ∙ ap (λ (m : ℕ). f o + m) ih ∙ sym (sum_by-cons f o os) in
        rw q c

is_other_own : (slot : ℕ) (o : Occurrence) → o.slot ≡ slot → is_other slot o ≡ false
is_other_own slot o e = ap not (eq-eqb o.slot slot e)

is_other_else : (slot i : ℕ) → i ≢ slot → (o : Occurrence) → o.slot ≡ i → is_other slot o ≡ true
is_other_else slot i n o e = ap not (ne_eqb o.slot slot (λ z. n (sym e ∙ z)))

pub Removed-more : (slot : ℕ) (ts : List Term) (i : ℕ) (t : Term) (lists mid new : List (List Occurrence)) → Removed slot (drop i ts) lists mid → i < length ts → t ≡ get_or ts i t
    → literal_number t.lit < length lists → new ≡ set mid (literal_number t.lit) (filter (is_other slot) (occurrences_of mid (literal_number t.lit))) → Removed slot (drop (i + 1) ts) lists new
Removed-more slot ts i t lists mid new p h is lt e =
    let k0 = literal_number t.lit in
    let os = filter (is_other slot) (occurrences_of mid k0) in
    let len = p.same_length in
    let lt' : k0 < length mid = omega arith in
    let P : List (List Occurrence) → Type 0 = λ us. Removed slot (drop (i + 1) ts) lists us in
    let B : ℕ → Occurrence → Type 0 = λ n o. o.slot < n in
    subst P (sym e) (record {
      same_length = length-set mid k0 os ∙ len;
      own = λ k. elim (cases_eq k k0) [
        | inl q ↦ (
            let Q : ℕ → Type 0 = λ j. weight_at slot (occurrences_of (set mid k0 os) j) ≤ weight_of j (drop (i + 1) ts) in
            let a = ap (weight_at slot) (occurrences_same mid k0 os lt') ∙ weight_at_gone (is_other slot) slot (occurrences_of mid k0) (is_other_own slot) in
            subst Q (sym q) (omega (arith, a)))
        | inr n ↦ (
            let a = ap (weight_at slot) (occurrences_other mid k0 k os n) in
            let c = weight_of-drop ts i t k h is in
            let d = ap (λ (o : Bool). cond o t.coef 0) (ne_eqb k0 k (λ z. n (sym z))) in
            let f = p.own k in
            omega (arith, a, c, d, f))
      ];
      others = λ j k n. elim (cases_eq k k0) [
        | inl q ↦ (
            let Q : ℕ → Type 0 = λ m. weight_at j (occurrences_of (set mid k0 os) m) ≡ weight_at j (occurrences_of lists m) in
            let a = ap (weight_at j) (occurrences_same mid k0 os lt') ∙ weight_at_kept (is_other slot) j (occurrences_of mid k0) (is_other_else slot j n) ∙ p.others j k0 n in
            subst Q (sym q) a)
        | inr m ↦ (ap (weight_at j) (occurrences_other mid k0 k os m) ∙ p.others j k n)
      ];
      inside = λ n k s. elim (cases_eq k k0) [
        | inl q ↦ (
            let Q : ℕ → Type 0 = λ m. SlotsBelow n (occurrences_of lists m) → SlotsBelow n (occurrences_of (set mid k0 os) m) in
            let R : List Occurrence → Type 0 = λ us. SlotsBelow n us in
            let here : Q k0 = λ z. subst R (sym (occurrences_same mid k0 os lt')) (All-filter (is_other slot) (B n) (occurrences_of mid k0) (p.inside n k0 z)) in
            subst Q (sym q) here s)
        | inr m ↦ (
            let R : List Occurrence → Type 0 = λ us. SlotsBelow n us in
            subst R (sym (occurrences_other mid k0 k os m)) (p.inside n k s))
      ];
    })

pub attached-push : (k : ℕ) (slots : List (Option Linear)) → attached_from k (slots ++ empty ∷ []) ≡ attached_from k slots
attached-push k [] = refl
attached-push k (None ∷ slots) = attached-push (k + 1) slots
attached-push k (Some c ∷ slots) = ap (λ (us : List Attached). record { id = record { 0 = k }; constraint = c } ∷ us) (attached-push (k + 1) slots)

pub on_ok : {X : Type 0} (r : Result (Unit {0}) AllocError) (a b : List (List X)) → is_err r ≡ false → OnOk r (a ≡ b) → a ≡ b
on_ok (Ok x) a b h k = k
on_ok (Err e) a b h k = absurd (cc)

pub slot_same : (slots : List (Option Linear)) (i : ℕ) (o : Option Linear) → i < length slots → get_or (set slots i o) i empty ≡ o
slot_same slots i o h = get_or-set_same slots i o empty h

pub slot_other : (slots : List (Option Linear)) (i j : ℕ) (o : Option Linear) → j ≢ i → get_or (set slots i o) j empty ≡ get_or slots j empty
slot_other slots i j o n = get_or-set_other slots i j o empty n

pub linear_same : (slots : List (Option Linear)) (i : ℕ) (o : Option Linear) → i < length slots → linear_at (set slots i o) i ≡ unwrap_or o nothing
linear_same slots i o h = ap (λ (u : Option Linear). unwrap_or u nothing) (slot_same slots i o h)

pub linear_other : (slots : List (Option Linear)) (i j : ℕ) (o : Option Linear) → j ≢ i → linear_at (set slots i o) j ≡ linear_at slots j
linear_other slots i j o n = ap (λ (u : Option Linear). unwrap_or u nothing) (slot_other slots i j o n)

-- what holds of the new constraint and of the others
pub at_each : (slots : List (Option Linear)) (i : ℕ) (o : Option Linear) (P : ℕ → Linear → Type 0) → i < length slots → P i (unwrap_or o nothing) → ((j : ℕ) → j ≢ i → P j (linear_at slots j))
    → (j : ℕ) → P j (linear_at (set slots i o) j)
at_each slots i o P h here others j = elim (cases_eq j i) [
  | inl e ↦ (
      let Q : ℕ → Type 0 = λ m. P m (linear_at (set slots i o) m) in
      let R : Linear → Type 0 = λ c. P i c in
      subst Q (sym e) (subst R (sym (linear_same slots i o h)) here))
  | inr n ↦ (let R : Linear → Type 0 = λ c. P j c in subst R (sym (linear_other slots i j o n)) (others j n))
]

-- a slot that is filled, or emptied: what is given of its constraint, and the lists and limits of the others as before
pub built_set : (n i limit : ℕ) (o : Option Linear) (slots : List (Option Linear)) (limits : List ℕ) (lists lists' : List (List Occurrence)) → IsBuilt n slots limits lists → i < length slots
    → i < length limits → VarsBelow n (unwrap_or o nothing).terms → total (unwrap_or o nothing).terms < 2 ^ 63 → IsLimited limit (unwrap_or o nothing) → length lists' ≡ length lists
    → ((k : ℕ) → SlotsBelow (length slots) (occurrences_of lists' k)) → ((k : ℕ) → weight_at i (occurrences_of lists' k) ≡ weight_of k (unwrap_or o nothing).terms)
    → ((j k : ℕ) → j ≢ i → weight_at j (occurrences_of lists' k) ≡ weight_at j (occurrences_of lists k)) → IsBuilt n (set slots i o) (set limits i limit) lists'
built_set n i limit o slots limits lists lists' b h h' range small limited len inside own others =
    let wide = b.wide in
    let V : ℕ → Linear → Type 0 = λ j c. VarsBelow n c.terms in
    let T : ℕ → Linear → Type 0 = λ j c. total c.terms < 2 ^ 63 in
    let W : ℕ → ℕ → Linear → Type 0 = λ k j c. weight_at j (occurrences_of lists' k) ≡ weight_of k c.terms in
    let L : ℕ → Linear → Type 0 = λ j c. IsLimited (get_or (set limits i limit) j 0) c in
    record {
      few = b.few;
      wide = omega arith;
      in_range = at_each slots i o V h range (λ j z. b.in_range j);
      small = at_each slots i o T h small (λ j z. b.small j);
      inside = λ k j d g. (let a = inside k j d g in let m = length-set slots i o in omega (arith, a, m));
      weights = λ j k. at_each slots i o (W k) h (own k) (λ j z. others j k z ∙ b.weights j k) j;
      limited = at_each slots i o L h
          (let P : ℕ → Type 0 = λ x. IsLimited x (unwrap_or o nothing) in subst P (sym (get_or-set_same limits i limit 0 h')) limited)
          (λ j z. (let P : ℕ → Type 0 = λ x. IsLimited x (linear_at slots j) in subst P (sym (get_or-set_other limits i j limit 0 z)) (b.limited j)));
    }

pub step_filled : (n i room : ℕ) (c : Linear) (slots : List (Option Linear)) (rooms : List ℕ) (w w' : List Bool) (ls : List Literal) (q : ℕ → Option Bool) → IsInStep n slots rooms w ls q
    → i < length slots → i < length rooms → room ≡ open_weight (value_given ls) c.terms → Awaits i w w' → IsInStep n (set slots i (Some c)) (set rooms i room) w' ls q
step_filled n i room c slots rooms w w' ls q s h h' is a =
    let S : ℕ → Linear → Type 0 = λ j k. get_or (set rooms i room) j 0 ≡ open_weight (value_given ls) k.terms in
    let Q : ℕ → Linear → Type 0 = λ j k. is_waiting w' j ≡ false → IsQuiet (get_or (set rooms i room) j 0) q k in
    record {
      sums = at_each slots i (Some c) S h (get_or-set_same rooms i room 0 h' ∙ is) (λ j z. get_or-set_other rooms i j room 0 z ∙ s.sums j);
      distinct = s.distinct;
      below = s.below;
      quiet =
          at_each slots i (Some c) Q h (λ z. absurd (a.here z)) (λ j n z. (let P : ℕ → Type 0 = λ x. IsQuiet x q (linear_at slots j) in
          subst P (sym (get_or-set_other rooms i j room 0 n)) (s.quiet j (a.others j z))));
    }

pub limited_nothing : (limit : ℕ) → IsLimited limit nothing
limited_nothing limit = record { degree = omega arith; terms = λ k d h. absurd (omega arith) }
