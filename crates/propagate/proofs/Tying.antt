-- What the calls answer, tied to the fields.
use Rattle.std.proofs.Common.{◌≡◌, ℕ, ◌+◌, ◌-◌, ◌<◌, ◌≤◌, Bool, Option, Some, None, List, [], ◌∷◌, ◌++◌, length, get_or, set, take, map, refl, sym, ap, ◌∙◌, subst, arith}
use Rattle.std.proofs.lemmas.List.{take_more, get_or-map, map-set, set-get_or, take-map, take_more_set, get_or_default, length-map, length_push, get_or_push}
use Rattle.std.specs.Prelude.{All}
use Rattle.pb_rules.specs.Literal.{Literal}
use Rattle.std.proofs.Common.{cond}
use Rattle.std.proofs.lemmas.List.Sums.{sum_by-cons}
use Rattle.pb_rules.specs.declared.Term.{Term}
use Rattle.pb_rules.specs.Partial.{open_weight, is_false, falsifies}
use Rattle.pb_rules.specs.Linear.{Linear}
use Rattle.pb_constraints.specs.declared.ConId.{ConId}
use Rattle.trail_state.specs.Trail.{Entry, value_in, IsDistinct}
use Rattle.propagate.specs.declared.occurrences.Occurrence.{Occurrence}
use Rattle.propagate.specs.Attached.{Attached, attached_at}
use Rattle.propagate.specs.Forced.{Appends}
use Rattle.propagate.specs.Counters.{value_given, attached_from, linear_at, occurrences_of, TookRooms, GaveRooms, Woke}
use Rattle.propagate.proofs.Attaching.{attached_at-one, attached_at_slot, empty}
use Rattle.propagate.proofs.Appending.{Appends-wider}
use Rattle.propagate.proofs.Weights.{value_given_entries}

abbrev pub lits_of : List Entry → List Literal
lits_of es = map (λ (e : Entry). e.lit) es

pub took_by : (os os' : List Occurrence) (limits limits' rooms rooms' done : List ℕ) (w w' : List Bool) → os ≡ os' → limits ≡ limits' → rooms ≡ rooms' → TookRooms os limits rooms done w w'
    → TookRooms os' limits' rooms' done w w'
took_by os os' limits limits' rooms rooms' done w w' a b c t =
    let P : List Occurrence → Type 0 = λ us. TookRooms us limits rooms done w w' in
    let Q : List ℕ → Type 0 = λ us. TookRooms os' us rooms done w w' in
    let R : List ℕ → Type 0 = λ us. TookRooms os' limits' us done w w' in
    subst R c (subst Q b (subst P a t))

pub gave_by : (os os' : List Occurrence) (rooms rooms' done : List ℕ) → os ≡ os' → rooms ≡ rooms' → GaveRooms os rooms done → GaveRooms os' rooms' done
gave_by os os' rooms rooms' done a c t =
    let P : List Occurrence → Type 0 = λ us. GaveRooms us rooms done in
    let R : List ℕ → Type 0 = λ us. GaveRooms os' us done in
    subst R c (subst P a t)

pub woke_by : (os os' : List Occurrence) (limits limits' rooms rooms' : List ℕ) (w w' : List Bool) → os ≡ os' → limits ≡ limits' → rooms ≡ rooms' → Woke os limits rooms w w'
    → Woke os' limits' rooms' w w'
woke_by os os' limits limits' rooms rooms' w w' a b c t =
    let P : List Occurrence → Type 0 = λ us. Woke us limits rooms w w' in
    let Q : List ℕ → Type 0 = λ us. Woke os' us rooms w w' in
    let R : List ℕ → Type 0 = λ us. Woke os' limits' us w w' in
    subst R c (subst Q b (subst P a t))

-- the next literal of a trail has no value before it
pub next_free : (es : List Entry) (k : ℕ) (l : Literal) → IsDistinct es → k < length es → l ≡ get_or (lits_of es) k l → value_given (take k (lits_of es)) l.var ≡ None
next_free es k l distinct h at =
    let e : Entry = record { lit = l; reason = None } in
    let a : l ≡ (get_or es k e).lit = at ∙ get_or-map (λ (e : Entry). e.lit) es k e l h in
    let t : take k (lits_of es) ≡ lits_of (take k es) = take-map (λ (e : Entry). e.lit) k es in
    ap (λ (us : List Literal). value_given us l.var) t ∙ value_given_entries (take k es) l.var ∙ ap (λ (m : Literal). value_in (take k es) m.var) a ∙ distinct k e h

-- its variable is in range
pub next_below : (es : List Entry) (n k : ℕ) (l : Literal) → ((j : ℕ) (d : Entry) → j < length es → (get_or es j d).lit.var < n) → k < length es → l ≡ get_or (lits_of es) k l → l.var < n
next_below es n k l below h at =
    let e : Entry = record { lit = l; reason = None } in
    let a : l ≡ (get_or es k e).lit = at ∙ get_or-map (λ (e : Entry). e.lit) es k e l h in
    let P : Literal → Type 0 = λ m. m.var < n in
    subst P (sym a) (below k e h)

pub last_counted : (ls : List Literal) (used : ℕ) (l : Literal) → 0 < used → used ≤ length ls → l ≡ get_or ls (used - 1) l → take used ls ≡ take (used - 1) ls ++ l ∷ []
last_counted ls used l h k at =
    let e : used ≡ used - 1 + 1 = omega arith in
    let lt : used - 1 < length ls = omega arith in
    ap (λ (n : ℕ). take n ls) e ∙ take_more ls (used - 1) l lt ∙ ap (λ (m : Literal). take (used - 1) ls ++ m ∷ []) (sym at)

-- the list of one literal, where the lists stand in vectors
pub lists_at : {V X : Type 0} → (vs : List V) (f : V → List X) (lists : List (List X)) (k k' : ℕ) (v : V) → map f vs ≡ lists → k ≡ k' → k' < length lists → v ≡ get_or vs k v
    → f v ≡ get_or lists k' []
lists_at {V} {X} vs f lists k k' v e q h at =
    let none : List X = [] in
    let len : length (map f vs) ≡ length vs = length-map vs f in
    let len' : length (map f vs) ≡ length lists = ap (λ (us : List (List X)). length us) e in
    let lt : k < length vs = omega arith in
    ap f at ∙ sym (get_or-map f vs k v none lt) ∙ ap (λ (us : List (List X)). get_or us k none) e ∙ ap (λ (n : ℕ). get_or lists n none) q

pub lists_set : {V X : Type 0} → (vs : List V) (f : V → List X) (lists : List (List X)) (k k' : ℕ) (w : V) (xs : List X) → map f vs ≡ lists → k ≡ k' → f w ≡ xs
    → map f (set vs k w) ≡ set lists k' xs
lists_set {V} {X} vs f lists k k' w xs e q is =
    map-set f vs k w ∙ ap (λ (us : List (List X)). set us k (f w)) e ∙ ap (λ (n : ℕ). set lists n (f w)) q ∙ ap (λ (us : List X). set lists k' us) is

pub lists_same : (lists : List (List Occurrence)) (k : ℕ) → set lists k (occurrences_of lists k) ≡ lists
lists_same lists k = (let none : List Occurrence = [] in set-get_or lists k none)

-- what is read in a slot
pub slot_is : (slots : List (Option Linear)) (i : ℕ) (o : Option Linear) (c : Linear) → i < length slots → o ≡ get_or slots i o → o ≡ Some c → get_or slots i empty ≡ Some c
slot_is slots i o c h at is = get_or_default slots i empty o h ∙ sym at ∙ is

pub linear_is : (slots : List (Option Linear)) (i : ℕ) (c : Linear) → get_or slots i empty ≡ Some c → linear_at slots i ≡ c
linear_is slots i c h = rw h refl

pub appends_slot : (slots : List (Option Linear)) (i : ℕ) (c : Linear) (es fs : List Entry) → get_or slots i empty ≡ Some c → Appends (record { id = record { 0 = i }; constraint = c } ∷ []) es fs
    → Appends (attached_from 0 slots) es fs
appends_slot slots i c es fs h a =
    let one : Attached = record { id = record { 0 = i }; constraint = c } in
    Appends-wider (one ∷ []) (attached_from 0 slots) es fs
    (λ d k q. (let w = attached_at-one one d k q in
    ap (λ (x : ConId). attached_at (attached_from 0 slots) x) (sym w.0) ∙ attached_at_slot slots one.id ∙ h ∙ ap (λ (l : Linear). Some l) w.1))
    a

pub pushed_counted : (ms : List Literal) (used : ℕ) (l : Literal) → used < length ms → take (used + 1) (set ms used l) ≡ take used ms ++ l ∷ []
pushed_counted ms used l h = take_more_set ms used l h

pub last_below : (n : ℕ) (us ls : List Literal) (l : Literal) → us ≡ ls ++ l ∷ [] → All (λ (m : Literal). m.var < n) us → l.var < n
last_below n us ls l e h =
    let P : List Literal → Type 0 = λ vs. All (λ (m : Literal). m.var < n) vs in
    let h' = subst P e h in
    let len = length_push ls l in
    let g : get_or (ls ++ l ∷ []) (length ls) l ≡ l = get_or_push ls l l (length ls) refl in
    let Q : Literal → Type 0 = λ m. m.var < n in
    subst Q g (h' (length ls) l (omega (arith, len)))

-- all literals are counted: the values are the trail's
pub weight_same : (p q : ℕ → Option Bool) (ts : List Term) → ((x : ℕ) → p x ≡ q x) → open_weight p ts ≡ open_weight q ts
weight_same p q [] h = refl
weight_same p q (t ∷ ts) h =
    let f : (ℕ → Option Bool) → Term → ℕ = λ r u. cond (is_false r u.lit) 0 u.coef in
    let ih = weight_same p q ts h in
    let here : is_false p t.lit ≡ is_false q t.lit = ap (λ (o : Option Bool). falsifies o t.lit.yes) (h t.lit.var) in
    sum_by-cons (f p) t ts ∙ ap (λ (b : Bool). cond b 0 t.coef + open_weight p ts) here ∙ ap (λ (m : ℕ). cond (is_false q t.lit) 0 t.coef + m) ih ∙ sym (sum_by-cons (f q) t ts)

-- the room that is read is that under the trail
pub room_is : (slots : List (Option Linear)) (rooms : List ℕ) (ls : List Literal) (es : List Entry) (i room : ℕ) (c : Linear) → ls ≡ lits_of es → get_or slots i empty ≡ Some c → i < length rooms
    → room ≡ get_or rooms i room → get_or rooms i 0 ≡ open_weight (value_given ls) (linear_at slots i).terms → room ≡ open_weight (value_in es) c.terms
room_is slots rooms ls es i room c counted here lt at sum =
    let d : get_or rooms i 0 ≡ get_or rooms i room = get_or_default rooms i 0 room lt in
    at ∙ sym d ∙ sum ∙ ap (λ (us : List Literal). open_weight (value_given us) (linear_at slots i).terms) counted
    ∙ weight_same (value_given (lits_of es)) (value_in es) (linear_at slots i).terms (value_given_entries es) ∙ ap (λ (k : Linear). open_weight (value_in es) k.terms) (linear_is slots i c here)
