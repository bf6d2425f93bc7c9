-- What a visit of a watch keeps, and what it leaves to visit.
use Rattle.std.proofs.Common.{◌≡◌, ◌≢◌, ◌⊎◌, ℕ, ◌+◌, ◌<◌, ◌≤◌, Bool, true, false, not, Option, Some, None, List, [], length, get_or, set, take, drop, refl, sym, ap, ◌∙◌, subst, arith, inl, inr, zero, suc, get_or-set_same, get_or-set_other}
use Rattle.std.specs.Prelude.{Contains}
use Rattle.std.proofs.lemmas.Bool.{cases_eq}
use Rattle.std.proofs.lemmas.List.{get_or_default, get_or-drop, get_or-map, length-drop, length-set, drop-set-lt, take-take, take_all}
use Rattle.pb_rules.specs.Literal.{Literal, opposite_of}
use Rattle.pb_rules.specs.Linear.{Linear}
use Rattle.pb_rules.specs.Partial.{GoesOn, falsifies, is_false}
use Rattle.trail_state.specs.Trail.{Entry, value_in, IsDistinct}
use Rattle.trail_state.proofs.Entries.{GoesOn-take, value_more_same, value_more_other}
use Rattle.propagate.specs.Attached.{Attached}
use Rattle.propagate.specs.Forced.{Appends, AllClosed}
use Rattle.propagate.specs.declared.lists.Watch.{Watch}
use Rattle.propagate.specs.declared.watches.Watches.{Watches as Clauses}
use Rattle.propagate.specs.Counters.{literal_number, attached_from}
use Rattle.propagate.specs.Watched.{WatchedView, HasLiteral, HasTrue, Watches, IsGuarded, AreKept, AreGuarded, wholes}
use Rattle.propagate.specs.Watches.{watches_of, IsListedIn, AreListed, AreWatched, KeepsGuards, AreSettled, AreSettledBut}
use Rattle.propagate.proofs.Appending.{Appends-trans, appends_goes_on}
use Rattle.propagate.proofs.Tying.{lits_of}
use Rattle.propagate.proofs.Weights.{literal_is, same_literal}
use Rattle.propagate.proofs.Guarding.{true_later, guarded_later, all_guarded_closed}
use Rattle.propagate.proofs.Wholes.{whole_is, kept_in, listed_later}

-- one run after another, over the same clauses
pub appends_more : (old new : List (Option WatchedView)) (a b c : List Entry) → wholes new ≡ wholes old → Appends (attached_from 0 (wholes old)) a b → Appends (attached_from 0 (wholes new)) b c
    → Appends (attached_from 0 (wholes old)) a c
appends_more old new a b c e f g = (let P : List (Option Linear) → Type 0 = λ ws. Appends (attached_from 0 ws) b c in Appends-trans (attached_from 0 (wholes old)) a b c f (subst P e g))

-- and what both keep guarded
pub keeps_more : (held : List Attached) (es fs : List Entry) (a b c : List (Option WatchedView)) → Appends held es fs → KeepsGuards (value_in es) a b → KeepsGuards (value_in fs) b c
    → KeepsGuards (value_in es) a c
keeps_more held es fs a b c on k l q p h guarded = l q p (λ x v e. appends_goes_on held es fs on x v (h x v e)) (k q p h guarded)

falsified_opposite : (a b : Bool) → falsifies (Some a) b ≡ true → not a ≡ b
falsified_opposite true false h = refl
falsified_opposite false true h = refl
falsified_opposite true true h = absurd (cc)
falsified_opposite false false h = absurd (cc)

abbrev no_watches : List Watch
no_watches = []

-- where another watch is put in the place of one
listed_at : (list : List Watch) (place : ℕ) (one new : Watch) (i : ℕ) (w : WatchedView) → place < length list → one ≡ get_or list place one → new.slot ≡ one.slot
    → (one.slot ≡ i → HasLiteral w.whole.terms one.other → HasLiteral w.whole.terms new.other) → IsListedIn list i w → IsListedIn (set list place new) i w
listed_at list place one new i w lt at slot f h =
    let there = h.there in
    let len = length-set list place new in
    elim (cases_eq there.0 place) [
      | inl e ↦ (
          let is : h.watch ≡ one = sym there.2 ∙ ap (λ (k : ℕ). get_or list k h.watch) e ∙ get_or_default list place h.watch one lt ∙ sym at in
          let s : one.slot ≡ i = ap (λ (x : Watch). x.slot) (sym is) ∙ h.slot in
          let P : Watch → Type 0 = λ x. HasLiteral w.whole.terms x.other in
          record { watch = new; there = (place, omega (arith, lt, len), get_or-set_same list place new new lt); slot = slot ∙ s; named = f s (subst P is h.named) })
      | inr n ↦ (let l = there.1 in
          record { watch = h.watch; there = (there.0, omega (arith, l, len), get_or-set_other list place there.0 new h.watch n ∙ there.2); slot = h.slot; named = h.named })
    ]

-- the clauses stay listed where a watch stays under another name
pub listed_set : (slots : List (Option WatchedView)) (lists : List (List Watch)) (gone : Literal) (place : ℕ) (one new : Watch) → literal_number gone < length lists
    → place < length (watches_of lists (literal_number gone)) → one ≡ get_or (watches_of lists (literal_number gone)) place one → new.slot ≡ one.slot
    → ((w : WatchedView) → get_or slots one.slot None ≡ Some w → Watches w gone → HasLiteral w.whole.terms one.other → HasLiteral w.whole.terms new.other)
    → AreListed slots lists → AreListed slots (set lists (literal_number gone) (set (watches_of lists (literal_number gone)) place new))
listed_set slots lists gone place one new room lt at slot f h i w l here m =
    let n = literal_number gone in
    let list = watches_of lists n in
    let P : List Watch → Type 0 = λ us. IsListedIn us i w in
    elim (cases_eq (literal_number l) n) [
      | inl e ↦ (
          let W : Literal → Type 0 = λ x. Watches w x in
          let m' = subst W (same_literal l gone e) m in
          let at_slot : one.slot ≡ i → get_or slots one.slot None ≡ Some w = λ s. ap (λ (k : ℕ). get_or slots k None) s ∙ here in
          let made = listed_at list place one new i w lt at slot (λ s x. f w (at_slot s) m' x) (h i w gone here m') in
          let Q : ℕ → Type 0 = λ k. IsListedIn (watches_of (set lists n (set list place new)) k) i w in
          subst Q (sym e) (subst P (sym (get_or-set_same lists n (set list place new) no_watches room)) made))
      | inr d ↦ subst P (sym (get_or-set_other lists n (literal_number l) (set list place new) no_watches d)) (h i w l here m)
    ]

listed_but : (list list' : List Watch) (one : Watch) (i : ℕ) (w : WatchedView)
    → ((x : Watch) → x ≢ one → Contains list x → Contains list' x) → i ≢ one.slot → IsListedIn list i w → IsListedIn list' i w
listed_but list list' one i w f n h = record { watch = h.watch; there = f h.watch (λ e. n (sym h.slot ∙ ap (λ (x : Watch). x.slot) e)) h.there; slot = h.slot; named = h.named }

-- and where a watch is taken out of the list of a literal that its clause doesn't watch
pub listed_out : (slots : List (Option WatchedView)) (lists lists' : List (List Watch)) (gone : Literal) (one : Watch)
    → ((k : ℕ) → k ≢ literal_number gone → watches_of lists' k ≡ watches_of lists k)
    → ((x : Watch) → x ≢ one → Contains (watches_of lists (literal_number gone)) x → Contains (watches_of lists' (literal_number gone)) x)
    → ((w : WatchedView) → get_or slots one.slot None ≡ Some w → Watches w gone → ⊥) → AreListed slots lists → AreListed slots lists'
listed_out slots lists lists' gone one others rest none h i w l here m =
    let n = literal_number gone in
    elim (cases_eq (literal_number l) n) [
      | inl e ↦ (
          let W : Literal → Type 0 = λ x. Watches w x in
          let m' = subst W (same_literal l gone e) m in
          let apart : i ≢ one.slot = λ s. none w (ap (λ (k : ℕ). get_or slots k None) (sym s) ∙ here) m' in
          let Q : ℕ → Type 0 = λ k. IsListedIn (watches_of lists' k) i w in
          subst Q (sym e) (listed_but (watches_of lists n) (watches_of lists' n) one i w rest apart (h i w gone here m')))
      | inr d ↦ (let P : List Watch → Type 0 = λ us. IsListedIn us i w in subst P (sym (others (literal_number l) d)) (h i w l here m))
    ]

-- what is kept with other lists, as many as before
pub watched_relisted : (n m : ℕ) (w : Clauses) (lists : List (List Watch)) → m ≡ n → length lists ≡ length w.lists → AreListed w.slots.items lists → AreWatched n w
    → AreWatched m (record { slots = w.slots; lists = lists; closed = w.closed })
watched_relisted n m w lists e len listed h =
    let wide = h.wide in
    let P : ℕ → Type 0 = λ k. AreWatched k (record { slots = w.slots; lists = lists; closed = w.closed }) in
    subst P (sym e) (record { few = h.few; wide = omega (arith, wide, len); kept = h.kept; listed = listed })

-- what is taken out of a list is what was read there
pub taken_is : (list : List Watch) (place : ℕ) (out one : Watch) → place < length list → out ≡ get_or list place out → one ≡ get_or list place one → out ≡ one
taken_is list place out one lt a b = a ∙ get_or_default list place out one lt ∙ sym b

-- at the end none is left to visit
pub settled_end : (slots : List (Option WatchedView)) (list : List Watch) (place : ℕ) (gone : Literal) (q : ℕ → Option Bool) → length list ≤ place → AreSettledBut (drop place list) q gone slots
    → AreSettled q gone slots
settled_end slots list place gone q le h i w here m = elim (h i w here m) [
  | inl t ↦ t
  | inr x ↦ (let lt = x.there.1 in let len = length-drop place list in absurd (omega (arith, lt, len, le)))
]

-- a watch that is left is the next one, or left after it
next_or_later : (list : List Watch) (place : ℕ) (one new : Watch) (i : ℕ) (w : WatchedView) → one ≡ get_or list place one → place < length list → IsListedIn (drop place list) i w
    → ((one.slot ≡ i) × HasLiteral w.whole.terms one.other) ⊎ IsListedIn (drop (place + 1) (set list place new)) i w
next_or_later list place one new i w at lt h = go h.there.0 h.there.1 h.there.2
  where
    go : (k : ℕ) → k < length (drop place list) → get_or (drop place list) k h.watch ≡ h.watch
        → ((one.slot ≡ i) × HasLiteral w.whole.terms one.other) ⊎ IsListedIn (drop (place + 1) (set list place new)) i w
    go zero l e =
        let is : h.watch ≡ one = sym e ∙ get_or-drop place list 0 h.watch ∙ ap (λ (k : ℕ). get_or list k h.watch) (omega arith) ∙ get_or_default list place h.watch one lt ∙ sym at in
        let P : Watch → Type 0 = λ x. HasLiteral w.whole.terms x.other in
        inl (ap (λ (x : Watch). x.slot) (sym is) ∙ h.slot, subst P is h.named)
    go (suc k) l e =
        let a = length-drop place list in
        let b = length-drop (place + 1) list in
        let is : get_or (drop (place + 1) list) k h.watch ≡ h.watch = get_or-drop (place + 1) list k h.watch ∙ ap (λ (j : ℕ). get_or list j h.watch) (omega arith)
        ∙ sym (get_or-drop place list (suc k) h.watch) ∙ e in
        let there : Contains (drop (place + 1) list) h.watch = (k, omega (arith, l, a, b), is) in
        let P : List Watch → Type 0 = λ us. Contains us h.watch in
        inr (record { watch = h.watch; there = subst P (sym (drop-set-lt (place + 1) list place new (omega arith))) there; slot = h.slot; named = h.named })

-- a watch that stays: its clause has a true literal now, or a further watch
pub settled_stays : (list : List Watch) (p q : ℕ → Option Bool) (gone : Literal) (old new : List (Option WatchedView)) (place : ℕ) (one named : Watch)
    → one ≡ get_or list place one → place < length list → GoesOn p q → wholes new ≡ wholes old → ((i : ℕ) → i ≢ one.slot → get_or new i None ≡ get_or old i None)
    → ((w v : WatchedView) → get_or new one.slot None ≡ Some w → get_or old one.slot None ≡ Some v → Watches w gone → Watches v gone)
    → ((w : WatchedView) → get_or new one.slot None ≡ Some w → Watches w gone → HasLiteral w.whole.terms one.other → HasTrue q w.whole.terms)
    → AreSettledBut (drop place list) p gone old → AreSettledBut (drop (place + 1) (set list place named)) q gone new
settled_stays list p q gone old new place one named at lt g whole others before stays h i w here m =
    elim (cases_eq i one.slot) [
      | inl s ↦ (
          let v = kept_in old i w.whole (ap (λ (us : List (Option Linear)). get_or us i None) (sym whole) ∙ whole_is new i w here) in
          let here' : get_or new one.slot None ≡ Some w = ap (λ (k : ℕ). get_or new k None) (sym s) ∙ here in
          let was : get_or old one.slot None ≡ Some v.0 = ap (λ (k : ℕ). get_or old k None) (sym s) ∙ v.1 in
          let T : Linear → Type 0 = λ c. HasTrue q c.terms in
          let L : Linear → Type 0 = λ c. HasLiteral c.terms one.other in
          elim (h i v.0 v.1 (before w v.0 here' was m)) [
            | inl t ↦ inl (subst T v.2 (true_later p q v.0.whole.terms g t))
            | inr x ↦ (elim (next_or_later list place one named i v.0 at lt x) [
              | inl y ↦ inl (stays w here' m (subst L v.2 y.1))
              | inr y ↦ inr (let later = drop (place + 1) (set list place named) in listed_later later later i v.0 w (sym v.2) (λ x t. t) y)
            ])
          ])
      | inr n ↦ (elim (h i w (sym (others i n) ∙ here) m) [
        | inl t ↦ inl (true_later p q w.whole.terms g t)
        | inr x ↦ (elim (next_or_later list place one named i w at lt x) [
          | inl y ↦ absurd (n (sym y.0))
          | inr y ↦ inr y
        ])
      ])
    ]

-- a watch that leaves: its clause no longer watches the literal
pub settled_leaves : (list list' : List Watch) (p q : ℕ → Option Bool) (gone : Literal) (old new : List (Option WatchedView)) (place : ℕ) (one : Watch) → GoesOn p q
    → ((i : ℕ) → i ≢ one.slot → get_or new i None ≡ get_or old i None) → ((w : WatchedView) → get_or new one.slot None ≡ Some w → Watches w gone → ⊥)
    → ((x : Watch) → x ≢ one → Contains (drop place list) x → Contains (drop place list') x) → AreSettledBut (drop place list) p gone old → AreSettledBut (drop place list') q gone new
settled_leaves list list' p q gone old new place one g others none ahead h i w here m =
    elim (cases_eq i one.slot) [
      | inl s ↦ absurd (none w (ap (λ (k : ℕ). get_or new k None) (sym s) ∙ here) m)
      | inr n ↦ (elim (h i w (sym (others i n) ∙ here) m) [
        | inl t ↦ inl (true_later p q w.whole.terms g t)
        | inr x ↦ inr (listed_but (drop place list) (drop place list') one i w ahead n x)
      ])
    ]

opposite_falsified : (a : Bool) → falsifies (Some a) (not a) ≡ true
opposite_falsified true = refl
opposite_falsified false = refl

-- what the trail reads at a place
next_value : (es : List Entry) (k : ℕ) (l : Literal) → IsDistinct es → k < length es → l ≡ get_or (lits_of es) k l
    → (value_in (take (k + 1) es) l.var ≡ Some l.yes) × ((x : ℕ) → l.var ≢ x → value_in (take (k + 1) es) x ≡ value_in (take k es) x)
next_value es k l distinct h at =
    let d : Entry = record { lit = l; reason = None } in
    let is : l ≡ (get_or es k d).lit = at ∙ get_or-map (λ (e : Entry). e.lit) es k d l h in
    let P : Literal → Type 0 = λ m. (value_in (take (k + 1) es) m.var ≡ Some m.yes) × ((x : ℕ) → m.var ≢ x → value_in (take (k + 1) es) x ≡ value_in (take k es) x) in
    subst P (sym is) (value_more_same es k d h distinct, λ x n. value_more_other es k d x h n)

-- the opposite of a literal of the trail is false
pub opposite_false : (es : List Entry) (k : ℕ) (l : Literal) → IsDistinct es → k < length es → l ≡ get_or (lits_of es) k l → is_false (value_in es) (opposite_of l) ≡ true
opposite_false es k l distinct h at =
    let v = next_value es k l distinct h at in
    ap (λ (o : Option Bool). falsifies o (not l.yes)) (GoesOn-take es (k + 1) l.var l.yes v.0) ∙ opposite_falsified l.yes

-- what one more literal of the trail makes false is its opposite
false_more : (es : List Entry) (k : ℕ) (l m : Literal) → IsDistinct es → k < length es → l ≡ get_or (lits_of es) k l → is_false (value_in (take (k + 1) es)) m ≡ true
    → (is_false (value_in (take k es)) m ≡ true) ⊎ (m ≡ opposite_of l)
false_more es k l m distinct h at f =
    let v = next_value es k l distinct h at in
    elim (cases_eq l.var m.var) [
      | inl e ↦ (let w : value_in (take (k + 1) es) m.var ≡ Some l.yes = ap (λ (x : ℕ). value_in (take (k + 1) es) x) (sym e) ∙ v.0 in
          let f' : falsifies (Some l.yes) m.yes ≡ true = ap (λ (o : Option Bool). falsifies o m.yes) (sym w) ∙ f in
          inr (literal_is m (opposite_of l) (sym e) (sym (falsified_opposite l.yes m.yes f'))))
      | inr n ↦ inl (ap (λ (o : Option Bool). falsifies o m.yes) (sym (v.1 m.var n)) ∙ f)
    ]

same_first : (held : List Attached) (es fs : List Entry) (k : ℕ) → Appends held es fs → k ≤ length es → take k fs ≡ take k es
same_first held es fs k a h = sym (take-take k (length es) fs h) ∙ ap (λ (us : List Entry). take k us) a.kept

-- what is guarded under the first literals of a trail stays so while it grows
pub guarded_on : (held : List Attached) (es fs : List Entry) (k : ℕ) (old new : List (Option WatchedView)) → Appends held es fs → k ≤ length es → KeepsGuards (value_in es) old new
    → AreGuarded (value_in (take k es)) (value_in es) old → AreGuarded (value_in (take k fs)) (value_in fs) new
guarded_on held es fs k old new a h keeps guarded i w here =
    let P : List Entry → Type 0 = λ us. IsGuarded (value_in us) (value_in fs) w in
    subst P (sym (same_first held es fs k a h))
    (guarded_later (value_in (take k es)) (value_in es) (value_in fs) w (appends_goes_on held es fs a) (keeps (value_in (take k es)) (value_in es) (GoesOn-take es k) guarded i w here))

-- and under one more, once the clauses that watch its opposite are settled
pub guarded_next : (held : List Attached) (es fs : List Entry) (k : ℕ) (l : Literal) (slots : List (Option WatchedView)) → Appends held es fs → IsDistinct es → k < length es
    → l ≡ get_or (lits_of es) k l → AreSettled (value_in fs) (opposite_of l) slots → AreGuarded (value_in (take k fs)) (value_in fs) slots → AreGuarded (value_in (take (k + 1) fs)) (value_in fs) slots
guarded_next held es fs k l slots a distinct h at settled guarded i w here m watched f =
    let F : List Entry → Type 0 = λ us. is_false (value_in us) m ≡ true in
    elim (false_more es k l m distinct h at (subst F (same_first held es fs (k + 1) a (omega arith)) f)) [
      | inl g ↦ guarded i w here m watched (subst F (sym (same_first held es fs k a (omega arith))) g)
      | inr e ↦ (let W : Literal → Type 0 = λ x. Watches w x in settled i w here (subst W e watched))
    ]

-- under the whole trail what is guarded is closed
pub guarded_all : (n k : ℕ) (es : List Entry) (old new : List (Option WatchedView)) → length es ≤ k → AreKept n new → wholes new ≡ wholes old → AreGuarded (value_in (take k es)) (value_in es) new
    → AllClosed (attached_from 0 (wholes old)) es
guarded_all n k es old new h kept whole guarded =
    let P : List Entry → Type 0 = λ us. AreGuarded (value_in us) (value_in es) new in
    let Q : List (Option Linear) → Type 0 = λ ws. AllClosed (attached_from 0 ws) es in
    subst Q whole (all_guarded_closed n (value_in es) new kept (subst P (take_all k es h) guarded))
