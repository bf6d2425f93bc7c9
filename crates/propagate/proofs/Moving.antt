-- Watched clauses that go where their ids go, and their watches.
use Rattle.std.proofs.Common.{◌≡◌, ◌≢◌, ℕ, zero, suc, ◌<◌, ◌≤◌, Option, Some, None, List, [], length, map, get_or, set, sym, ap, ◌∙◌, subst, arith, inl, inr, ◌⊎◌, get_or-set_same, get_or-set_other}
use Rattle.std.specs.Prelude.{Contains, unwrap_or}
use Rattle.std.proofs.lemmas.Bool.{cases_eq, cases_lt}
use Rattle.std.proofs.Math.ListN.{get_or-map}
use Rattle.std.proofs.lemmas.List.{length-map, length-set, get_or_past}
use Rattle.pb_constraints.specs.declared.ConId.{ConId}
use Rattle.constraint_store.specs.Live.{new_id}
use Rattle.propagate.specs.declared.lists.Watch.{Watch}
use Rattle.propagate.specs.Counters.{literal_number, IsOneMoved, AreMoved}
use Rattle.propagate.specs.Watched.{WatchedView, whole_in, wholes}
use Rattle.propagate.specs.Watches.{watches_of, AreListed, renamed_watch}
use Rattle.propagate.proofs.Attaching.{same_id}
use Rattle.propagate.proofs.Wholes.{no_clause, whole_at}
use Rattle.propagate.proofs.Thinning.{AreOld}

-- what stood in a slot was put where its id goes, which may be the slot itself
pub one_placed : (to : ConId → Option ConId) (i : ℕ) (d : ConId) (o : Option WatchedView) (old : List (Option WatchedView)) → i < length old → d.0 ≤ i → to (record { 0 = i }) ≡ Some d
    → o ≡ get_or old i no_clause → IsOneMoved to (record { 0 = i }) old (set (set old i no_clause) d.0 o)
one_placed to i d o old h le g is =
    let id : ConId = record { 0 = i } in
    let mid = set old i no_clause in
    let len = length-set old i no_clause in
    let P : ConId → Type 0 = λ e. get_or (set mid d.0 o) e.0 no_clause ≡ get_or old i no_clause in
    record {
      there = λ e f. (let same : d ≡ e = cc in subst P same (get_or-set_same mid d.0 o no_clause (omega arith) ∙ is));
      gone = λ f. (
          let apart : i ≢ d.0 = λ z. f (g ∙ ap (λ (x : ConId). Some x) (same_id d id (sym z))) in
          get_or-set_other mid d.0 i o no_clause apart ∙ get_or-set_same old i no_clause no_clause h);
      others = λ e n f. (
          let apart : e.0 ≢ d.0 = λ z. f (g ∙ ap (λ (x : ConId). Some x) (same_id d e (sym z))) in
          get_or-set_other mid d.0 e.0 o no_clause apart ∙ get_or-set_other old i e.0 no_clause no_clause (λ z. n (same_id e id z)));
    }

goes_or_not : (o : Option ConId) (d : ConId) → (o ≡ Some d) ⊎ (o ≢ Some d)
goes_or_not None d = inr (λ z. absurd (cc))
goes_or_not (Some c) d = elim (cases_eq c.0 d.0) [
  | inl e ↦ inl (ap (λ (x : ConId). Some x) (same_id c d e))
  | inr n ↦ inr (λ z. (let e : c ≡ d = cc in n (ap (λ (x : ConId). x.0) e)))
]

-- an id below n that goes to this one
record Origin (to : ConId → Option ConId) (n : ℕ) (d : ConId) : Type 0 where
  from : ConId
  below : from.0 < n
  goes : to from ≡ Some d

origin : (to : ConId → Option ConId) (n : ℕ) (d : ConId) → Origin to n d ⊎ ((c : ConId) → c.0 < n → to c ≢ Some d)
origin to zero d = inr (λ c h. absurd (omega arith))
origin to (suc n) d = elim (goes_or_not (to (record { 0 = n })) d) [
  | inl e ↦ inl (record { from = record { 0 = n }; below = omega arith; goes = e })
  | inr f ↦ elim (origin to n d) [
    | inl w ↦ inl (let l = w.below in record { from = w.from; below = omega (arith, l); goes = w.goes })
    | inr g ↦ inr (λ c h. elim (cases_eq c.0 n) [
      | inl q ↦ (let P : ConId → Type 0 = λ x. to x ≢ Some d in subst P (sym (same_id c (record { 0 = n }) q)) f)
      | inr m ↦ g c (omega arith)
    ])
  ]
]

-- what stands in a slot now stood in that of an id which goes there
record Came (to : ConId → Option ConId) (old : List (Option WatchedView)) (i : ℕ) (w : WatchedView) : Type 0 where
  from : ConId
  goes : to from ≡ Some (record { 0 = i })
  was : get_or old from.0 no_clause ≡ Some w

came : (to : ConId → Option ConId) (old new : List (Option WatchedView)) → AreMoved to (length old) old new → (i : ℕ) (w : WatchedView) → get_or new i no_clause ≡ Some w → Came to old i w
came to old new m i w s = elim (cases_lt i (length old)) [
  | inl l ↦ elim (origin to (length old) id) [
    | inl o ↦ record { from = o.from; goes = o.goes; was = sym (m.there o.from id o.below o.goes) ∙ s }
    | inr f ↦ absurd (let z = m.gone id l f in cc)
  ]
  | inr g ↦ absurd (let z = m.rest id g ∙ get_or_past old i no_clause g in cc)
]
  where
    id : ConId
    id = record { 0 = i }

-- moving brings no clause
pub old_moved : (to : ConId → Option ConId) (old new : List (Option WatchedView)) → AreMoved to (length old) old new → AreOld old new
old_moved to old new m i w s = (let p = came to old new m i w s in (p.from.0, p.was))

contains_map : (f : Watch → Watch) (us : List Watch) (x : Watch) → Contains us x → Contains (map f us) (f x)
contains_map f us x w =
    let len = length-map us f in
    let l = w.1 in
    (w.0, omega (arith, len, l), get_or-map f us w.0 x ∙ ap f w.2)

-- each clause has its watches under its new id
pub listed_moved : (ids : List (Option ConId)) (old new : List (Option WatchedView)) (lists : List (List Watch)) → AreMoved (new_id ids) (length old) old new → AreListed old lists
    → AreListed new (map (map (renamed_watch ids)) lists)
listed_moved ids old new lists m a i w l s h =
    let f = renamed_watch ids in
    let k = literal_number l in
    let p = came (new_id ids) old new m i w s in
    let o = a p.from.0 w l p.was h in
    let P : List Watch → Type 0 = λ us. Contains us (f o.watch) in
    let slot_under : ℕ → ℕ = λ j. (let c : ConId = record { 0 = j } in (unwrap_or (new_id ids c) c).0) in
    record {
      watch = f o.watch;
      there = subst P (sym (get_or-map (map f) lists k [])) (contains_map f (watches_of lists k) o.watch o.there);
      slot = ap slot_under o.slot ∙ ap (λ (u : Option ConId). (unwrap_or u p.from).0) p.goes;
      named = o.named;
    }

-- where slots went, their clauses did
pub wholes_moved : (to : ConId → Option ConId) (n : ℕ) (old new : List (Option WatchedView)) → AreMoved to n old new → AreMoved to n (wholes old) (wholes new)
wholes_moved to n old new m = record {
  there = λ c d l e. whole_at new d.0 ∙ ap whole_in (m.there c d l e) ∙ sym (whole_at old c.0);
  gone = λ d l f. whole_at new d.0 ∙ ap whole_in (m.gone d l f);
  rest = λ d g. whole_at new d.0 ∙ ap whole_in (m.rest d g) ∙ sym (whole_at old d.0);
}
