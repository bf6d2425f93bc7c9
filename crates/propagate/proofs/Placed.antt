-- What putting a clause into its slot, and its watches into the lists, leaves.
use Rattle.std.proofs.Common.{◌≡◌, ◌≢◌, ℕ, ◌*◌, ◌^◌, ◌<◌, ◌≤◌, Option, Some, None, List, [], ◌∷◌, ◌++◌, length, get_or, set, refl, sym, ap, ◌∙◌, subst, arith, inl, inr, zero, suc, get_or-set_same, get_or-set_other}
use Rattle.std.specs.Prelude.{Contains}
use Rattle.std.proofs.lemmas.Bool.{cases_eq}
use Rattle.std.proofs.lemmas.Option.{same_Some}
use Rattle.std.proofs.lemmas.List.{length-set}
use Rattle.std.proofs.lemmas.List.Elements.{All-contains, Contains-append_left, Contains-push}
use Rattle.pb_rules.specs.declared.Term.{Term}
use Rattle.pb_rules.specs.Literal.{Literal}
use Rattle.pb_rules.specs.Linear.{VarsBelow}
use Rattle.propagate.specs.declared.lists.Watch.{Watch}
use Rattle.propagate.specs.declared.watches.Watches.{Watches as Clauses}
use Rattle.propagate.specs.Counters.{literal_number, IsPut}
use Rattle.propagate.specs.Watched.{WatchedView, HasLiteral, Watches, IsKept, whole_in, wholes}
use Rattle.propagate.specs.Watches.{watches_of, IsListedIn, AreWatched}
use Rattle.propagate.proofs.Weights.{number_below}
use Rattle.propagate.proofs.Wholes.{whole_at, listed_later}

-- one more of what stands beyond the end
pub beyond-push : {X : Type 0} (xs : List X) (d : X) (i : ℕ) → get_or (xs ++ d ∷ []) i d ≡ get_or xs i d
beyond-push [] d zero = refl
beyond-push [] d (suc i) = refl
beyond-push (x ∷ xs) d zero = refl
beyond-push (x ∷ xs) d (suc i) = beyond-push xs d i

-- the slots are the same, but for this one, where a clause stands now
pub record IsPlaced (slot : ℕ) (w : WatchedView) (old new : List (Option WatchedView)) : Type 0 where
  pub here : get_or new slot None ≡ Some w
  pub others : (i : ℕ) → i ≢ slot → get_or new i None ≡ get_or old i None

-- once there is room for all slots, setting one leaves the others
pub placed_set : (old mid : List (Option WatchedView)) (slot : ℕ) (w : WatchedView) → ((i : ℕ) → get_or mid i None ≡ get_or old i None) → slot < length mid
    → IsPlaced slot w old (set mid slot (Some w))
placed_set old mid slot w same h = record {
  here = get_or-set_same mid slot (Some w) None h;
  others = λ i n. get_or-set_other mid slot i (Some w) None n ∙ same i;
}

-- and their clauses
pub put_placed : (old new : List (Option WatchedView)) (slot : ℕ) (w : WatchedView) → IsPlaced slot w old new → IsPut slot (Some w.whole) (wholes old) (wholes new)
put_placed old new slot w p = record {
  here = whole_at new slot ∙ ap whole_in p.here;
  others = λ i n. whole_at new i ∙ ap whole_in (p.others i n) ∙ sym (whole_at old i);
}

-- each list has what it had
pub record HaveMore (lists lists' : List (List Watch)) : Type 0 where
  pub longer : length lists ≤ length lists'
  pub kept : (k : ℕ) (one : Watch) → Contains (watches_of lists k) one → Contains (watches_of lists' k) one

-- as where each list is the same
pub more_lists : (lists lists' : List (List Watch)) → length lists ≤ length lists' → ((k : ℕ) → watches_of lists' k ≡ watches_of lists k) → HaveMore lists lists'
more_lists lists lists' h same = record { longer = h; kept = λ k one t. (let P : List Watch → Type 0 = λ us. Contains us one in subst P (sym (same k)) t) }

-- or all are
pub more_same : (lists lists' : List (List Watch)) → lists' ≡ lists → HaveMore lists lists'
more_same lists lists' e =
    let len = ap (λ (us : List (List Watch)). length us) e in
    more_lists lists lists' (omega (arith, len)) (λ k. ap (λ (us : List (List Watch)). watches_of us k) e)

-- and from step to step
pub more_trans : (a b c : List (List Watch)) → HaveMore a b → HaveMore b c → HaveMore a c
more_trans a b c p q =
    let l = p.longer in
    let m = q.longer in
    record { longer = omega (arith, l, m); kept = λ k one h. q.kept k one (p.kept k one h) }

-- one more watch in a list
abbrev with_watch : List (List Watch) → ℕ → Watch → List (List Watch)
with_watch lists k one = set lists k (watches_of lists k ++ one ∷ [])

with_watch_at : (lists lists' : List (List Watch)) (k : ℕ) (one : Watch) → k < length lists → lists' ≡ with_watch lists k one → watches_of lists' k ≡ watches_of lists k ++ one ∷ []
with_watch_at lists lists' k one h e = ap (λ (us : List (List Watch)). watches_of us k) e ∙ get_or-set_same lists k (watches_of lists k ++ one ∷ []) [] h

more_with_watch : (lists lists' : List (List Watch)) (k : ℕ) (one : Watch) → k < length lists → lists' ≡ with_watch lists k one → HaveMore lists lists'
more_with_watch lists lists' k one h e = record {
  longer = (let len = ap (λ (us : List (List Watch)). length us) e ∙ length-set lists k (watches_of lists k ++ one ∷ []) in omega (arith, len));
  kept = λ j v there.
      (let P : List Watch → Type 0 = λ us. Contains us v in
      elim (cases_eq j k) [
        | inl q ↦ (
            let Q : ℕ → Type 0 = λ i. Contains (watches_of lists i) v → Contains (watches_of lists' i) v in
            let own : Q k = λ t. subst P (sym (with_watch_at lists lists' k one h e)) (Contains-append_left (watches_of lists k) (one ∷ []) v t) in
            subst Q (sym q) own there)
        | inr n ↦ (
            let same = ap (λ (us : List (List Watch)). watches_of us j) e ∙ get_or-set_other lists k j (watches_of lists k ++ one ∷ []) [] n in
            subst P (sym same) there)
      ]);
}

-- so it has each watch
pub listed_more : (lists lists' : List (List Watch)) (k i : ℕ) (w : WatchedView) → HaveMore lists lists' → IsListedIn (watches_of lists k) i w → IsListedIn (watches_of lists' k) i w
listed_more lists lists' k i w more = listed_later (watches_of lists k) (watches_of lists' k) i w w refl (more.kept k)

-- there is a list for each literal of a clause in range
pub literal_in_range : (ts : List Term) (l l' : Literal) (n m : ℕ) → VarsBelow n ts → HasLiteral ts l' → l ≡ l' → 2 * n ≤ m → literal_number l < m
literal_in_range ts l l' n m below h same wide =
    let P : Literal → Type 0 = λ k. k.var < n in
    number_below l n m (subst P (h.is ∙ sym same) (All-contains (λ (t : Term). t.lit.var < n) ts h.term below h.there)) wide

-- a watch of one literal of a clause that names another was pushed
pub pushed : (n : ℕ) (lists lists' : List (List Watch)) (slot : ℕ) (w : WatchedView) (l m l' m' : Literal) → 2 * n ≤ length lists → VarsBelow n w.whole.terms → HasLiteral w.whole.terms l'
    → HasLiteral w.whole.terms m' → l ≡ l' → m ≡ m' → lists' ≡ with_watch lists (literal_number l) (record { slot = slot; other = m })
    → HaveMore lists lists' × IsListedIn (watches_of lists' (literal_number l')) slot w
pushed n lists lists' slot w l m l' m' wide below there there' same_l same_m e =
    let k = literal_number l in
    let one : Watch = record { slot = slot; other = m } in
    let lt : k < length lists = literal_in_range w.whole.terms l l' n (length lists) below there same_l wide in
    let P : List Watch → Type 0 = λ us. Contains us one in
    let Q : Literal → Type 0 = λ h. IsListedIn (watches_of lists' (literal_number h)) slot w in
    let R : Literal → Type 0 = λ h. HasLiteral w.whole.terms h in
    let own : Q l = record {
      watch = one;
      there = subst P (sym (with_watch_at lists lists' k one lt e)) (Contains-push (watches_of lists k) one);
      slot = refl;
      named = subst R (sym same_m) there';
    } in
    (more_with_watch lists lists' k one lt e, subst Q same_l own)

-- the same for the first watch of a clause, once there is room for its slot
pub pushed_first : (n : ℕ) (old mid : Clauses) (lists' : List (List Watch)) (slot : ℕ) (w : WatchedView) (l m : Literal) → mid ≡ record old { slots = mid.slots } → 2 * n ≤ length old.lists
    → IsKept n w → l ≡ w.first → m ≡ w.second → lists' ≡ with_watch mid.lists (literal_number l) (record { slot = slot; other = m })
    → HaveMore old.lists lists' × IsListedIn (watches_of lists' (literal_number w.first)) slot w
pushed_first n old mid lists' slot w l m rest wide kept same_l same_m e =
    let at_first = kept.watched.first_there in
    let at_second = kept.watched.second_there in
    let wide' : 2 * n ≤ length mid.lists = subst (λ (v : Clauses). 2 * n ≤ length v.lists) (sym rest) wide in
    let p = pushed n mid.lists lists' slot w l m w.first w.second wide' kept.in_range at_first at_second same_l same_m e in
    (subst (λ (v : Clauses). HaveMore v.lists lists') rest p.0, p.1)

-- the same clauses, and more watches
pub watched_more : (n : ℕ) (old new : Clauses) → ((i : ℕ) → get_or new.slots.items i None ≡ get_or old.slots.items i None) → HaveMore old.lists new.lists
    → AreWatched n old → AreWatched n new
watched_more n old new same more a =
    let wide = a.wide in
    let longer = more.longer in
    record {
      few = a.few;
      wide = omega (arith, longer, wide);
      kept = λ i w e. a.kept i w (sym (same i) ∙ e);
      listed = λ i w l e h. listed_more old.lists new.lists (literal_number l) i w more (a.listed i w l (sym (same i) ∙ e) h);
    }

-- room for more variables
pub watched_wider : (n m : ℕ) (w : Clauses) → n ≤ m → m < 2 ^ 62 → 2 * m ≤ length w.lists → AreWatched n w → AreWatched m w
watched_wider n m w h few wide a = record {
  few = few;
  wide = wide;
  kept = λ i v e.
      (let k = a.kept i v e in
      record { watched = k.watched; in_range = λ j d l. (let b = k.in_range j d l in omega (arith, b, h)) });
  listed = a.listed;
}

-- one more clause, with the watches of its two literals
pub watched_placed : (n : ℕ) (old new : Clauses) (slot : ℕ) (w : WatchedView) → IsPlaced slot w old.slots.items new.slots.items → HaveMore old.lists new.lists
    → IsKept n w → ((l : Literal) → Watches w l → IsListedIn (watches_of new.lists (literal_number l)) slot w) → AreWatched n old → AreWatched n new
watched_placed n old new slot w p more kept listed a =
    let wide = a.wide in
    let longer = more.longer in
    record {
      few = a.few;
      wide = omega (arith, longer, wide);
      kept = λ i v e. elim (cases_eq i slot) [
        | inl q ↦ (let P : WatchedView → Type 0 = λ u. IsKept n u in subst P (is i v e q) kept)
        | inr ne ↦ a.kept i v (sym (p.others i ne) ∙ e)
      ];
      listed = λ i v l e h. elim (cases_eq i slot) [
        | inl q ↦ (
            let P : ℕ → WatchedView → Type 0 = λ j u. Watches u l → IsListedIn (watches_of new.lists (literal_number l)) j u in
            subst (λ j. P j v) (sym q) (subst (P slot) (is i v e q) (listed l)) h)
        | inr ne ↦ listed_more old.lists new.lists (literal_number l) i v more (a.listed i v l (sym (p.others i ne) ∙ e) h)
      ];
    }
  where
    is : (i : ℕ) (v : WatchedView) → get_or new.slots.items i None ≡ Some v → i ≡ slot → w ≡ v
    is i v e q = same_Some w v (sym p.here ∙ ap (λ (j : ℕ). get_or new.slots.items j None) (sym q) ∙ e)
