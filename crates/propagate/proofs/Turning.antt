-- A clause that watches another literal, and what stays of the slots and lists.
use Rattle.std.proofs.Common.{◌≡◌, ◌≢◌, ℕ, ◌<◌, Bool, true, false, Option, Some, List, [], ◌∷◌, ◌++◌, length, get_or, set, refl, sym, ap, ◌∙◌, subst, arith, inl, inr}
use Rattle.std.specs.Prelude.{Contains}
use Rattle.std.proofs.lemmas.Bool.{cases_eq}
use Rattle.std.proofs.lemmas.List.{get_or-set_same, get_or-set_other, length-set}
use Rattle.std.proofs.Math.Seq.{map-set_same}
use Rattle.std.proofs.lemmas.List.Elements.{Contains-append_left, Contains-append_right}
use Rattle.pb_constraints.specs.declared.ConId.{ConId}
use Rattle.pb_rules.specs.Literal.{Literal}
use Rattle.pb_rules.specs.Linear.{Linear, VarsBelow}
use Rattle.pb_rules.specs.Partial.{is_false, InConflict}
use Rattle.trail_state.specs.Trail.{Entry, value_in}
use Rattle.propagate.specs.declared.lists.Watch.{Watch}
use Rattle.propagate.specs.declared.watches.Watches.{Watches as Clauses}
use Rattle.propagate.specs.Forced.{IsConflict}
use Rattle.propagate.specs.Counters.{literal_number, attached_from}
use Rattle.propagate.specs.Watched.{WatchedView, HasLiteral, Watches, IsPair, IsWatched, IsKept, AreKept, whole_in, wholes}
use Rattle.propagate.specs.Watches.{watches_of, IsListedIn, AreListed, AreWatched, IsTurned}
use Rattle.propagate.proofs.Attaching.{attached_at_slot}
use Rattle.propagate.proofs.Weights.{same_literal}
use Rattle.propagate.proofs.Guarding.{false_later}
use Rattle.propagate.proofs.Wholes.{no_clause, whole_is, listed_later}

-- literals are different where one is false and the other isn't
unlike : (q : ℕ → Option Bool) (l m : Literal) → is_false q l ≡ true → is_false q m ≡ false → l ≢ m
unlike q l m f g e = let g' : is_false q l ≡ false = ap (is_false q) e ∙ g in absurd (cc)

apart_numbers : (l m : Literal) → l ≢ m → literal_number l ≢ literal_number m
apart_numbers l m n e = n (same_literal l m e)

-- the other literal of a pair is watched
pair_other : (w : WatchedView) (l m : Literal) → IsPair w l m → Watches w m
pair_other w l m (inl p) = inr p.1
pair_other w l m (inr p) = inl p.1

watched_there : (w : WatchedView) (l : Literal) → IsWatched w → Watches w l → HasLiteral w.whole.terms l
watched_there w l k (inl e) = (let P : Literal → Type 0 = λ m. HasLiteral w.whole.terms m in subst P e k.first_there)
watched_there w l k (inr e) = (let P : Literal → Type 0 = λ m. HasLiteral w.whole.terms m in subst P e k.second_there)

-- a clause that watches a literal which isn't false in the place of one that is
pub turned_fresh : (now : ℕ → Option Bool) (gone other fresh : Literal) (slot : ℕ) (w w' : WatchedView) (lists lists' : List (List Watch)) → is_false now gone ≡ true → is_false now fresh ≡ false
    → IsWatched w → IsPair w gone other → literal_number fresh < length lists → w' ≡ record { whole = w.whole; first = other; second = fresh }
    → lists' ≡ set lists (literal_number fresh) (watches_of lists (literal_number fresh) ++ record { slot = slot; other = other } ∷ []) → IsTurned now gone slot w w' lists lists'
turned_fresh now gone other fresh slot w w' lists lists' f g watched pair there e grown =
    let one : Watch = record { slot = slot; other = other } in
    let k = literal_number fresh in
    let W : WatchedView = record { whole = w.whole; first = other; second = fresh } in
    let P : WatchedView → Type 0 = λ v. IsTurned now gone slot w v lists lists' in
    let L : List (List Watch) → Type 0 = λ us. IsTurned now gone slot w W lists us in
    let more = watches_of lists k ++ one ∷ [] in
    let watched_other : Watches w other = pair_other w gone other pair in
    let own : watches_of (set lists k more) k ≡ more = get_or-set_same lists k more [] there in
    subst P (sym e) (subst L (sym grown) (record {
      whole = refl;
      guards = λ q p on h l m z. elim m [
        | inl a ↦ (let B : Literal → Type 0 = λ v. is_false q v ≡ true in h other watched_other (subst B (sym a) z))
        | inr a ↦ (let B : Literal → Type 0 = λ v. is_false q v ≡ true in let z' = false_later q now fresh on (subst B (sym a) z) in absurd (cc))
      ];
      same_length = length-set lists k more;
      list = get_or-set_other lists k (literal_number gone) more [] (apart_numbers gone fresh (unlike now gone fresh f g));
      more = λ j v h. elim (cases_eq j k) [
        | inl q ↦ (let N : ℕ → Type 0 = λ i. Contains (watches_of lists i) v → Contains (watches_of (set lists k more) i) v in
            let C : List Watch → Type 0 = λ us. Contains us v in
            let at : N k = λ c. subst C (sym own) (Contains-append_left (watches_of lists k) (one ∷ []) v c) in
            subst N (sym q) at h)
        | inr n ↦ (let C : List Watch → Type 0 = λ us. Contains us v in subst C (sym (get_or-set_other lists k j more [] n)) h)
      ];
      before = λ m. elim m [
        | inl a ↦ (let B : Literal → Type 0 = λ v. Watches w v in subst B a watched_other)
        | inr a ↦ absurd (unlike now gone fresh f g (sym a))
      ];
      listed = λ l m. elim m [
        | inl a ↦ (let B : Literal → Type 0 = λ v. Watches w v in inl (subst B a watched_other))
        | inr a ↦ (
            let C : List Watch → Type 0 = λ us. Contains us one in
            let B : Literal → Type 0 = λ v. IsListedIn (watches_of (set lists k more) (literal_number v)) slot W in
            let last : Contains (one ∷ []) one = (0, omega arith, refl) in
            let at : B fresh = record {
              watch = one;
              there = subst C (sym own) (Contains-append_right (watches_of lists k) (one ∷ []) one last);
              slot = refl;
              named = watched_there w other watched watched_other;
            } in
            inr (subst B a at))
      ];
    }))

-- what stands in the slot of a clause that was turned
pub turned_here : (slots : List (Option WatchedView)) (slot : ℕ) (w' v : WatchedView) → slot < length slots → get_or (set slots slot (Some w')) slot no_clause ≡ Some v → w' ≡ v
turned_here slots slot w' v lt at = let own = get_or-set_same slots slot (Some w') no_clause lt in cc

-- each slot is as before, or holds what was put there
each_set : (slots : List (Option WatchedView)) (slot : ℕ) (w' : WatchedView) (P : ℕ → WatchedView → Type 0) → slot < length slots → P slot w'
    → ((i : ℕ) (v : WatchedView) → get_or slots i no_clause ≡ Some v → P i v) → (i : ℕ) (v : WatchedView) → get_or (set slots slot (Some w')) i no_clause ≡ Some v → P i v
each_set slots slot w' P lt own rest i v at = elim (cases_eq i slot) [
  | inl q ↦ (
      let e : w' ≡ v = turned_here slots slot w' v lt (ap (λ (k : ℕ). get_or (set slots slot (Some w')) k no_clause) (sym q) ∙ at) in
      subst (λ k. P k v) (sym q) (subst (P slot) e own))
  | inr n ↦ rest i v (sym (get_or-set_other slots slot i (Some w') no_clause n) ∙ at)
]

-- turning a clause leaves what is attached
pub wholes_turned : (slots : List (Option WatchedView)) (slot : ℕ) (w w' : WatchedView) → get_or slots slot no_clause ≡ Some w → w'.whole ≡ w.whole → wholes (set slots slot (Some w')) ≡ wholes slots
wholes_turned slots slot w w' h e = map-set_same whole_in slots slot (Some w') no_clause (ap (λ (k : Linear). Some k) e ∙ sym (ap whole_in h))

-- what the clauses keep, where one was turned
pub watched_turned : (n slot : ℕ) (old new : Clauses) (now : ℕ → Option Bool) (gone : Literal) (w w' : WatchedView) → slot < length old.slots.items → get_or old.slots.items slot no_clause ≡ Some w
    → new.slots.items ≡ set old.slots.items slot (Some w') → IsTurned now gone slot w w' old.lists new.lists → IsWatched w' → AreWatched n old → AreWatched n new
watched_turned n slot old new now gone w w' lt at e t watched h =
    let kept = h.kept slot w at in
    let same = t.same_length in
    let wide = h.wide in
    let B : Linear → Type 0 = λ k. VarsBelow n k.terms in
    let own : IsKept n w' = record { watched = watched; in_range = subst B (sym t.whole) kept.in_range } in
    let more : (k : ℕ) (one : Watch) → Contains (watches_of old.lists k) one → Contains (watches_of new.lists k) one = t.more in
    let L : ℕ → WatchedView → Type 0 = λ i v. (l : Literal) → Watches v l → IsListedIn (watches_of new.lists (literal_number l)) i v in
    let own_listed : L slot w' = λ l m. elim (t.listed l m) [
      | inl b ↦ listed_later (watches_of old.lists (literal_number l)) (watches_of new.lists (literal_number l)) slot w w' t.whole (more (literal_number l)) (h.listed slot w l at b)
      | inr b ↦ b
    ] in
    let rest : (i : ℕ) (v : WatchedView) → get_or old.slots.items i no_clause ≡ Some v → L i v = λ i v a l m.
    listed_later (watches_of old.lists (literal_number l)) (watches_of new.lists (literal_number l)) i v v refl (more (literal_number l)) (h.listed i v l a m) in
    let each = each_set old.slots.items slot w' L lt own_listed rest in
    record {
      few = h.few;
      wide = omega (arith, same, wide);
      kept = subst (AreKept n) (sym e) (each_set old.slots.items slot w' (λ i v. IsKept n v) lt own h.kept);
      listed = subst (λ (ss : List (Option WatchedView)). AreListed ss new.lists) (sym e) (λ i v l a m. each i v a l m);
    }

-- a clause in conflict stands in a slot
pub conflict_here : (slots : List (Option WatchedView)) (slot : ℕ) (w w' : WatchedView) (es : List Entry) → get_or slots slot no_clause ≡ Some w → w'.whole ≡ w.whole
    → InConflict (value_in es) w'.whole → IsConflict (attached_from 0 (wholes slots)) es (record { 0 = slot })
conflict_here slots slot w w' es h e bad =
    let id : ConId = record { 0 = slot } in
    record {
      constraint = w'.whole;
      attached = attached_at_slot (wholes slots) id ∙ whole_is slots slot w h ∙ ap (λ (k : Linear). Some k) (sym e);
      conflict = bad;
    }
