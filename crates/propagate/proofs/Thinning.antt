-- Clauses that are taken out, and the watches that are left.
use Rattle.std.proofs.Common.{◌≡◌, ℕ, ◌<◌, Bool, true, false, cond, Option, Some, None, List, [], ◌∷◌, filter, length, map, get_or, set, refl, sym, ap, ◌∙◌, subst, arith, inl, inr, All, is_some, get_or-set_same, get_or-set_other}
use Rattle.std.specs.Prelude.{Contains}
use Rattle.std.proofs.lemmas.Bool.{cases_eq}
use Rattle.std.proofs.Math.ListN.{get_or-map}
use Rattle.std.proofs.lemmas.List.Elements.{All-nil, All-cons, All-weaker, All-contains, Contains-append_right}
use Rattle.pb_rules.specs.Literal.{Literal}
use Rattle.propagate.specs.declared.lists.Watch.{Watch}
use Rattle.propagate.specs.Counters.{literal_number, IsPut}
use Rattle.propagate.specs.Watched.{WatchedView, whole_in, wholes, AreKept}
use Rattle.propagate.specs.Watches.{watches_of, AreListed, IsClosedAt, is_named_held}
use Rattle.propagate.proofs.Wholes.{no_clause, whole_at}

-- what stands in a slot stood in one before
abbrev pub AreOld : List (Option WatchedView) → List (Option WatchedView) → Type 0
AreOld old new = (i : ℕ) (w : WatchedView) → get_or new i no_clause ≡ Some w → (j : ℕ) × (get_or old j no_clause ≡ Some w)

-- what is kept of all that stood somewhere is kept of what stands now
pub kept_old : (n : ℕ) (old new : List (Option WatchedView)) → AreOld old new → AreKept n old → AreKept n new
kept_old n old new f a i w s = (let p = f i w s in a p.0 w p.1)

-- and where no clause needed a look, none does now
pub closed_old : (ls : List Literal) (old new : List (Option WatchedView)) (ns : List ℕ) → AreOld old new → All (IsClosedAt ls old) ns → All (IsClosedAt ls new) ns
closed_old ls old new ns f a k d h =
    let c = a k d h in
    record { below = c.below; guarded = λ i w s. (let p = f i w s in c.guarded p.0 w p.1) }

-- what stands in a slot still, once one was emptied
stood : (slots : List (Option WatchedView)) (slot i : ℕ) (w : WatchedView) → slot < length slots → get_or (set slots slot no_clause) i no_clause ≡ Some w → get_or slots i no_clause ≡ Some w
stood slots slot i w h s = elim (cases_eq i slot) [
  | inl e ↦ (
      let P : ℕ → Type 0 = λ j. get_or (set slots slot no_clause) j no_clause ≡ Some w in
      let a = subst P e s in
      let b = get_or-set_same slots slot no_clause no_clause h in
      absurd (cc))
  | inr n ↦ (sym (get_or-set_other slots slot i no_clause no_clause n) ∙ s)
]

-- emptying a slot brings no clause
pub old_emptied : (slots : List (Option WatchedView)) (slot : ℕ) → slot < length slots → AreOld slots (set slots slot no_clause)
old_emptied slots slot h i w s = (i, stood slots slot i w h s)

-- and takes no watch away
pub listed_emptied : (slots : List (Option WatchedView)) (slot : ℕ) (lists : List (List Watch)) → slot < length slots → AreListed slots lists → AreListed (set slots slot no_clause) lists
listed_emptied slots slot lists h a i w l s = a i w l (stood slots slot i w h s)

-- and empties it among the clauses too
pub put_none : (slots : List (Option WatchedView)) (slot : ℕ) → slot < length slots → IsPut slot None (wholes slots) (wholes (set slots slot no_clause))
put_none slots slot h = record {
  here = whole_at (set slots slot no_clause) slot ∙ ap whole_in (get_or-set_same slots slot no_clause no_clause h);
  others = λ i n. whole_at (set slots slot no_clause) i ∙ ap whole_in (get_or-set_other slots slot i no_clause no_clause n) ∙ sym (whole_at slots i);
}

first : (b : Bool) (x : Watch) (us : List Watch) → b ≡ true → Contains (cond b (x ∷ us) us) x
first true x us e = (0, omega arith, refl)
first false x us e = absurd (cc)

further : (b : Bool) (x y : Watch) (us : List Watch) → Contains us y → Contains (cond b (x ∷ us) us) y
further true x y us w = Contains-append_right (x ∷ []) us y w
further false x y us w = w

-- what passes a filter stays
passing : (p : Watch → Bool) (us : List Watch) → All (λ x. p x ≡ true → Contains (filter p us) x) us
passing p [] = All-nil (λ (x : Watch). p x ≡ true → Contains [] x)
passing p (y ∷ us) =
    let P : Watch → Type 0 = λ x. p x ≡ true → Contains (filter p us) x in
    let Q : Watch → Type 0 = λ x. p x ≡ true → Contains (filter p (y ∷ us)) x in
    All-cons Q y us (first (p y) y (filter p us)) (All-weaker P Q (λ x f e. further (p y) y x (filter p us) (f e)) us (passing p us))

-- the watches of what stands in the slots are kept
pub listed_held : (slots : List (Option WatchedView)) (lists : List (List Watch)) → AreListed slots lists → AreListed slots (map (filter (is_named_held slots)) lists)
listed_held slots lists a i w l s h =
    let p = is_named_held slots in
    let k = literal_number l in
    let o = a i w l s h in
    let held : p o.watch ≡ true = ap (λ (m : ℕ). is_some (get_or slots m no_clause)) o.slot ∙ ap (λ (u : Option WatchedView). is_some u) s in
    let P : List Watch → Type 0 = λ us. Contains us o.watch in
    let Q : Watch → Type 0 = λ x. p x ≡ true → Contains (filter p (watches_of lists k)) x in
    record {
      watch = o.watch;
      there = subst P (sym (get_or-map (filter p) lists k [])) (All-contains Q (watches_of lists k) o.watch (passing p (watches_of lists k)) o.there held);
      slot = o.slot;
      named = o.named;
    }
