-- The clauses of slots, and their watches.
use Rattle.std.proofs.Common.{◌≡◌, ℕ, Option, Some, None, List, [], ◌∷◌, get_or, refl, sym, ap, ◌∙◌, subst, zero, suc}
use Rattle.std.specs.Prelude.{Contains}
use Rattle.std.proofs.Math.ListN.{get_or-map}
use Rattle.pb_rules.specs.Linear.{Linear}
use Rattle.propagate.specs.declared.lists.Watch.{Watch}
use Rattle.propagate.specs.Watched.{WatchedView, HasLiteral, whole_in, wholes}
use Rattle.propagate.specs.Watches.{IsListedIn}
use Rattle.propagate.proofs.Attaching.{empty}

-- no clause stands in a slot
abbrev pub no_clause : Option WatchedView
no_clause = None

-- the clause of a slot is that of what stands there
pub whole_at : (slots : List (Option WatchedView)) (i : ℕ) → get_or (wholes slots) i empty ≡ whole_in (get_or slots i no_clause)
whole_at slots i = get_or-map whole_in slots i no_clause

-- and of a clause that does
pub whole_is : (slots : List (Option WatchedView)) (i : ℕ) (w : WatchedView) → get_or slots i no_clause ≡ Some w → get_or (wholes slots) i empty ≡ Some w.whole
whole_is slots i w h = whole_at slots i ∙ ap whole_in h

-- a clause of slots is that of one of them
pub kept_in : (slots : List (Option WatchedView)) (i : ℕ) (k : Linear) → get_or (wholes slots) i empty ≡ Some k → (w : WatchedView) × (get_or slots i None ≡ Some w) × (w.whole ≡ k)
kept_in [] i k e = absurd (cc)
kept_in (None ∷ slots) zero k e = absurd (cc)
kept_in (Some w ∷ slots) zero k e = (w, refl, cc)
kept_in (s ∷ slots) (suc i) k e = kept_in slots i k e

-- a watch of a slot stays one where the list has all that it had, and the clause is the same
pub listed_later : (old new : List Watch) (i : ℕ) (w w' : WatchedView) → w'.whole ≡ w.whole → ((one : Watch) → Contains old one → Contains new one) → IsListedIn old i w → IsListedIn new i w'
listed_later old new i w w' e more h =
    let P : Linear → Type 0 = λ k. HasLiteral k.terms h.watch.other in
    record { watch = h.watch; there = more h.watch h.there; slot = h.slot; named = subst P (sym e) h.named }
