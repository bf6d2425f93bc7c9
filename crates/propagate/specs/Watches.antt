-- Lists of watches, and the lengths of the trail at which all clauses were looked at.
use Rattle.std.specs.Prelude.{ℕ, Bool, Option, Some, None, ◌≡◌, ◌⊎◌, ◌*◌, ◌<◌, ◌≤◌, ◌^◌, List, [], All, Contains, take, length, slice_index_or, is_some, unwrap_or}
use Rattle.pb_constraints.specs.declared.ConId.{ConId}
use Rattle.pb_rules.specs.Literal.{Literal}
use Rattle.pb_rules.specs.Partial.{GoesOn}
use Rattle.constraint_store.specs.Live.{new_id}
use Rattle.propagate.specs.Attached.{Attached}
use Rattle.propagate.specs.declared.lists.Watch.{Watch}
use Rattle.propagate.specs.declared.watches.Watches.{Watches as Clauses}
use Rattle.propagate.specs.Counters.{literal_number, value_given, attached_from}
use Rattle.propagate.specs.Watched.{WatchedView, HasLiteral, HasTrue, Watches, IsGuarded, AreKept, AreGuarded, wholes}

-- the watches of the literal of a number
abbrev pub watches_of : List (List Watch) → ℕ → List Watch
watches_of lists k = slice_index_or lists k []

-- the clause of a slot has a watch in a list, which names another literal of it
pub record IsListedIn (list : List Watch) (i : ℕ) (w : WatchedView) : Type 0 where
  pub watch : Watch
  pub there : Contains list watch
  pub slot : watch.slot ≡ i
  pub named : HasLiteral w.whole.terms watch.other

-- each clause has a watch in the list of each literal that is watched. A list may have others, as those of clauses that were taken out
abbrev pub AreListed : List (Option WatchedView) → List (List Watch) → Type 0
AreListed slots lists = (i : ℕ) (w : WatchedView) (l : Literal) → slice_index_or slots i None ≡ Some w → Watches w l → IsListedIn (watches_of lists (literal_number l)) i w

-- what is attached
abbrev pub watched_in : Clauses → List Attached
watched_in w = attached_from 0 (wholes w.slots.items)

-- what watched clauses keep, over so many variables
pub record AreWatched (n : ℕ) (w : Clauses) : Type 0 where
  pub few : n < 2 ^ 62
  pub wide : 2 * n ≤ length w.lists
  pub kept : AreKept n w.slots.items
  pub listed : AreListed w.slots.items w.lists

-- under the first n of these literals no clause needs a look
pub record IsClosedAt (ls : List Literal) (slots : List (Option WatchedView)) (n : ℕ) : Type 0 where
  pub below : n ≤ length ls
  pub guarded : AreGuarded (value_given (take n ls)) (value_given (take n ls)) slots

abbrev pub AreClosedAt : List Literal → Clauses → Type 0
AreClosedAt ls w = All (IsClosedAt ls w.slots.items) w.closed.items

-- what was guarded under an assignment that this one goes on from still is
abbrev pub KeepsGuards : (ℕ → Option Bool) → List (Option WatchedView) → List (Option WatchedView) → Type 0
KeepsGuards now old new = (q p : ℕ → Option Bool) → GoesOn q now → AreGuarded q p old → AreGuarded q p new

-- each clause that watches a literal has a true one
abbrev pub AreSettled : (ℕ → Option Bool) → Literal → List (Option WatchedView) → Type 0
AreSettled q l slots = (i : ℕ) (w : WatchedView) → slice_index_or slots i None ≡ Some w → Watches w l → HasTrue q w.whole.terms

-- or has a watch in this list
abbrev pub AreSettledBut : List Watch → (ℕ → Option Bool) → Literal → List (Option WatchedView) → Type 0
AreSettledBut list q l slots = (i : ℕ) (w : WatchedView) → slice_index_or slots i None ≡ Some w → Watches w l → HasTrue q w.whole.terms ⊎ IsListedIn list i w

-- a clause has a true literal, and the one that its watch names
pub record IsSettledAt (q : ℕ → Option Bool) (named : Literal) (w : WatchedView) : Type 0 where
  pub true_there : HasTrue q w.whole.terms
  pub named_there : HasLiteral w.whole.terms named

-- a clause was turned where a literal became false: what it watches now is open or was watched before, and each literal that it watches anew has a watch of it
pub record IsTurned (now : ℕ → Option Bool) (gone : Literal) (slot : ℕ) (w w' : WatchedView) (lists lists' : List (List Watch)) : Type 0 where
  pub whole : w'.whole ≡ w.whole
  pub guards : (q p : ℕ → Option Bool) → GoesOn q now → IsGuarded q p w → IsGuarded q p w'
  pub same_length : length lists' ≡ length lists
  pub list : watches_of lists' (literal_number gone) ≡ watches_of lists (literal_number gone)
  pub more : (k : ℕ) (one : Watch) → Contains (watches_of lists k) one → Contains (watches_of lists' k) one
  pub before : Watches w' gone → Watches w gone
  pub listed : (l : Literal) → Watches w' l → Watches w l ⊎ IsListedIn (watches_of lists' (literal_number l)) slot w'

-- whether the slot of a watch is filled
abbrev pub is_named_held : List (Option WatchedView) → Watch → Bool
is_named_held slots one = is_some (slice_index_or slots one.slot None)

-- a watch under the new id of its slot, if that has one
abbrev pub renamed_watch : List (Option ConId) → Watch → Watch
renamed_watch ids one = record { slot = (unwrap_or (new_id ids (record { 0 = one.slot })) (record { 0 = one.slot })).0; other = one.other }
