-- Looks at all literals of all clauses.
use Rattle.std.proofs.Common.{◌≡◌, ◌∙◌, ℕ, ◌+◌, ◌<◌, ◌≤◌, Bool, Option, Some, None, List, length, get_or, sym, ap, subst, arith, inl, inr}
use Rattle.std.specs.Prelude.{unwrap_or}
use Rattle.std.proofs.lemmas.Bool.{cases_eq, cases_lt}
use Rattle.std.proofs.lemmas.List.{take_all, get_or_past, get_or_default}
use Rattle.pb_rules.specs.Linear.{Linear}
use Rattle.pb_rules.specs.Partial.{IsClosed}
use Rattle.trail_state.specs.Trail.{Entry, value_in}
use Rattle.propagate.specs.Attached.{Attached}
use Rattle.propagate.specs.Watched.{WatchedView, whole_in, wholes}
use Rattle.propagate.specs.Forced.{Appends, AllClosed}
use Rattle.propagate.specs.Counters.{nothing, linear_at, attached_from}
use Rattle.propagate.proofs.Attaching.{attached_at_slot, empty}
use Rattle.propagate.proofs.Wholes.{no_clause, whole_at}

-- what is read in a slot
pub watched_is : (slots : List (Option WatchedView)) (i : ℕ) (o : Option WatchedView) (w : WatchedView) → i < length slots → o ≡ get_or slots i o → o ≡ Some w → get_or slots i no_clause ≡ Some w
watched_is slots i o w h at is = get_or_default slots i no_clause o h ∙ sym at ∙ is

-- an empty slot is closed
unfilled_closed : (q : ℕ → Option Bool) (slots : List (Option WatchedView)) (i : ℕ) → get_or slots i no_clause ≡ None → IsClosed q (linear_at (wholes slots) i)
unfilled_closed q slots i h =
    let P : Option Linear → Type 0 = λ o. IsClosed q (unwrap_or o nothing) in
    let closed : IsClosed q nothing = record { no_conflict = omega arith; none_forced = λ k d g. absurd (omega arith) } in
    subst P (sym (whole_at slots i ∙ ap whole_in h)) closed

-- a trail that got no longer is the same
no_longer : (held : List Attached) (old new : List Entry) → Appends held old new → length new ≤ length old → new ≡ old
no_longer held old new a h = sym (take_all (length old) new h) ∙ a.kept

-- one more slot was looked through
pub pass_more : (held : List Attached) (ws : List (Option Linear)) (start mid new : List Entry) (k : ℕ) → Appends held start mid → Appends held mid new
    → (length mid ≤ length start → (i : ℕ) → i < k → IsClosed (value_in mid) (linear_at ws i)) → IsClosed (value_in new) (linear_at ws k)
    → length new ≤ length start → (i : ℕ) → i < k + 1 → IsClosed (value_in new) (linear_at ws i)
pass_more held ws start mid new k a b before here h i lt =
    let l1 = a.longer in
    let l2 = b.longer in
    elim (cases_eq i k) [
      | inl e ↦ (let P : ℕ → Type 0 = λ m. IsClosed (value_in new) (linear_at ws m) in subst P (sym e) here)
      | inr n ↦ (
          let P : List Entry → Type 0 = λ es. IsClosed (value_in es) (linear_at ws i) in
          subst P (sym (no_longer held mid new b (omega (arith, h, l1)))) (before (omega (arith, h, l2)) i (omega arith)))
    ]

-- all slots were
pub pass_all : (slots : List (Option WatchedView)) (es : List Entry) (k : ℕ) → length slots ≤ k → ((i : ℕ) → i < k → IsClosed (value_in es) (linear_at (wholes slots) i))
    → AllClosed (attached_from 0 (wholes slots)) es
pass_all slots es k h closed c l e =
    let here : get_or (wholes slots) c.0 empty ≡ Some l = sym (attached_at_slot (wholes slots) c) ∙ e in
    let P : Option Linear → Type 0 = λ o. IsClosed (value_in es) (unwrap_or o nothing) in
    let each : IsClosed (value_in es) (linear_at (wholes slots) c.0) = elim (cases_lt c.0 k) [
      | inl lt ↦ closed c.0 lt
      | inr ge ↦ unfilled_closed (value_in es) slots c.0 (get_or_past slots c.0 no_clause (omega arith))
    ] in
    subst P here each
