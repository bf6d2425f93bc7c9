-- Rooms that are kept up to date, and what may be left unlooked at.
use Rattle.std.specs.Prelude.{ℕ, Bool, Option, Some, None, false, ◌≡◌, ◌≢◌, ◌==◌, ◌+◌, ◌*◌, ◌<◌, ◌≤◌, ◌^◌, ◌⊎◌, List, [], ◌∷◌, All, sum_by, take, drop, length, slice_index_or, unwrap_or, is_some, if◌then◌else◌}
use Rattle.pb_constraints.specs.declared.ConId.{ConId}
use Rattle.pb_rules.specs.declared.Term.{Term}
use Rattle.pb_rules.specs.Literal.{Literal}
use Rattle.pb_rules.specs.Linear.{Linear, VarsBelow, total}
use Rattle.pb_rules.specs.Partial.{open_weight}
use Rattle.propagate.specs.Attached.{Attached}
use Rattle.propagate.specs.declared.occurrences.Occurrence.{Occurrence}
use Rattle.propagate.specs.declared.counters.Counters.{Counters}
use Rattle.propagate.specs.Flags.{is_waiting}

-- the number of a literal
abbrev pub literal_number : Literal → ℕ
literal_number l = 2 * l.var + (if l.yes then 1 else 0)

-- the value that literals give a variable
abbrev pub value_given : List Literal → ℕ → Option Bool
value_given [] x = None
value_given (l ∷ ls) x = if l.var == x then Some l.yes else value_given ls x

-- a constraint that always holds
abbrev pub nothing : Linear
nothing = record { terms = []; degree = 0 }

-- what stands in a slot, or nothing
abbrev pub linear_at : List (Option Linear) → ℕ → Linear
linear_at slots i = unwrap_or (slice_index_or slots i None) nothing

-- what is attached in slots, the first of which has the id k
abbrev pub attached_from : ℕ → List (Option Linear) → List Attached
attached_from k [] = []
attached_from k (None ∷ ss) = attached_from (k + 1) ss
attached_from k (Some c ∷ ss) = record { id = record { 0 = k }; constraint = c } ∷ attached_from (k + 1) ss

-- the coefficient of the literal of a number in terms
abbrev pub weight_of : ℕ → List Term → ℕ
weight_of k ts = sum_by (λ t. if literal_number t.lit == k then t.coef else 0) ts

-- the coefficients of a slot among occurrences
abbrev pub weight_at : ℕ → List Occurrence → ℕ
weight_at i os = sum_by (λ o. if o.slot == i then o.coef else 0) os

-- the occurrences of the literal of a number
abbrev pub occurrences_of : List (List Occurrence) → ℕ → List Occurrence
occurrences_of lists k = slice_index_or lists k []

-- whether the slot of an occurrence is filled
abbrev pub is_filled : List (Option Linear) → Occurrence → Bool
is_filled slots o = is_some (slice_index_or slots o.slot None)

-- each slot is below n
abbrev pub SlotsBelow : ℕ → List Occurrence → Type 0
SlotsBelow n os = All (λ o. o.slot < n) os

-- the degree, and the degree with each coefficient, are at most the limit
pub record IsLimited (limit : ℕ) (c : Linear) : Type 0 where
  pub degree : c.degree ≤ limit
  pub terms : All (λ t. c.degree + t.coef ≤ limit) c.terms

-- neither in conflict at this room nor forcing a literal that is unassigned
pub record IsQuiet (room : ℕ) (q : ℕ → Option Bool) (c : Linear) : Type 0 where
  pub no_conflict : c.degree ≤ room
  pub none_forced : All (λ t. q t.lit.var ≡ None → c.degree + t.coef ≤ room) c.terms

-- the same, but for forcing literals that were taken off
pub record IsQuietBut (room : ℕ) (q : ℕ → Option Bool) (off : List Literal) (c : Linear) : Type 0 where
  pub no_conflict : c.degree ≤ room
  pub none_forced : All (λ t. q t.lit.var ≡ None → value_given off t.lit.var ≢ Some t.lit.yes → c.degree + t.coef ≤ room) c.terms

-- the lists of occurrences and the limits are those of the slots
pub record IsBuilt (n : ℕ) (slots : List (Option Linear)) (limits : List ℕ) (lists : List (List Occurrence)) : Type 0 where
  pub few : n < 2 ^ 62
  pub wide : 2 * n ≤ length lists
  pub in_range : (i : ℕ) → VarsBelow n (linear_at slots i).terms
  pub small : (i : ℕ) → total (linear_at slots i).terms < 2 ^ 63
  pub inside : (k : ℕ) → SlotsBelow (length slots) (occurrences_of lists k)
  pub weights : (i k : ℕ) → weight_at i (occurrences_of lists k) ≡ weight_of k (linear_at slots i).terms
  pub limited : (i : ℕ) → IsLimited (slice_index_or limits i 0) (linear_at slots i)

-- there is room for each slot
pub record HasRoom (slots : List (Option Linear)) (rooms limits : List ℕ) (waiting : List Bool) : Type 0 where
  pub has_rooms : length slots ≤ length rooms
  pub has_limits : length slots ≤ length limits
  pub can_wait : length slots ≤ length waiting

-- no variable stands twice
abbrev pub AreDistinct : List Literal → Type 0
AreDistinct ls = (k : ℕ) (d : Literal) → k < length ls → value_given (take k ls) (slice_index_or ls k d).var ≡ None

-- the rooms are those under the counted literals, and each constraint that doesn't wait is quiet while these variables are unassigned
pub record IsInStep (n : ℕ) (slots : List (Option Linear)) (rooms : List ℕ) (waiting : List Bool) (ls : List Literal) (q : ℕ → Option Bool) : Type 0 where
  pub sums : (i : ℕ) → slice_index_or rooms i 0 ≡ open_weight (value_given ls) (linear_at slots i).terms
  pub distinct : AreDistinct ls
  pub below : All (λ l. l.var < n) ls
  pub quiet : (i : ℕ) → is_waiting waiting i ≡ false → IsQuiet (slice_index_or rooms i 0) q (linear_at slots i)

-- the rooms are those under the counted literals, and each constraint that doesn't wait is quiet but for forcing literals that were taken off
pub record IsGivenBack (n : ℕ) (slots : List (Option Linear)) (rooms : List ℕ) (waiting : List Bool) (ls off : List Literal) : Type 0 where
  pub sums : (i : ℕ) → slice_index_or rooms i 0 ≡ open_weight (value_given ls) (linear_at slots i).terms
  pub distinct : AreDistinct ls
  pub below : All (λ l. l.var < n) ls
  pub off_below : All (λ l. l.var < n) off
  pub quiet : (i : ℕ) → is_waiting waiting i ≡ false → IsQuietBut (slice_index_or rooms i 0) (value_given ls) off (linear_at slots i)

-- the counted literals
abbrev pub counted_of : Counters → List Literal
counted_of c = take c.used c.lits.items

-- what counters keep, whatever is counted
pub record AreBuilt (c : Counters) : Type 0 where
  pub built : IsBuilt c.variables c.slots.items c.limits.items c.occurrences
  pub room : HasRoom c.slots.items c.rooms.items c.limits.items c.waiting
  pub lits : c.variables ≤ length c.lits.items
  pub used : c.used ≤ length c.lits.items

-- and how far they have counted
abbrev pub AreInStep : Counters → (ℕ → Option Bool) → Type 0
AreInStep c q = IsInStep c.variables c.slots.items c.rooms.items c.waiting (counted_of c) q

-- what these literals took was given back, and nobody is woken yet that may force them anew
abbrev pub AreGivenBack : List Literal → Counters → Type 0
AreGivenBack off c = IsGivenBack c.variables c.slots.items c.rooms.items c.waiting (counted_of c) off

-- the literals that were taken off, where so many were counted before
abbrev pub taken_off : ℕ → Counters → List Literal
taken_off top c = drop c.used (take top c.lits.items)

-- the rooms are those under the counted literals
abbrev pub AreSummed : Counters → Type 0
AreSummed c = (i : ℕ) → slice_index_or c.rooms.items i 0 ≡ open_weight (value_given (counted_of c)) (linear_at c.slots.items i).terms

-- the rooms have lost the coefficients of occurrences, and what may no longer be quiet waits
pub record TookRooms (os : List Occurrence) (limits rooms rooms' : List ℕ) (w w' : List Bool) : Type 0 where
  pub same_length : length rooms' ≡ length rooms
  pub sums : (i : ℕ) → slice_index_or rooms' i 0 + weight_at i os ≡ slice_index_or rooms i 0
  pub waits : (i : ℕ) → is_waiting w' i ≡ false → is_waiting w i ≡ false
  pub quiet : (i : ℕ) → is_waiting w' i ≡ false → (slice_index_or rooms' i 0 ≡ slice_index_or rooms i 0) ⊎ (slice_index_or limits i 0 ≤ slice_index_or rooms' i 0)

-- the rooms have got the coefficients of occurrences back
pub record GaveRooms (os : List Occurrence) (rooms rooms' : List ℕ) : Type 0 where
  pub same_length : length rooms' ≡ length rooms
  pub sums : (i : ℕ) → slice_index_or rooms' i 0 ≡ slice_index_or rooms i 0 + weight_at i os

-- what may force a literal of these occurrences waits
pub record Woke (os : List Occurrence) (limits rooms : List ℕ) (w w' : List Bool) : Type 0 where
  pub waits : (i : ℕ) → is_waiting w' i ≡ false → is_waiting w i ≡ false
  pub quiet : (i : ℕ) → is_waiting w' i ≡ false → (weight_at i os ≡ 0) ⊎ (slice_index_or limits i 0 ≤ slice_index_or rooms i 0)

-- a slot has got the occurrences of terms, and nothing else changed
pub record Added (slot : ℕ) (ts : List Term) (lists lists' : List (List Occurrence)) : Type 0 where
  pub same_length : length lists' ≡ length lists
  pub own : (k : ℕ) → weight_at slot (occurrences_of lists' k) ≡ weight_of k ts
  pub others : (i k : ℕ) → i ≢ slot → weight_at i (occurrences_of lists' k) ≡ weight_at i (occurrences_of lists k)
  pub inside : (n k : ℕ) → slot < n → SlotsBelow n (occurrences_of lists k) → SlotsBelow n (occurrences_of lists' k)

-- a slot has at most the occurrences of terms left, and nothing else changed
pub record Removed (slot : ℕ) (ts : List Term) (lists lists' : List (List Occurrence)) : Type 0 where
  pub same_length : length lists' ≡ length lists
  pub own : (k : ℕ) → weight_at slot (occurrences_of lists' k) ≤ weight_of k ts
  pub others : (i k : ℕ) → i ≢ slot → weight_at i (occurrences_of lists' k) ≡ weight_at i (occurrences_of lists k)
  pub inside : (n k : ℕ) → SlotsBelow n (occurrences_of lists k) → SlotsBelow n (occurrences_of lists' k)

-- a slot has got a constraint, or has none any more, and the others stay
pub record IsPut (slot : ℕ) (o : Option Linear) (old new : List (Option Linear)) : Type 0 where
  pub here : slice_index_or new slot None ≡ o
  pub others : (i : ℕ) → i ≢ slot → slice_index_or new i None ≡ slice_index_or old i None

-- each slot is as before, with its room, or is empty without any
pub record AreCleared (slots slots' : List (Option Linear)) (rooms rooms' : List ℕ) : Type 0 where
  pub same_slots : length slots' ≡ length slots
  pub same_rooms : length rooms' ≡ length rooms
  pub each : (i : ℕ) → ((slice_index_or slots' i None ≡ slice_index_or slots i None) × (slice_index_or rooms' i 0 ≡ slice_index_or rooms i 0))
      ⊎ ((slice_index_or slots' i None ≡ None) × (slice_index_or rooms' i 0 ≡ 0))

-- an occurrence of one slot in another
abbrev pub moved_to : ℕ → ℕ → Occurrence → Occurrence
moved_to from to o = if o.slot == from then record { slot = to; coef = o.coef } else o

-- the occurrences of a slot, but for those of terms, are those of another
pub record Renamed (from to : ℕ) (ts : List Term) (lists lists' : List (List Occurrence)) : Type 0 where
  pub same_length : length lists' ≡ length lists
  pub left : (k : ℕ) → weight_at from (occurrences_of lists' k) ≤ weight_of k ts
  pub both : (k : ℕ) → weight_at to (occurrences_of lists' k) + weight_at from (occurrences_of lists' k) ≡ weight_at from (occurrences_of lists k)
  pub others : (i k : ℕ) → i ≢ from → i ≢ to → weight_at i (occurrences_of lists' k) ≡ weight_at i (occurrences_of lists k)
  pub inside : (n k : ℕ) → to < n → SlotsBelow n (occurrences_of lists k) → SlotsBelow n (occurrences_of lists' k)

-- what stood in one slot stands in another, which was empty
pub record IsMovedSlot {X : Type 0} (from to : ℕ) (old new : List (Option X)) : Type 0 where
  pub there : slice_index_or new to None ≡ slice_index_or old from None
  pub gone : slice_index_or new from None ≡ None
  pub others : (i : ℕ) → i ≢ from → i ≢ to → slice_index_or new i None ≡ slice_index_or old i None

-- one slot went where its id goes
pub record IsOneMoved {X : Type 0} (to : ConId → Option ConId) (id : ConId) (old new : List (Option X)) : Type 0 where
  pub there : (d : ConId) → to id ≡ Some d → slice_index_or new d.0 None ≡ slice_index_or old id.0 None
  pub gone : to id ≢ Some id → slice_index_or new id.0 None ≡ None
  pub others : (d : ConId) → d ≢ id → to id ≢ Some d → slice_index_or new d.0 None ≡ slice_index_or old d.0 None

-- the slots below a number went where their ids go
pub record AreMoved {X : Type 0} (to : ConId → Option ConId) (n : ℕ) (old new : List (Option X)) : Type 0 where
  pub there : (c d : ConId) → c.0 < n → to c ≡ Some d → slice_index_or new d.0 None ≡ slice_index_or old c.0 None
  pub gone : (d : ConId) → d.0 < n → ((c : ConId) → c.0 < n → to c ≢ Some d) → slice_index_or new d.0 None ≡ None
  pub rest : (d : ConId) → n ≤ d.0 → slice_index_or new d.0 None ≡ slice_index_or old d.0 None
