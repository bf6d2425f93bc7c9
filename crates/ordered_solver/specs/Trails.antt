-- The trail of an ordered search: each entry was forced, or decided along the order.
use Rattle.std.specs.Prelude.{ℕ, Bool, Option, Some, None, false, ◌≡◌, ◌≢◌, ◌<◌, ◌≤◌, ◌⊎◌, List, take, length, slice_index_or}
use Rattle.pb_rules.specs.declared.Term.{Term}
use Rattle.pb_rules.specs.Literal.{Literal}
use Rattle.trail_state.specs.Trail.{Entry, value_in, level_of, upto_level}
use Rattle.propagate.specs.Attached.{Attached}
use Rattle.propagate.specs.Forced.{IsForcedAt, AllClosed}

-- the first literal of the order whose variable has no value
pub record IsNext (order : List Literal) (es : List Entry) (l : Literal) : Type 0 where
  pub place : ℕ
  pub in_order : place < length order
  pub there : (d : Literal) → slice_index_or order place d ≡ l
  pub unassigned : value_in es l.var ≡ None
  pub earlier : (j : ℕ) (d : Literal) → j < place → value_in es (slice_index_or order j d).var ≢ None

-- each literal of the order before a place has a value
abbrev pub HasPassed : List Literal → ℕ → List Entry → Type 0
HasPassed order place es = (j : ℕ) (d : Literal) → j < place → value_in es (slice_index_or order j d).var ≢ None

-- the place of the first literal of the order whose variable has no value
pub record IsNextAt (order : List Literal) (es : List Entry) (place : ℕ) : Type 0 where
  pub in_order : place < length order
  pub unassigned : (d : Literal) → value_in es (slice_index_or order place d).var ≡ None
  pub earlier : HasPassed order place es

-- at the end of each level each literal of the order before the level's place has a value
abbrev pub ArePassed : List Literal → List Entry → List ℕ → Type 0
ArePassed order es places = (n : ℕ) → n ≤ level_of es → HasPassed order (slice_index_or places n 0) (upto_level n es)

-- each variable of the order has a value
abbrev pub IsFull : List Literal → List Entry → Type 0
IsFull order es = (j : ℕ) (d : Literal) → j < length order → value_in es (slice_index_or order j d).var ≢ None

-- the entry at a place was decided: it was the first literal of the order whose variable had no value
pub record IsDecidedAt (order : List Literal) (es : List Entry) (k : ℕ) (e : Entry) : Type 0 where
  pub no_reason : e.reason ≡ None
  pub next : IsNext order (take k es) e.lit

-- each entry was forced or decided where it stands
abbrev pub IsSearch : List Attached → List Literal → List Entry → Type 0
IsSearch held order es = (k : ℕ) (d : Entry) → k < length es → IsForcedAt held es k (slice_index_or es k d) ⊎ IsDecidedAt order es k (slice_index_or es k d)

-- up to the end of each level below the current one no attached constraint is in conflict or forces a literal
abbrev pub ClosedBelow : List Attached → List Entry → Type 0
ClosedBelow held es = (n : ℕ) → n < level_of es → AllClosed held (upto_level n es)

-- both of these
pub record IsOrdered (held : List Attached) (order : List Literal) (es : List Entry) : Type 0 where
  pub search : IsSearch held order es
  pub closed_below : ClosedBelow held es

-- new entries go on from old ones
pub record GoesOnFrom (old new : List Entry) : Type 0 where
  pub longer : length old ≤ length new
  pub kept : take (length old) new ≡ old

-- the values are those of the trail
pub record HasValues (variables : ℕ) (es : List Entry) (values : List Bool) : Type 0 where
  pub one_each : length values ≡ variables
  pub each : (x : ℕ) (b : Bool) → x < variables → value_in es x ≡ Some b → slice_index_or values x false ≡ b

-- the variable of a literal is below n
abbrev pub IsVarBelow : ℕ → Literal → Type 0
IsVarBelow n l = l.var < n

-- each variable below n stands in the order
abbrev pub Covers : List Literal → ℕ → Type 0
Covers order n = (x : ℕ) → x < n → (j : ℕ) × (j < length order) × ((d : Literal) → (slice_index_or order j d).var ≡ x)

-- a term of this place has the literal, whose variable has no value
pub record IsUnassignedAt (p : ℕ → Option Bool) (ts : List Term) (l : Literal) : Type 0 where
  pub place : ℕ
  pub in_terms : place < length ts
  pub there : (d : Term) → (slice_index_or ts place d).lit ≡ l
  pub unassigned : p l.var ≡ None

-- some term's variable has no value
pub record HasUnassigned (p : ℕ → Option Bool) (ts : List Term) : Type 0 where
  pub lit : Literal
  pub at : IsUnassignedAt p ts lit
