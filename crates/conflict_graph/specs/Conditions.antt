-- What an analysis needs of the trail and the store.
use Rattle.std.specs.Prelude.{ℕ, Some, true, ◌≡◌, ◌<◌, List, Contains, take, length, slice_index_or}
use Rattle.pb_constraints.specs.declared.ConId.{ConId}
use Rattle.pb_rules.specs.declared.Term.{Term}
use Rattle.pb_rules.specs.Linear.{VarsBelow}
use Rattle.pb_rules.specs.Partial.{Forces, is_false}
use Rattle.constraint_store.specs.Live.{Live, is_live, constraint_of}
use Rattle.trail_state.specs.Trail.{Entry, value_in, level_of, level_in}

-- a live constraint whose variables are below n
pub record IsUsable (live : List Live) (n : ℕ) (c : ConId) : Type 0 where
  pub live_there : is_live live c ≡ true
  pub in_range : VarsBelow n (constraint_of live c).terms

-- a literal was forced by its reason, under the entries before it
pub record IsForcedBy (live : List Live) (n : ℕ) (before : List Entry) (e : Entry) (r : ConId) : Type 0 where
  pub usable : IsUsable live n r
  pub forces : Forces (value_in before) (constraint_of live r) e.lit

-- each implied literal was forced by its reason
abbrev pub AllForced : List Live → ℕ → List Entry → Type 0
AllForced live n es = (k : ℕ) (d : Entry) (r : ConId) → k < length es → (slice_index_or es k d).reason ≡ Some r → IsForcedBy live n (take k es) (slice_index_or es k d) r

-- terms have a false literal of the current level
pub record HasCurrent (es : List Entry) (ts : List Term) : Type 0 where
  pub term : Term
  pub there : Contains ts term
  pub false_there : is_false (value_in es) term.lit ≡ true
  pub current : level_in es term.lit.var ≡ level_of es
