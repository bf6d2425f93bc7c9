-- What a propagator is seen held, and the conditions of its calls.
use Rattle.std.specs.Prelude.{ℕ, Some, None, ◌≡◌, ◌++◌, ◌⊎◌, List, map, take, length, IsTrue}
use Rattle.pb_constraints.specs.declared.ConId.{ConId}
use Rattle.pb_rules.specs.Literal.{Literal}
use Rattle.pb_rules.specs.Linear.{Linear}
use Rattle.constraint_store.specs.Live.{Live, is_live, constraint_of}
use Rattle.trail_state.specs.Trail.{TrailView}
use Rattle.propagate.specs.Attached.{Attached, attached_at}
use Rattle.propagate.specs.declared.counters.Counters.{Counters}
use Rattle.propagate.specs.Counters.{AreBuilt, AreInStep, value_given, counted_of, attached_from}
use Rattle.propagate.specs.declared.watches.Watches.{Watches}
use Rattle.propagate.specs.Watches.{watched_in, AreWatched, AreClosedAt}

-- a propagator: how many variables there are, what is attached, and the literals that it has counted
pub record PropagatorView : Type 0 where
  pub variables : ℕ
  pub attached : List Attached
  pub counted : List Literal

-- what is attached: the constraints that are counted, and the clauses that are watched
abbrev pub attached_in : Counters → Watches → List Attached
attached_in c w = attached_from 0 c.slots.items ++ watched_in w

-- no id is in both
abbrev pub AreApart : List Attached → List Attached → Type 0
AreApart xs ys = (c : ConId) → (attached_at xs c ≡ None) ⊎ (attached_at ys c ≡ None)

-- what a propagator's fields keep
pub record IsPropagator (c : Counters) (w : Watches) : Type 0 where
  pub built : AreBuilt c
  pub step : AreInStep c (value_given (counted_of c))
  pub watched : AreWatched c.variables w
  pub closed : AreClosedAt (counted_of c) w
  pub apart : AreApart (attached_from 0 c.slots.items) (watched_in w)

-- the counted literals are a prefix of the trail's
abbrev pub IsCounted : PropagatorView → TrailView → Type 0
IsCounted p t = take (length p.counted) (map (λ e. e.lit) t.entries) ≡ p.counted

-- of the counted literals and the trail's, the one list goes on from the other
abbrev pub IsAlong : PropagatorView → TrailView → Type 0
IsAlong p t = IsCounted p t ⊎ (take (length t.entries) p.counted ≡ map (λ e. e.lit) t.entries)

-- trail and store are those of the earlier calls: equally many variables, each attached constraint live under its id, and the counted literals still there
pub record IsReady (p : PropagatorView) (store : List Live) (t : TrailView) : Type 0 where
  pub variables : p.variables ≡ t.variables
  pub live : (c : ConId) (k : Linear) → attached_at p.attached c ≡ Some k → IsTrue (is_live store c)
  pub stored : (c : ConId) (k : Linear) → attached_at p.attached c ≡ Some k → constraint_of store c ≡ k
  pub counted : IsCounted p t
