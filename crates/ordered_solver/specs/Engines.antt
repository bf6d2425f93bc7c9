-- What ties a solver's store, propagator, trail and log together between its calls, and which live constraints are kept clauses.
use Rattle.std.specs.Prelude.{ℕ, Bool, Option, Some, None, false, not, unwrap_or, ◌≡◌, ◌<◌, ◌⊎◌, List, [], map, filter, All, Contains}
use Rattle.pb_constraints.specs.declared.ConId.{ConId}
use Rattle.pb_rules.specs.Linear.{VarsBelow}
use Rattle.constraint_store.specs.Live.{Live, Content, content, new_id}
use Rattle.proof_log.specs.Log.{LogValue, next_id}
use Rattle.trail_state.specs.Trail.{TrailView}
use Rattle.propagate.specs.Attached.{Attached, attached_at}
use Rattle.propagate.specs.Propagator.{PropagatorView, IsReady}
use Rattle.ordered_solver.specs.Solver.{HasGivenId, AreKept, is_derived_id}

-- a live constraint is attached under its id
abbrev pub IsAttached : List Attached → Live → Type 0
IsAttached held e = attached_at held e.id ≡ Some e.constraint

-- the variables of a live constraint are below n
abbrev pub IsInRange : ℕ → Live → Type 0
IsInRange n e = VarsBelow n e.constraint.terms

-- each live constraint is attached, and else nothing is; and all variables are in range
pub record IsLoaded (live : List Live) (p : PropagatorView) (t : TrailView) : Type 0 where
  pub ready : IsReady p live t
  pub attached : All (IsAttached p.attached) live
  pub in_range : All (IsInRange t.variables) live

-- the same, with nothing on the trail
pub record IsIdle (live : List Live) (p : PropagatorView) (t : TrailView) : Type 0 where
  pub loaded : IsLoaded live p t
  pub nothing : t.entries ≡ []

-- the constraints of these ids are not attached any more and are going to be removed, and each other live one is attached
pub record AreLeaving (live : List Live) (p : PropagatorView) (t : TrailView) (ids : List ConId) : Type 0 where
  pub ready : IsReady p live t
  pub gone : All (λ c. attached_at p.attached c ≡ None) ids
  pub attached : All (λ e. Contains ids e.id ⊎ IsAttached p.attached e) live
  pub in_range : All (IsInRange t.variables) live

-- whether a live constraint is a kept clause: the proof has it under the id of a derived line
abbrev pub is_kept : LogValue → Live → Bool
is_kept log e = is_derived_id log.first log.lines e.proof_id

-- the kept clauses among live constraints
abbrev pub kept_in : LogValue → List Live → List Live
kept_in log live = filter (is_kept log) live

-- the others, which were given
abbrev pub given_in : LogValue → List Live → List Live
given_in log live = filter (λ e. not (is_kept log e)) live

-- the id of a live constraint
abbrev pub id_of : Live → ConId
id_of e = e.id

-- the proof has a live constraint under an id that the log knows
abbrev pub IsKnown : LogValue → Live → Type 0
IsKnown log e = e.proof_id < next_id log

-- these are the ids of the kept clauses, the oldest first, and the log knows the proof's id of each live constraint
pub record HasKeptIds (live : List Live) (ids : List ConId) (log : LogValue) : Type 0 where
  pub ids_are : ids ≡ map id_of (kept_in log live)
  pub known : All (IsKnown log) live

-- the given constraints and the kept clauses of a solver with their ids in the proof
abbrev pub given_of : LogValue → List Live → List Content
given_of log live = map content (given_in log live)

abbrev pub kept_of : LogValue → List Live → List Content
kept_of log live = map content (kept_in log live)

-- the new id of a constraint by a table of moves, or the same where it has none
abbrev pub moved : List (Option ConId) → ConId → ConId
moved ids c = unwrap_or (new_id ids c) c

-- what a solver's fields keep between its calls: an idle engine with the ids of its kept clauses, the ids under which the proof was given the other constraints, and what is kept
pub record IsBetweenCalls (live : List Live) (p : PropagatorView) (t : TrailView) (ids : List ConId) (log : LogValue) : Type 0 where
  pub idle : IsIdle live p t
  pub listed : HasKeptIds live ids log
  pub given_ids : All (HasGivenId log) (given_of log live)
  pub keeps : AreKept (given_of log live) (kept_of log live) log

-- the same, unless it ran out of memory
abbrev pub IsSolver : List Live → PropagatorView → TrailView → List ConId → LogValue → Bool → Type 0
IsSolver live p t ids log spent = spent ≡ false → IsBetweenCalls live p t ids log
