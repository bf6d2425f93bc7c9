-- What a conflict teaches, how far a search has come, and what it ends with.
use Rattle.std.specs.Prelude.{ℕ, Bool, true, false, Some, min, ◌≡◌, ◌<◌, ◌≤◌, ◌^◌, List, [], ◌∷◌, ◌++◌, map, length, All}
use Rattle.pb_constraints.specs.declared.ConId.{ConId}
use Rattle.pb_rules.specs.Literal.{Literal}
use Rattle.pb_rules.specs.Linear.{Linear, IsModel}
use Rattle.pb_rules.specs.Partial.{Forces}
use Rattle.pb_rules.specs.Clauses.{contradiction}
use Rattle.pb_rules.specs.Honest.{IsPropagated}
use Rattle.pb_rules.specs.Frames.{Line, Frame, IsFrame, FitsFrom, Given, context_of, given_by, given_from, derived_from, is_derived, StandsUnder}
use Rattle.proof_log.specs.Log.{LogValue, next_id}
use Rattle.proof_log.specs.HonestLog.{AreHonestLines}
use Rattle.constraint_store.specs.Live.{Live, Content, is_live}
use Rattle.trail_state.specs.Trail.{Entry, value_in, upto_level}
use Rattle.propagate.specs.Attached.{Attached, ChangesOnly}
use Rattle.conflict_graph.specs.Derives.{HasUnder, Derives}
use Rattle.conflict_graph.specs.Learned.{constraints_in, IsLearned, IsLevelBelow}
use Rattle.ordered_solver.specs.Answers.{AnswerSays, CountSays, GoesOnDerived, LinesSay, new_lines}
use Rattle.ordered_solver.specs.Engines.{is_kept, IsKnown, id_of, given_of, kept_of}
use Rattle.ordered_solver.specs.Marks.{word, marks}
use Rattle.ordered_solver.specs.Solver.{kept_limit}
use Rattle.ordered_solver.specs.declared.answer.Answer.{Answer}

-- a learned clause that was added last and attached, and its literal, which was pushed after the jump back
pub record Learns (live after : List Live) (held held_after : List Attached) (es es_after : List Entry) (log log_after : LogValue) (id : ConId) : Type 0 where
  pub clause : Live
  pub under : clause.id ≡ id
  pub added : after ≡ live ++ clause ∷ []
  pub fresh : is_live live clause.id ≡ false
  pub derives : Derives live log log_after clause.constraint
  pub proof_id : clause.proof_id ≡ next_id log
  pub small : clause.proof_id < 2 ^ 63
  pub learned : IsLearned live es clause.constraint
  pub back : ℕ
  pub level_below : IsLevelBelow es clause.constraint.terms back
  pub attached : ChangesOnly held held_after clause.id (Some clause.constraint)
  pub lit : Literal
  pub forces : Forces (value_in (upto_level back es)) clause.constraint lit
  pub pushed : es_after ≡ upto_level back es ++ record { lit = lit; reason = Some clause.id } ∷ []

-- `0 >= 1` was derived, which the live constraints propagate, and added last
pub record Refutes (live after : List Live) (log log_after : LogValue) (id : ConId) : Type 0 where
  pub proof_id : ℕ
  pub added : after ≡ live ++ record { id = id; constraint = contradiction; proof_id = proof_id } ∷ []
  pub fresh : is_live live id ≡ false
  pub derives : Derives live log log_after contradiction
  pub next : proof_id ≡ next_id log
  pub small : proof_id < 2 ^ 63
  pub propagated : IsPropagated (constraints_in live) contradiction

-- in a frame, what new lines give: the constraints that were added, each of which stands under its id
pub record AreGiven (f : Frame) (before : Given) (live more : List Live) (lines : List Line) : Type 0 where
  pub after : Given
  pub legal : given_from f before lines ≡ Some after
  pub under : HasUnder (context_of after) live
  pub stand : All (λ e. StandsUnder (context_of after) e.proof_id e.constraint) more
  pub gives : derived_from f before lines ≡ constraints_in more

-- clauses that were added last, each of which a new line derives under its id; each model of the start is one of all
pub record HasAdded (start live : List Live) (ids ids_after : List ConId) (old new : LogValue) : Type 0 where
  pub more : List Live
  pub split : live ≡ start ++ more
  pub ids_are : ids_after ≡ ids ++ map id_of more
  pub lines : List Line
  pub written : new ≡ record old { lines = old.lines ++ lines }
  pub derived_each : All (λ l. is_derived l ≡ true) lines
  pub one_each : length lines ≡ length more
  pub derived_ids : All (λ e. is_kept new e ≡ true) more
  pub known : All (IsKnown new) more
  pub follow : (v : ℕ → Bool) → IsModel (constraints_in start) v → IsModel (constraints_in live) v
  pub shown : (f : Frame) (g : Given) → IsFrame f → FitsFrom f old.first → given_by f old.lines ≡ Some g → HasUnder (context_of g) start → AreGiven f g live more lines

-- how far a search has come: the clauses learned, the lines that derived them, and that each says something new
pub record HasLearned (start live : List Live) (ids ids_after : List ConId) (old new : LogValue) (n : ℕ) : Type 0 where
  pub added : HasAdded start live ids ids_after old new
  pub counted : length added.lines ≡ n
  pub honest : (f : Frame) (g : Given) → IsFrame f → FitsFrom f old.first → given_by f old.lines ≡ Some g → HasUnder (context_of g) start → AreHonestLines f g (constraints_in start) added.lines

-- some kept clauses were dropped, the oldest ones, and all given constraints stay
pub record HasDropped (log : LogValue) (old new : List Live) : Type 0 where
  pub same_given : given_of log new ≡ given_of log old
  pub dropped : List Content
  pub oldest : kept_of log old ≡ dropped ++ kept_of log new

-- clauses were added by new lines, and then the oldest ones dropped, up to the limit
pub record GoesOnKept (start live : List Live) (old new : LogValue) : Type 0 where
  pub all : List Live
  pub ids : List ConId
  pub ids_after : List ConId
  pub added : HasAdded start all ids ids_after old new
  pub dropped : HasDropped new all live
  pub count : length (kept_of new live) ≡ min kept_limit (length (kept_of new all))

-- there were no more conflicts than the trail's word says
abbrev pub IsCounted : ℕ → List Entry → ℕ → Type 0
IsCounted variables es n = n ≤ word variables (marks es)

-- in a frame, the log is legal, and what the answer says of its lines
pub record IsAnswered (f : Frame) (before : Given) (start : List Linear) (old new : LogValue) (order : List Literal) (answer : Answer) : Type 0 where
  pub after : Given
  pub legal : given_from f before (new_lines old new) ≡ Some after
  pub lines : LinesSay f before start order (new_lines old new) new.lines answer

-- what a search ends with
pub record IsFound (start : List Live) (old new : LogValue) (order : List Literal) (variables budget : ℕ) (answer : Answer) : Type 0 where
  pub says : AnswerSays (constraints_in start) order answer
  pub log : GoesOnDerived old new
  pub count : CountSays variables budget (length (new_lines old new)) answer
  pub shown : (f : Frame) (g : Given) → IsFrame f → FitsFrom f old.first → given_by f old.lines ≡ Some g → HasUnder (context_of g) start → IsAnswered f g (constraints_in start) old new order answer
