-- What an answer says of the given constraints, of the number of new lines, and of the lines in each frame that agrees.
use Rattle.std.specs.Prelude.{ℕ, Bool, true, Some, ◌≡◌, ◌≢◌, ◌<◌, ◌≤◌, ◌^◌, ◌++◌, [], ◌∷◌, List, length, drop, All}
use Rattle.pb_rules.specs.Literal.{Literal}
use Rattle.pb_rules.specs.Linear.{Linear, HasNoModel, bits_of}
use Rattle.pb_rules.specs.Order.{IsFirstModel, ShowsFirst}
use Rattle.pb_rules.specs.Clauses.{contradiction}
use Rattle.pb_rules.specs.Frames.{Line, Frame, Given, given_by, derived_from, derived_by, is_derived}
use Rattle.proof_log.specs.Log.{LogValue}
use Rattle.proof_log.specs.HonestLog.{AreHonestLines}
use Rattle.ordered_solver.specs.Solver.{SolverValue, Agrees, constraints_of}
use Rattle.ordered_solver.specs.declared.answer.Answer.{Answer}
use Rattle.ordered_solver.specs.declared.answer.Answer.TheVariants.{Model, Nothing, Budget}

-- the values of a model, one for each variable, that is before every other model in the order
pub record IsFirst (given : List Linear) (order : List Literal) (values : List Bool) : Type 0 where
  pub one_each : length values ≡ length order
  pub first : IsFirstModel given order (bits_of values)

-- a model, the first in the order; or there is none; or nothing is said
abbrev pub AnswerSays : List Linear → List Literal → Answer → Type 0
AnswerSays given order (Model values) = IsFirst given order values.items
AnswerSays given order Nothing = HasNoModel given
AnswerSays given order Budget = Unit {0}

-- the new lines of a log
abbrev pub new_lines : LogValue → LogValue → List Line
new_lines old new = drop (length old.lines) new.lines

-- a log goes on from another by derived lines
pub record GoesOnDerived (old new : LogValue) : Type 0 where
  pub kept : new ≡ record old { lines = old.lines ++ new_lines old new }
  pub derived_each : All (λ l. is_derived l ≡ true) (new_lines old new)

-- how many lines an answer took, one for each conflict: fewer than there are assignments, unless there is no model
abbrev pub CountSays : ℕ → ℕ → ℕ → Answer → Type 0
CountSays variables budget n (Model values) = (n < budget) × (n < 2 ^ variables)
CountSays variables budget n Nothing = (1 ≤ n) × ((n ≤ budget) × (n ≤ 2 ^ variables))
CountSays variables budget n Budget = (n ≡ budget) × (n < 2 ^ variables)

-- honest lines, none of which gives `0 >= 1`
pub record AreHonestSteps (f : Frame) (before : Given) (base : List Linear) (ls : List Line) : Type 0 where
  pub honest : AreHonestLines f before base ls
  pub no_contradiction : All (λ c. c ≢ contradiction) (derived_from f before ls)

-- honest lines, none of which gives `0 >= 1`, and a last one that does
pub record IsRefutation (f : Frame) (before : Given) (base : List Linear) (ls : List Line) : Type 0 where
  pub steps : List Line
  pub last : Line
  pub split : ls ≡ steps ++ last ∷ []
  pub honest : AreHonestSteps f before base steps
  pub contradicts : derived_from f before ls ≡ derived_from f before steps ++ contradiction ∷ []

-- honest lines, after which the log shows that the model is the first one
pub record ShowsModel (f : Frame) (before : Given) (base : List Linear) (order : List Literal) (values : List Bool) (ls whole : List Line) : Type 0 where
  pub honest : AreHonestSteps f before base ls
  pub shows : ShowsFirst (base ++ derived_by f whole) order (bits_of values)

-- what an answer says of the new lines, and of those of the whole log
abbrev pub LinesSay : Frame → Given → List Linear → List Literal → List Line → List Line → Answer → Type 0
LinesSay f before base order ls whole (Model values) = ShowsModel f before base order values.items ls whole
LinesSay f before base order ls whole Nothing = IsRefutation f before base ls
LinesSay f before base order ls whole Budget = AreHonestSteps f before base ls

-- the same in each frame that agrees with the solver before, which also agrees with it afterwards
pub record IsAgreed (f : Frame) (old new : SolverValue) (order : List Literal) (answer : Answer) : Type 0 where
  pub agrees : Agrees f new
  pub before : Given
  pub legal_before : given_by f old.log.lines ≡ Some before
  pub lines : LinesSay f before (constraints_of old.given) order (new_lines old.log new.log) new.log.lines answer

abbrev pub AnswersInFrames : SolverValue → SolverValue → List Literal → Answer → Type 0
AnswersInFrames old new order answer = (f : Frame) → Agrees f old → IsAgreed f old new order answer

-- what an answer says of how new its lines are: no line's clause is absorbed by a base and the clauses before it, but where there is no model a last line gives `0 >= 1`
abbrev pub AreNewSays : Frame → Given → List Linear → List Line → Answer → Type 0
AreNewSays f before base ls (Model values) = AreHonestSteps f before base ls
AreNewSays f before base ls Nothing = IsRefutation f before base ls
AreNewSays f before base ls Budget = AreHonestSteps f before base ls

-- in each frame that agrees with the solver before, over the given constraints and the clauses that were kept when the call began
abbrev pub AreNewOverKept : SolverValue → SolverValue → Answer → Type 0
AreNewOverKept old new answer = (f : Frame) (a : Agrees f old) → AreNewSays f a.given (constraints_of old.given ++ constraints_of old.kept) (new_lines old.log new.log) answer
