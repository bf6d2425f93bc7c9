-- What a decoder is seen as, and the frames in which its log is legal.
use Rattle.std.specs.Prelude.{ℕ, Bool, true, false, Some, ◌≡◌, ◌+◌, List, length, All}
use Rattle.pb_rules.specs.Frames.{Line, Frame, IsFrame, Given, given_by, is_derived}
use Rattle.proof_log.specs.Log.{LogValue}
use Rattle.spec_model.specs.Spec.{SpecValue, all_variables}
use Rattle.encode_model.specs.Encoding.{encoding}
use Rattle.ordered_solver.specs.Solver.{SolverValue, Agrees, numbered}

-- a decoder: its specification, the log of what was derived from the encoding, and whether it ran out of memory
pub record DecoderValue : Type 0 where
  pub spec : SpecValue
  pub log : LogValue
  pub spent : Bool

-- a frame of a specification: its base is the encoding, under the ids 1, 2 and so on
pub record IsFrameOf (s : SpecValue) (f : Frame) : Type 0 where
  pub frame : IsFrame f
  pub base_is : f.base ≡ encoding s

-- each line is legal at its place
pub record IsLegal (f : Frame) (ls : List Line) : Type 0 where
  pub given : Given
  pub legal : given_by f ls ≡ Some given

-- a log of a specification: its ids begin after the encoding's, each line is a derived one, and all are legal in each frame of the specification
pub record IsLogOf (s : SpecValue) (log : LogValue) : Type 0 where
  pub first_after : log.first ≡ length (encoding s) + 1
  pub derived_each : All (λ l. is_derived l ≡ true) log.lines
  pub legal : (f : Frame) → IsFrameOf s f → IsLegal f log.lines

-- a solver of a specification: it has the encoding under the ids 1, 2 and so on and each of its variables, it didn't run out of memory, and each frame of the specification agrees with it
pub record IsSolverOf (s : SpecValue) (solver : SolverValue) : Type 0 where
  pub variables_are : solver.variables ≡ all_variables s
  pub given_are : solver.given ≡ numbered 1 (encoding s)
  pub not_spent : solver.spent ≡ false
  pub log_of : IsLogOf s solver.log
  pub agrees : (f : Frame) → IsFrameOf s f → Agrees f solver
