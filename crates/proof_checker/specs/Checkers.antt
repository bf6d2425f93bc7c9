-- What a checker is seen as, and what its calls do.
use Rattle.std.specs.Prelude.{◌≡◌, ◌<◌, ◌+◌, ◌^◌, ℕ, Bool, List, length, map, slice_index_or, All, Option, Some, None, Result, Ok, Err}
use Rattle.pb_rules.specs.Linear.{Linear}
use Rattle.spec_model.specs.Spec.{SpecValue}
use Rattle.spec_model.specs.Vectors.{IsAtMost}
use Rattle.result_text.specs.Answers.{as_seen}
use Rattle.result_text.specs.declared.entries.Entry.{Entry}
use Rattle.result_text.specs.Fronts.{FrontValue, IsShaped}
use Rattle.front_model.specs.Fronts.{vector_in, vectors_of, IsClaim}
use Rattle.front_model.specs.Laws.{IsReached, IsKnown}
use Rattle.front_model.specs.Judging.{Progress, take_line}
use Rattle.front_model.specs.Faults.{IsFirstFault}
use Rattle.front_model.specs.declared.refusals.Refused.{Refused}
use Rattle.proof_checker.specs.declared.faults.StartFault.{StartFault}
use Rattle.proof_checker.specs.declared.faults.StartFault.TheVariants as starts
use Rattle.proof_checker.specs.declared.faults.LineFault.{LineFault}
use Rattle.proof_checker.specs.declared.faults.LineFault.TheVariants as lines

-- a checker: its specification, its front, and how far the proof was taken
pub record CheckerValue : Type 0 where
  pub spec : SpecValue
  pub front : FrontValue
  pub progress : Progress

-- how far a proof was taken, of the fields of a checker
abbrev pub progress_of : List Linear → ℕ → ℕ → Bool → Option Refused → Progress
progress_of cs covers lines closed refused = record { lines = lines; given = record { constraints = cs; covers = covers }; closed = closed; refused = refused }

-- each entry is of the specification
abbrev pub AreShaped : SpecValue → FrontValue → Type 0
AreShaped s front = All (IsShaped s) front.entries

-- the vectors of entries
abbrev pub vectors_in : List Entry → List (List ℕ)
vectors_in es = map vector_in (map as_seen es)

-- no vector of a list is at most this one in each place
abbrev pub IsApart : List (List ℕ) → List ℕ → Type 0
IsApart us v = (k : ℕ) (d : List ℕ) → k < length us → ¬ IsAtMost (slice_index_or us k d) v

-- a checker that isn't made: the first fault of the front, or want of memory
abbrev pub StartsWith : SpecValue → FrontValue → StartFault → Type 0
StartsWith s front (starts.Refused r) = IsFirstFault s front r
StartsWith s front starts.NoMemory = Unit {0}

-- what a checker keeps: the front may be checked against, some pieces led to where the proof is, and what was given has the variables of the encoding and of the blocks
pub record IsChecker (s : SpecValue) (front : FrontValue) (p : Progress) : Type 0 where
  pub claim : IsClaim s front
  pub reached : IsReached s (vectors_of front) p
  pub known : IsKnown s p
  pub few : p.given.covers < 2 ^ 58
  pub lines : p.lines + 1 < 2 ^ 64

-- the checker once a line more is taken
abbrev pub with_line : CheckerValue → List ℕ → CheckerValue
with_line c piece = record c { progress = take_line c.spec (vectors_of c.front) c.progress piece }

-- A line is taken, and nothing is refused so far; or the first refusal is answered; or there was no memory, and nothing changes.
abbrev pub Takes : {T : Type 0} → CheckerValue → List ℕ → CheckerValue → Result T LineFault → Type 0
Takes old piece new (Ok t) = (new ≡ with_line old piece) × (new.progress.refused ≡ None)
Takes old piece new (Err (lines.Refused r)) = (new ≡ with_line old piece) × (new.progress.refused ≡ Some r)
Takes old piece new (Err lines.NoMemory) = new ≡ old
