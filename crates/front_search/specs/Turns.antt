-- A search while it goes on: what ties its solver to the entries found so far, and what one solve leads to.
use Rattle.std.specs.Prelude.{◌≡◌, ◌≢◌, ℕ, ◌+◌, ◌<◌, ◌≤◌, List, length, All, Contains, slice_index_or}
use Rattle.pb_rules.specs.Linear.{Linear}
use Rattle.pb_rules.specs.Clauses.{contradiction}
use Rattle.pb_rules.specs.Frames.{Line, derived_count, derived_by}
use Rattle.proof_log.specs.HonestLog.{AreHonestSolves}
use Rattle.spec_model.specs.Spec.{SpecValue}
use Rattle.encode_model.specs.Block.{cover_frame}
use Rattle.block_encode.specs.Laws.{variables_to}
use Rattle.result_text.specs.Answers.{EntryValue, as_seen}
use Rattle.ordered_solver.specs.Solver.{SolverValue, Agrees, constraints_of}
use Rattle.front_model.specs.Fronts.{StandsBefore, Rise}
use Rattle.front_lists.specs.Lists.{FoundPrefix, IsNext, vectors_in, covers_of, IsKept}
use Rattle.front_lists.specs.Laws.{searched}
use Rattle.front_search.specs.Searches.{EndSays, most_lines}
use Rattle.front_search.specs.declared.ending.Turn.{Turn}
use Rattle.front_search.specs.declared.ending.Turn.TheVariants.{Found, Ended}

-- a solver that has the encoding and the block of each found vector: its log has their covers, and the specification's frame agrees with it
pub record IsSearching (s : SpecValue) (found : List EntryValue) (solver : SolverValue) : Type 0 where
  pub variables_are : solver.variables ≡ variables_to s (length found)
  pub given_are : constraints_of solver.given ≡ searched s solver.log.lines
  pub covers_are : covers_of solver.log.lines ≡ vectors_in found
  pub agrees : Agrees (cover_frame s) solver
  pub prefix : FoundPrefix s found

-- the budget isn't used up, each solve so far is honest, and none of its lines gives `0 >= 1`
pub record IsUnfinished (s : SpecValue) (budget : ℕ) (ls : List Line) : Type 0 where
  pub few : derived_count ls < budget
  pub none : All (λ c. c ≢ contradiction) (derived_by (cover_frame s) ls)
  pub honest : AreHonestSolves (cover_frame s) ls

-- the next entry, before the budget is used up
pub record IsFoundNext (s : SpecValue) (budget : ℕ) (found : List EntryValue) (ls : List Line) (e : EntryValue) : Type 0 where
  pub unfinished : IsUnfinished s budget ls
  pub next : IsNext s (vectors_in found) e
  pub bounded : derived_count ls ≤ most_lines s (length found + 1) (length found)

-- what one solve leads to: the next entry, or the end
abbrev pub TurnSays : SpecValue → ℕ → List EntryValue → List Line → Turn → Type 0
TurnSays s budget found ls (Found e) = IsFoundNext s budget found ls (as_seen e)
TurnSays s budget found ls (Ended end) = EndSays s budget found ls end

-- ---- the front

-- a vector stands behind so many first ones of some, and not behind the one after
pub record IsPlaceFor (us : List (List ℕ)) (v : List ℕ) (k : ℕ) : Type 0 where
  pub within : k ≤ length us
  pub behind : (j : ℕ) (d : List ℕ) → j < k → StandsBefore (slice_index_or us j d) v
  pub stops : (d : List ℕ) → k < length us → ¬ StandsBefore (slice_index_or us k d) v

-- the first entries of a found list that no found one dominates, in rising order of their vectors
pub record AreKeptOf (found early front : List EntryValue) : Type 0 where
  pub only : All (IsKept found) front
  pub early_each : All (Contains early) front
  pub each : (e : EntryValue) → Contains early e → IsKept found e → Contains front e
  pub rising : Rise (vectors_in front)
