-- What a search ends with: its found list, its front, and the lines of its log.
use Rattle.std.specs.Prelude.{◌≡◌, ℕ, ◌+◌, ◌*◌, ◌^◌, ◌<◌, ◌≤◌, Bool, true, false, List, [], ◌∷◌, ◌++◌, length, map, Contains}
use Rattle.pb_rules.specs.Linear.{Linear}
use Rattle.pb_rules.specs.Clauses.{contradiction}
use Rattle.pb_rules.specs.Frames.{Line, derived_count, derived_by}
use Rattle.proof_log.specs.HonestLog.{IsHonestLog}
use Rattle.spec_model.specs.Spec.{SpecValue, Bits}
use Rattle.spec_model.specs.Rules.{IsValid}
use Rattle.spec_model.specs.Vectors.{vector_of}
use Rattle.encode_model.specs.Block.{cover_frame}
use Rattle.block_encode.specs.Laws.{variables_to}
use Rattle.result_text.specs.Answers.{EntryValue, as_seen}
use Rattle.result_text.specs.declared.entries.Entry.{Entry}
use Rattle.front_model.specs.Proofs.{Refute}
use Rattle.front_lists.specs.Lists.{FoundWhole, vectors_in}
use Rattle.front_search.specs.declared.ending.SearchEnd.{SearchEnd}
use Rattle.front_search.specs.declared.ending.SearchEnd.TheVariants.{Complete, Budget}

-- the entries of a list, as they are seen
abbrev pub seen : List Entry → List EntryValue
seen es = map as_seen es

-- how many lines so many solves derive at most, each over the variables of the encoding and of so many blocks
abbrev pub most_lines : SpecValue → ℕ → ℕ → ℕ
most_lines s solves blocks = solves * 2 ^ variables_to s blocks

-- a budget is below what any vectors allow that have each valid design's: a block for each of them, and one solve more
abbrev pub IsBelowBound : SpecValue → ℕ → Type 0
IsBelowBound s budget = (vs : List (List ℕ)) → ((f : Bits) → IsValid s f → Contains vs (vector_of s f)) → budget < most_lines s (length vs + 1) (length vs)

-- the constraint that the last derived line gives is `0 >= 1`
abbrev pub LastContradicts : SpecValue → List Line → Type 0
LastContradicts s ls = (cs : List Linear) × (derived_by (cover_frame s) ls ≡ cs ++ contradiction ∷ [])

-- the found list is whole, and the log refutes all else within the budget
pub record IsWholeSearch (s : SpecValue) (budget : ℕ) (found : List EntryValue) (ls : List Line) : Type 0 where
  pub whole : FoundWhole s found
  pub refute : Refute s (vectors_in found) ls
  pub last : LastContradicts s ls
  pub within : derived_count ls ≤ budget

-- the log has as many derived lines as the budget has, which is small, and is honest; so its last line doesn't give `0 >= 1`
pub record IsCutSearch (s : SpecValue) (budget : ℕ) (ls : List Line) : Type 0 where
  pub used_up : derived_count ls ≡ budget
  pub small : IsBelowBound s budget
  pub honest : IsHonestLog (cover_frame s) ls

-- what the end of a search says
abbrev pub EndSays : SpecValue → ℕ → List EntryValue → List Line → SearchEnd → Type 0
EndSays s budget found ls Complete = IsWholeSearch s budget found ls
EndSays s budget found ls Budget = IsCutSearch s budget ls

abbrev pub is_complete : SearchEnd → Bool
is_complete Complete = true
is_complete Budget = false
