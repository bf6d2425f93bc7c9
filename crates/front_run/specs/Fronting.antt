-- What `front` comes to.
use Rattle.std.specs.Prelude.{◌≡◌, ◌≤◌, ◌⊎◌, ◌∷◌, ◌++◌, [], ℕ, List, false, Option, Some, Result, length, codes, decimal}
use Rattle.desk_io.specs.Files.{Files}
use Rattle.line_words.specs.declared.refusals.ReadFault.{ReadFault}
use Rattle.pb_rules.specs.Frames.{Line, derived_count}
use Rattle.proof_log.specs.HonestLog.{IsHonestLog}
use Rattle.proof_log.specs.Files.{OfFile}
use Rattle.spec_model.specs.Spec.{SpecValue}
use Rattle.encode_model.specs.Block.{cover_frame}
use Rattle.result_text.specs.Answers.{EntryValue}
use Rattle.result_text.specs.Fronts.{FrontValue, front_text}
use Rattle.front_model.specs.Fronts.{IsFrontOf}
use Rattle.front_model.specs.Proofs.{AcceptsTexts}
use Rattle.front_lists.specs.Lists.{FoundPrefix, FoundWhole, AreUndominated, vectors_in, covers_of}
use Rattle.front_search.specs.Searches.{IsBelowBound, LastContradicts}
use Rattle.run_base.specs.After.{Makes}
use Rattle.run_base.specs.Worlds.{World, AfterSpec}
use Rattle.run_base.specs.declared.outcome.Ending.TheVariants.{Done, Budget}
use Rattle.run_base.specs.declared.outcome.Outcome.{Outcome}

-- what is wanted: how many lines the search may derive, where it is given, and the files that the front and its proof are written to
pub record WantedFrontValue : Type 0 where
  pub budget : Option ℕ
  pub front : List ℕ
  pub proof : List ℕ

-- the two files that are written, in order
abbrev pub both_files : WantedFrontValue → List ℕ → List ℕ → Files
both_files wanted front proof = (wanted.front, front) ∷ (wanted.proof, proof) ∷ []

-- what is said of a front with so many entries: that it is complete, or open
abbrev pub complete_text : ℕ → List ℕ
complete_text entries = codes "front complete " ++ decimal entries ++ codes "\n"

abbrev pub open_text : ℕ → List ℕ
open_text entries = codes "front open " ++ decimal entries ++ codes "\n"

-- the lines of a proof have the found vectors as covers, in order, the last derived one gives `0 >= 1`, and there are no more of these than the budget, if one is given
pub record LinesFind (s : SpecValue) (found : List EntryValue) (budget : Option ℕ) (ls : List Line) : Type 0 where
  pub covers : covers_of ls ≡ vectors_in found
  pub last : LastContradicts s ls
  pub within : (n : ℕ) → budget ≡ Some n → derived_count ls ≤ n

-- the same of honest lines, of which as many are derived as the budget has
pub record LinesUseUp (s : SpecValue) (found : List EntryValue) (budget : ℕ) (ls : List Line) : Type 0 where
  pub covers : covers_of ls ≡ vectors_in found
  pub count : derived_count ls ≡ budget
  pub honest : IsHonestLog (cover_frame s) ls

-- the front of the specification is written, with a proof that is accepted with it: it has the undominated entries of the whole found list, whose vectors are the covers of the proof
pub record FindsAll (wanted : WantedFrontValue) (s : SpecValue) (outcome : Outcome) : Type 0 where
  pub ending : outcome.ending ≡ Done
  pub found : List EntryValue
  pub whole : FoundWhole s found
  pub front : FrontValue
  pub undominated : AreUndominated found front.entries
  pub exact : IsFrontOf s front
  pub proof : List ℕ
  pub accepted : AcceptsTexts s (front_text s front) proof
  pub lines : OfFile (LinesFind s found wanted.budget) proof
  pub writes : outcome.writes ≡ both_files wanted (front_text s front) proof
  pub says : outcome.text.items ≡ complete_text (length front.entries)

-- the budget is used up, as the proof shows that is written, and is below what the vectors of the valid designs allow: the front has the undominated entries of what was found before, and is open
pub record FindsSome (wanted : WantedFrontValue) (s : SpecValue) (outcome : Outcome) : Type 0 where
  pub ending : outcome.ending ≡ Budget
  pub budget : ℕ
  pub given : wanted.budget ≡ Some budget
  pub small : IsBelowBound s budget
  pub found : List EntryValue
  pub prefix : FoundPrefix s found
  pub front : FrontValue
  pub undominated : AreUndominated found front.entries
  pub is_open : front.complete ≡ false
  pub proof : List ℕ
  pub lines : OfFile (LinesUseUp s found budget) proof
  pub writes : outcome.writes ≡ both_files wanted (front_text s front) proof
  pub says : outcome.text.items ≡ open_text (length front.entries)

-- what a specification comes to; memory may run out
abbrev pub Finds : WantedFrontValue → SpecValue → Outcome → Type 0
Finds wanted s outcome = FindsAll wanted s outcome ⊎ FindsSome wanted s outcome

abbrev pub FrontsSpec : WantedFrontValue → SpecValue → Result Outcome ReadFault → Type 0
FrontsSpec wanted s result = Makes (Finds wanted s) result

-- what the files come to
abbrev pub Fronts : WantedFrontValue → World → Result Outcome ReadFault → Type 0
Fronts wanted world result = AfterSpec world (FrontsSpec wanted) result
