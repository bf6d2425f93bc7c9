-- What the search of `decode` ends with.
use Rattle.std.specs.Prelude.{◌≡◌, ◌<◌, ◌-◌, ◌^◌, ◌++◌, ℕ, List, Option, Some, codes, decimal, length, option_map, unwrap_or}
use Rattle.pb_rules.specs.Frames.{Line}
use Rattle.proof_log.specs.Log.{LogValue}
use Rattle.spec_model.specs.Spec.{SpecValue, bits_of, design_variables, all_variables}
use Rattle.spec_model.specs.Vectors.{vector_of}
use Rattle.spec_model.specs.Genotypes.{GeneValue}
use Rattle.result_text.specs.Spelling.{implementation_text}
use Rattle.run_base.specs.declared.outcome.Ending.{Ending}
use Rattle.run_base.specs.declared.outcome.Ending.TheVariants as endings
use Rattle.sat_decoder.specs.Decoding.{DecodedSays}
use Rattle.sat_decoder.specs.declared.decoded.Decoded.{Decoded}
use Rattle.sat_decoder.specs.declared.decoded.Decoded.TheVariants.{First, Nothing, Budget}
use Rattle.dse_run.specs.Decoding.{EvidenceValue}
use Rattle.proof_files.specs.Proving.{LinesShowFirst, LinesUseUp, RefuteAll}
use Rattle.dse_run.specs.declared.search.Evidence.{Evidence}

-- a budget is given, and it is used up
pub record AreUsedUp (s : SpecValue) (budget : Option ℕ) (ls : List Line) : Type 0 where
  pub most : ℕ
  pub given : budget ≡ Some most
  pub few : most < 2 ^ all_variables s
  pub lines : LinesUseUp s most ls

-- what the lines are worth, by the answer that they led to
abbrev pub LinesAreWorth : SpecValue → List GeneValue → Option ℕ → Decoded → List Line → Type 0
LinesAreWorth s genes budget (First design) ls = LinesShowFirst s genes design budget ls
LinesAreWorth s genes budget Nothing ls = RefuteAll s budget ls
LinesAreWorth s genes budget Budget ls = AreUsedUp s budget ls

-- an answer, and the log that shows it
pub record IsSearched (s : SpecValue) (genes : List GeneValue) (budget : Option ℕ) (decoded : Decoded) (log : LogValue) : Type 0 where
  pub says : DecodedSays s genes decoded
  pub lines : LinesAreWorth s genes budget decoded log.lines

-- what is wanted, as it is seen
abbrev pub evidence_value : Evidence → EvidenceValue
evidence_value wanted = record { budget = wanted.budget; proof = option_map (λ s. s.now) wanted.proof_file }

-- a design has a bit for each variable
abbrev pub IsSized : SpecValue → Decoded → Type 0
IsSized s (First design) = length design ≡ design_variables s
IsSized s Nothing = Unit {0}
IsSized s Budget = Unit {0}

-- how a command ends by an answer, and what it says
abbrev pub ending_of : Decoded → Ending
ending_of (First design) = endings.Done
ending_of Nothing = endings.No
ending_of Budget = endings.Budget

abbrev pub answer_text : SpecValue → Option ℕ → Decoded → List ℕ
answer_text s budget (First design) = implementation_text s (bits_of design) (vector_of s (bits_of design))
answer_text s budget Nothing = codes "none\n"
answer_text s budget Budget = codes "budget " ++ decimal (unwrap_or budget (2 ^ 64 - 1)) ++ codes "\n"
