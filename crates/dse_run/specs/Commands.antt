-- Where the commands come together: a line for each.
use Rattle.std.specs.Prelude.{◌≡◌, ◌&&◌, ℕ, IsTrue, List, [], Option, Some, None, Result, codes, is_some}
use Rattle.desk_io.specs.Files.{Files}
use Rattle.line_words.specs.declared.refusals.ReadFault.{ReadFault}
use Rattle.run_words.specs.Decoding.{DecodeValue}
use Rattle.run_words.specs.Exploring.{ExploringValue}
use Rattle.run_words.specs.Fronting.{FrontingValue}
use Rattle.run_words.specs.Making.{MakingValue}
use Rattle.run_words.specs.Values.{RequestValue, decode, explore, front, check, make}
use Rattle.run_base.specs.Worlds.{NamesValue, World, AreLoaded, IsWorldOf}
use Rattle.run_base.specs.declared.inputs.Inputs.{Inputs}
use Rattle.run_base.specs.declared.outcome.Outcome.{Outcome}
use Rattle.check_run.specs.Checking.{ChecksFile}
use Rattle.check_run.specs.Calls.{MayBeChecked}
use Rattle.evo_explore.specs.Counts.{RoseAtMost}
use Rattle.explore_run.specs.Tools.{ToolsValue, Keeps}
use Rattle.explore_run.specs.Exploring.{Explores}
use Rattle.explore_run.specs.Exploring.{ExplorationValue}
use Rattle.front_run.specs.Fronting.{WantedFrontValue, Fronts}
use Rattle.make_run.specs.Making.{Making}
use Rattle.make_run.specs.Making.{WantedValue as MadeValue}
use Rattle.dse_run.specs.Decoding.{EvidenceValue, Decodes}

-- the files that a request names and that are loaded whole; `explore` and `front` have no third one, and `make` has none
abbrev pub names_of : RequestValue → NamesValue
names_of (decode d) = record { tgff = d.tgff; arch = d.arch; third = d.geno }
names_of (explore e) = record { tgff = e.tgff; arch = e.arch; third = codes "-" }
names_of (front f) = record { tgff = f.tgff; arch = f.arch; third = codes "-" }
names_of (check c) = record { tgff = c.tgff; arch = c.arch; third = c.front }
names_of (make m) = record { tgff = codes "-"; arch = codes "-"; third = codes "-" }

-- where no file is read
abbrev pub no_world : World
no_world = record { tgff = None; arch = []; third = None }

-- the contents of the files that a request names, where these are told; `make` reads none, whatever the files are
abbrev pub IsWorldFor : Option Files → RequestValue → World → Type 0
IsWorldFor files (decode d) world = IsWorldOf files (names_of (decode d)) world
IsWorldFor files (explore e) world = IsWorldOf files (names_of (explore e)) world
IsWorldFor files (front f) world = IsWorldOf files (names_of (front f)) world
IsWorldFor files (check c) world = IsWorldOf files (names_of (check c)) world
IsWorldFor files (make m) world = world ≡ no_world

-- what was loaded for a request
pub record AreLoadedFor (files : Option Files) (asked : RequestValue) (inputs : Inputs) : Type 0 where
  pub world : World
  pub found : IsWorldFor files asked world
  pub loaded : AreLoaded inputs world

-- the budget and the proof file of a request
abbrev pub evidence_of : DecodeValue → EvidenceValue
evidence_of d = record { budget = d.budget; proof = d.proof }

-- the rounds, the seed, the tools and the proof file of an exploration
abbrev pub exploration_of : ExploringValue → ExplorationValue
exploration_of e = record { rounds = e.rounds; seed = e.seed; chosen = e.chosen; proof = e.proof }

-- the budget and the files of a front
abbrev pub wanted_of : FrontingValue → WantedFrontValue
wanted_of f = record { budget = f.budget; front = f.front; proof = f.proof }

-- the number, the file and the rounds of what is made
abbrev pub made_of : MakingValue → MadeValue
made_of m = record { number = m.number; arch = m.arch; rounds = m.rounds }

-- what a request comes to, with tools and the calls that they have had afterwards; a file that isn't loaded whole is one of those that the desk may tell
abbrev pub ComesTo : RequestValue → ToolsValue → List ℕ → Option Files → World → Result Outcome ReadFault → Type 0
ComesTo (decode d) tools calls files world result = Decodes (evidence_of d) world result
ComesTo (explore e) tools calls files world result = Explores (exploration_of e) tools calls world result
ComesTo (front f) tools calls files world result = Fronts (wanted_of f) world result
ComesTo (check c) tools calls files world result = ChecksFile files c.proof world result
ComesTo (make m) tools calls files world result = Making (made_of m) result

-- which calls a request makes of tools: `explore` calls the chosen ones at most once a round, and nothing else calls one
abbrev pub Calls : Option RequestValue → List ℕ → List ℕ → Type 0
Calls (Some (explore e)) old new = RoseAtMost e.rounds e.chosen old new
Calls (Some (decode d)) old new = new ≡ old
Calls (Some (front f)) old new = new ≡ old
Calls (Some (check c)) old new = new ≡ old
Calls (Some (make m)) old new = new ≡ old
Calls None old new = new ≡ old

-- what a request leaves of tools: all is as before but those calls
abbrev pub KeepsTools : Option RequestValue → ToolsValue → ToolsValue → Type 0
KeepsTools asked old new = Keeps (Calls asked) old new

-- where a command may call on a file that isn't loaded whole: `decode`, `explore`, `front` and `make` never, `check` once its front may be checked against
abbrev pub MayCall : RequestValue → World → Type 0
MayCall (decode d) world = ⊥
MayCall (explore e) world = ⊥
MayCall (front f) world = ⊥
MayCall (check c) world = MayBeChecked world
MayCall (make m) world = ⊥

-- a request that may end by its budget: it has one, and its proof is written
abbrev pub HasBudget : RequestValue → Type 0
HasBudget (decode d) = IsTrue (is_some d.budget && is_some d.proof)
HasBudget (explore e) = ⊥
HasBudget (front f) = IsTrue (is_some f.budget)
HasBudget (check c) = ⊥
HasBudget (make m) = ⊥
