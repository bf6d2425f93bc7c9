-- What `explore` comes to.
use Rattle.std.specs.Prelude.{◌≡◌, ◌+◌, ◌⊎◌, ℕ, List, [], All, Option, None, Result, length}
use Rattle.pb_rules.specs.Frames.{Line}
use Rattle.proof_log.specs.Files.{OfFile, AreLegal}
use Rattle.rand_core.specs.Pcg32Seed.{pcg32_seed}
use Rattle.rand_pcg.specs.Lcg.{Lcg}
use Rattle.rand_pcg.specs.Pcg.{pcg32_of_seed}
use Rattle.line_words.specs.declared.refusals.ReadFault.{ReadFault}
use Rattle.spec_model.specs.Spec.{SpecValue}
use Rattle.encode_model.specs.Encoding.{encoding}
use Rattle.encode_model.specs.Block.{cover_frame}
use Rattle.spec_make.specs.Made.{word_of, next_of}
use Rattle.front_archive.specs.declared.member.Member.{Member}
use Rattle.front_archive.specs.Members.{covers}
use Rattle.front_archive.specs.Best.{best}
use Rattle.evo_explore.specs.Counts.{RoseBy}
use Rattle.evo_explore.specs.Run.{AreRounds, AreDecodings, FindsNone, no_lines}
use Rattle.evo_explore.specs.Laws.{IsShownBy}
use Rattle.evo_explore.specs.declared.run.End.TheVariants as ends
use Rattle.file_writes.specs.Writes.{WritesIfNamed}
use Rattle.proof_files.specs.Proving.{AreDerived, Refutes}
use Rattle.run_base.specs.After.{Makes}
use Rattle.run_base.specs.Worlds.{World, AfterSpec}
use Rattle.run_base.specs.declared.outcome.Ending.TheVariants.{Done, No}
use Rattle.run_base.specs.declared.outcome.Outcome.{Outcome}
use Rattle.explore_run.specs.Tools.{ToolsValue, tags_at, measured_by}
use Rattle.explore_run.specs.Saying.{explored_text}

-- what is wanted: how many rounds, from which number the words are drawn, the places of the tools that measure, and the file that the proof is written to, where it is given
pub record ExplorationValue : Type 0 where
  pub rounds : ℕ
  pub seed : ℕ
  pub chosen : List ℕ
  pub proof : Option (List ℕ)

-- the generator of words that a number is the seed of
abbrev pub seeded : ℕ → Lcg
seeded seed = pcg32_of_seed (pcg32_seed 16 seed)

-- the rounds from a seed on, to some state of the words
pub record AreRoundsFrom (s : SpecValue) (tools : ToolsValue) (chosen : List ℕ) (seed : ℕ) (entries : List Member) : Type 0 where
  pub last : Lcg
  pub rounds : AreRounds s word_of next_of (measured_by tools chosen s) [] entries (seeded seed) last

-- the lines of all decodings, in order: each is a derived one and legal at its place,
-- and the encoding and what all of them derive show by propagation alone of each round's design that it is the first
pub record LinesShowEach (s : SpecValue) (entries : List Member) (ls : List Line) : Type 0 where
  pub derived_each : AreDerived ls
  pub legal : AreLegal (cover_frame s) ls
  pub decodings : AreDecodings s entries (no_lines s) (record { first = length (encoding s) + 1; lines = ls })
  pub shown : All (IsShownBy s (cover_frame s) (record { first = length (encoding s) + 1; lines = ls })) entries

-- all rounds were made: the best of their entries are said, the chosen tools were called once a round, and the proof file, if one is named, shows of each round's design that it is the first
pub record ExploresAll (wanted : ExplorationValue) (tools : ToolsValue) (calls : List ℕ) (s : SpecValue) (outcome : Outcome) : Type 0 where
  pub ending : outcome.ending ≡ Done
  pub entries : List Member
  pub rounds_are : AreRoundsFrom s tools wanted.chosen wanted.seed entries
  pub count : length entries ≡ wanted.rounds
  pub feasible : ¬ FindsNone s wanted.rounds
  pub says : outcome.text.items ≡ explored_text s (tags_at tools.tags wanted.chosen) (length entries) (best covers entries) ends.Done
  pub counted : RoseBy (length entries) wanted.chosen tools.calls calls
  pub proof : WritesIfNamed wanted.proof (OfFile (LinesShowEach s entries)) outcome.writes

-- there is a round and no design is valid: an archive without members is said, no tool was called, and the proof file, if one is named, is accepted with the front without entries
pub record ExploresNone (wanted : ExplorationValue) (tools : ToolsValue) (calls : List ℕ) (s : SpecValue) (outcome : Outcome) : Type 0 where
  pub ending : outcome.ending ≡ No
  pub infeasible : FindsNone s wanted.rounds
  pub says : outcome.text.items ≡ explored_text s (tags_at tools.tags wanted.chosen) 0 [] ends.Infeasible
  pub counted : RoseBy 0 wanted.chosen tools.calls calls
  pub proof : WritesIfNamed wanted.proof (Refutes s None) outcome.writes

-- what a specification comes to, with the calls that the tools had before and have after; memory may run out
abbrev pub Finds : ExplorationValue → ToolsValue → List ℕ → SpecValue → Outcome → Type 0
Finds wanted tools calls s outcome = ExploresAll wanted tools calls s outcome ⊎ ExploresNone wanted tools calls s outcome

abbrev pub ExploresSpec : ExplorationValue → ToolsValue → List ℕ → SpecValue → Result Outcome ReadFault → Type 0
ExploresSpec wanted tools calls s result = Makes (Finds wanted tools calls s) result

-- what the files come to
abbrev pub Explores : ExplorationValue → ToolsValue → List ℕ → World → Result Outcome ReadFault → Type 0
Explores wanted tools calls world result = AfterSpec world (ExploresSpec wanted tools calls) result
