-- What `make` comes to.
use Rattle.std.specs.Prelude.{◌≡◌, ◌++◌, ◌∷◌, ◌⊎◌, ℕ, List, [], Option, Some, None, Result, Ok, length}
use Rattle.rand_pcg.specs.Lcg.{Lcg}
use Rattle.line_words.specs.declared.refusals.ReadFault.{ReadFault}
use Rattle.spelled_lines.specs.Lines.{spelled}
use Rattle.spec_model.specs.Spec.{SpecValue}
use Rattle.spec_make.specs.Made.{made_text, word_of, next_of}
use Rattle.front_archive.specs.declared.member.Member.{Member}
use Rattle.front_archive.specs.Members.{covers}
use Rattle.front_archive.specs.Best.{best}
use Rattle.evo_explore.specs.Run.{FindsNone, IsRunOf}
use Rattle.evo_explore.specs.declared.run.Run.{Run}
use Rattle.evo_explore.specs.declared.run.End.TheVariants as ends
use Rattle.run_base.specs.After.{Makes}
use Rattle.run_base.specs.Reading.{ReadsSpec}
use Rattle.run_base.specs.declared.outcome.Ending.{Ending}
use Rattle.run_base.specs.declared.outcome.Ending.TheVariants.{Done, No}
use Rattle.run_base.specs.declared.outcome.Outcome.{Outcome}
use Rattle.explore_run.specs.Tools.{ToolsValue, measured_by}
use Rattle.explore_run.specs.Exploring.{AreRoundsFrom, seeded}
use Rattle.make_run.specs.Saying.{made_words, run_text}

-- what is wanted: the number that a specification is made from, the file that its text is written to, and how many rounds it is explored, where that is given
pub record WantedValue : Type 0 where
  pub number : ℕ
  pub arch : List ℕ
  pub rounds : Option ℕ

-- no tools
abbrev pub no_tools : ToolsValue
no_tools = record { tags = []; calls = []; values = λ s f. [] }

-- a run by no tools, from the words of a seed on to some state of them
pub record RunsAlone (s : SpecValue) (seed rounds : ℕ) (run : Run) : Type 0 where
  pub last : Lcg
  pub run_is : IsRunOf s word_of next_of (measured_by no_tools [] s) (seeded seed) last rounds run

-- all rounds were made: the vectors of the best of their entries are said
pub record ExploresAll (number rounds : ℕ) (s : SpecValue) (ending : Ending) (text : List ℕ) : Type 0 where
  pub ending_is : ending ≡ Done
  pub entries : List Member
  pub rounds_are : AreRoundsFrom s no_tools [] number entries
  pub count : length entries ≡ rounds
  pub feasible : ¬ FindsNone s rounds
  pub says : text ≡ spelled (made_words number s) ++ run_text (length entries) (best covers entries) ends.Done

-- there is a round and no design is valid: an archive without members is said
pub record ExploresNone (number rounds : ℕ) (s : SpecValue) (ending : Ending) (text : List ℕ) : Type 0 where
  pub ending_is : ending ≡ No
  pub infeasible : FindsNone s rounds
  pub says : text ≡ spelled (made_words number s) ++ run_text 0 [] ends.Infeasible

-- how an exploration ends, and what is said of it
abbrev pub Explores : ℕ → ℕ → SpecValue → Ending → List ℕ → Type 0
Explores number rounds s ending text = ExploresAll number rounds s ending text ⊎ ExploresNone number rounds s ending text

-- how the specification of a number ends, and what is said of it, explored for as many rounds as are given
abbrev pub Says : ℕ → Option ℕ → SpecValue → Ending → List ℕ → Type 0
Says number None s ending text = (ending ≡ Done) × (text ≡ spelled (made_words number s))
Says number (Some rounds) s ending text = Explores number rounds s ending text

-- the text of the number is written, which reads as a specification, and that specification is what is said and explored
pub record MakesFile (wanted : WantedValue) (outcome : Outcome) : Type 0 where
  pub spec : SpecValue
  pub reads : ReadsSpec None (made_text wanted.number) (Ok spec)
  pub says : Says wanted.number wanted.rounds spec outcome.ending outcome.text.items
  pub writes : outcome.writes ≡ (wanted.arch, made_text wanted.number) ∷ []

-- what is made; nothing is refused, and memory may run out
abbrev pub Making : WantedValue → Result Outcome ReadFault → Type 0
Making wanted result = Makes (MakesFile wanted) result
