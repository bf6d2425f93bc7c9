-- What `decode` comes to.
use Rattle.std.specs.Prelude.{◌≡◌, ℕ, ◌<◌, ◌^◌, ◌++◌, List, Bool, Option, Some, Result, length, codes, decimal, ◌⊎◌}
use Rattle.line_words.specs.declared.refusals.ReadFault.{ReadFault}
use Rattle.spec_model.specs.Spec.{SpecValue, bits_of, design_variables, all_variables}
use Rattle.spec_model.specs.Genotypes.{GeneValue, IsFirstValid, HasNoValid}
use Rattle.spec_model.specs.Vectors.{vector_of}
use Rattle.result_text.specs.Spelling.{implementation_text}
use Rattle.run_base.specs.After.{Makes}
use Rattle.run_base.specs.Worlds.{World, AfterSpec, AfterGenotype}
use Rattle.file_writes.specs.Writes.{WritesIfNamed}
use Rattle.run_base.specs.declared.outcome.Ending.TheVariants.{Done, No, Budget}
use Rattle.run_base.specs.declared.outcome.Outcome.{Outcome}
use Rattle.proof_files.specs.Proving.{ShowsFirst, Refutes, UsesUp}

-- what is wanted beside the answer: how many lines the search may derive, and the file that its proof is written to, where these are given
pub record EvidenceValue : Type 0 where
  pub budget : Option ℕ
  pub proof : Option (List ℕ)

-- a design is the first valid one in the genotype's order, and it is said with its vector
pub record SaysFirst (s : SpecValue) (genes : List GeneValue) (design : List Bool) (text : List ℕ) : Type 0 where
  pub sized : length design ≡ design_variables s
  pub first : IsFirstValid s genes (bits_of design)
  pub says : text ≡ implementation_text s (bits_of design) (vector_of s (bits_of design))

-- the first valid design is said, and its proof file, if one is named, shows that it is the first
pub record FindsFirst (wanted : EvidenceValue) (s : SpecValue) (genes : List GeneValue) (outcome : Outcome) : Type 0 where
  pub ending : outcome.ending ≡ Done
  pub design : List Bool
  pub says : SaysFirst s genes design outcome.text.items
  pub proof : WritesIfNamed wanted.proof (ShowsFirst s genes design wanted.budget) outcome.writes

-- no design is valid, `none` is said, and the proof file, if one is named, shows it
pub record FindsNone (wanted : EvidenceValue) (s : SpecValue) (outcome : Outcome) : Type 0 where
  pub ending : outcome.ending ≡ No
  pub none : HasNoValid s
  pub says : outcome.text.items ≡ codes "none\n"
  pub proof : WritesIfNamed wanted.proof (Refutes s wanted.budget) outcome.writes

-- the budget is used up, as the proof file shows: a budget that is below the number of assignments
pub record UsesBudget (wanted : EvidenceValue) (s : SpecValue) (outcome : Outcome) : Type 0 where
  pub ending : outcome.ending ≡ Budget
  pub budget : ℕ
  pub given : wanted.budget ≡ Some budget
  pub few : budget < 2 ^ all_variables s
  pub says : outcome.text.items ≡ codes "budget " ++ decimal budget ++ codes "\n"
  pub proof : WritesIfNamed wanted.proof (UsesUp s budget) outcome.writes

-- the first valid design is found, or that none is valid, or the budget is used up before
abbrev pub Finds : EvidenceValue → SpecValue → List GeneValue → Outcome → Type 0
Finds wanted s genes outcome = FindsFirst wanted s genes outcome ⊎ FindsNone wanted s outcome ⊎ UsesBudget wanted s outcome

-- what a specification and a genotype come to; memory may run out
abbrev pub DecodesGenes : EvidenceValue → SpecValue → List GeneValue → Result Outcome ReadFault → Type 0
DecodesGenes wanted s genes result = Makes (Finds wanted s genes) result

-- what a specification comes to
abbrev pub DecodesSpec : EvidenceValue → World → SpecValue → Result Outcome ReadFault → Type 0
DecodesSpec wanted world s result = AfterGenotype world s (DecodesGenes wanted s) result

-- what the files come to
abbrev pub Decodes : EvidenceValue → World → Result Outcome ReadFault → Type 0
Decodes wanted world result = AfterSpec world (DecodesSpec wanted world) result
