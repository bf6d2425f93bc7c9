-- What the bytes of files read as: from a file of task graphs and tables and an architecture file to a specification,
-- from a genotype file to genes, or to the first refusal.
use Rattle.std.specs.Prelude.{◌≡◌, ℕ, ◌+◌, ◌<◌, ◌≤◌, ◌⊎◌, List, [], length, Option, Some, None, Result, Ok, Err}
use Rattle.spec_model.specs.Spec.{SpecValue, design_variables}
use Rattle.spec_model.specs.Genotypes.{GeneValue, natural}
use Rattle.line_words.specs.Text.{lines}
use Rattle.line_words.specs.Rules.{Rules, Statement, statements, HasNoFault, IsLeast}
use Rattle.line_words.specs.declared.refusals.Why.TheVariants.{Limit}
use Rattle.line_words.specs.declared.refusals.What.TheVariants.{FileBytes}
use Rattle.line_words.specs.declared.refusals.FileTag.{FileTag}
use Rattle.line_words.specs.declared.refusals.FileTag.TheVariants.{Tgff, Arch, Genotype}
use Rattle.line_words.specs.declared.refusals.Refusal.{Refusal}
use Rattle.line_words.specs.declared.refusals.ReadFault.{ReadFault}
use Rattle.line_words.specs.declared.refusals.ReadFault.TheVariants as faults
use Rattle.tgff_reader.specs.Facts.{TgffValue}
use Rattle.tgff_reader.specs.Tgff.{tgff_rules, graphs_stated}
use Rattle.arch_reader.specs.Arch.{ArchValue, arch_rules, arch_stated}
use Rattle.genotype.specs.Statements.{genotype_rules, genes_of}
use Rattle.spec_join.specs.Reading.{JoinReads}
use Rattle.line_words.specs.Limits.{most_file_bytes}
use Rattle.run_base.specs.After.{After}

-- ---- one file of any kind

-- what a file is refused for that is too long: line 0 stands for the file as a whole
abbrev pub refused_as_long : FileTag → Refusal
refused_as_long file = record { file = file; line = 0; why = Limit FileBytes }

-- a file is too long, and so it isn't read
pub record IsTooLong (file : FileTag) (bytes : List ℕ) (r : Refusal) : Type 0 where
  pub long : most_file_bytes < length bytes
  pub refused : r ≡ refused_as_long file

-- a file breaks a rule of its own: the first refusal is at the lowest line and for the lowest rule there
pub record BreaksRule (file : FileTag) (rules : Rules) (bytes : List ℕ) (r : Refusal) : Type 0 where
  pub short : length bytes ≤ most_file_bytes
  pub file_is : r.file ≡ file
  pub least : IsLeast rules (lines bytes) r.line r.why

-- a file that isn't too long and breaks no rule of its own
pub record IsUnbroken (rules : Rules) (bytes : List ℕ) : Type 0 where
  pub short : length bytes ≤ most_file_bytes
  pub unbroken : HasNoFault rules (lines bytes)

-- such a file, and what its statements say
pub record IsStated {X : Type 0} (rules : Rules) (value : List Statement → X) (bytes : List ℕ) (x : X) : Type 0 where
  pub file : IsUnbroken rules bytes
  pub value_is : x ≡ value (statements rules (lines bytes))

-- what the bytes of a file read as; memory may run out
abbrev pub ReadsFile : {X : Type 0} → FileTag → Rules → (List Statement → X) → List ℕ → Result X ReadFault → Type 0
ReadsFile file rules value bytes (Ok x) = IsStated rules value bytes x
ReadsFile file rules value bytes (Err (faults.Refused r)) = IsTooLong file bytes r ⊎ BreaksRule file rules bytes r
ReadsFile file rules value bytes (Err faults.NoMemory) = Unit {0}

-- the same of a file that may not be named, with what stands in its place
abbrev pub ReadsIfNamed : {X : Type 0} → FileTag → Rules → (List Statement → X) → X → Option (List ℕ) → Result X ReadFault → Type 0
ReadsIfNamed file rules value absent (Some bytes) reading = ReadsFile file rules value bytes reading
ReadsIfNamed file rules value absent None (Ok x) = x ≡ absent
ReadsIfNamed file rules value absent None (Err (faults.Refused r)) = ⊥
ReadsIfNamed file rules value absent None (Err faults.NoMemory) = Unit {0}

-- ---- the specification

-- no graphs and no tables
abbrev pub no_graphs : TgffValue
no_graphs = record { graphs = []; tables = [] }

-- what a file of task graphs and tables reads as, or no graphs and no tables where none is named
abbrev pub ReadsTgff : Option (List ℕ) → Result TgffValue ReadFault → Type 0
ReadsTgff named reading = ReadsIfNamed Tgff tgff_rules graphs_stated no_graphs named reading

-- what the lines of an architecture file state, where they break no rule
abbrev pub file_of : List ℕ → ArchValue
file_of bytes = record { lines = arch_stated (statements arch_rules (lines bytes)); end_line = 1 + length (lines bytes) }

-- with the graphs and tables, the bytes are those of a specification
pub record IsRead (tgff : TgffValue) (bytes : List ℕ) (spec : SpecValue) : Type 0 where
  pub file : IsUnbroken arch_rules bytes
  pub joined : JoinReads tgff (file_of bytes) (Ok spec)

-- an architecture file breaks no rule of its own, and is refused where it is joined with the graphs and tables
pub record BreaksJoin (tgff : TgffValue) (bytes : List ℕ) (r : Refusal) : Type 0 where
  pub file : IsUnbroken arch_rules bytes
  pub refused : JoinReads tgff (file_of bytes) (Err (faults.Refused r))

-- what the bytes of an architecture file read as with the graphs and tables; memory may run out
abbrev pub ReadsArch : List ℕ → TgffValue → Result SpecValue ReadFault → Type 0
ReadsArch bytes tgff (Ok spec) = IsRead tgff bytes spec
ReadsArch bytes tgff (Err (faults.Refused r)) = IsTooLong Arch bytes r ⊎ BreaksRule Arch arch_rules bytes r ⊎ BreaksJoin tgff bytes r
ReadsArch bytes tgff (Err faults.NoMemory) = Unit {0}

-- what both files read as, the first of which may not be named
abbrev pub ReadsSpec : Option (List ℕ) → List ℕ → Result SpecValue ReadFault → Type 0
ReadsSpec tgff arch reading = After (ReadsTgff tgff) (ReadsArch arch) reading

-- ---- the genotype

-- what a genotype file reads as for a specification, or the natural genotype where none is named
abbrev pub ReadsGenotype : SpecValue → Option (List ℕ) → Result (List GeneValue) ReadFault → Type 0
ReadsGenotype s named reading = ReadsIfNamed Genotype (genotype_rules (design_variables s)) (genes_of (design_variables s)) (natural (design_variables s)) named reading
