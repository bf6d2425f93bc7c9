-- The specification that a made text states: joined to no task graphs, it is refused nowhere.
use Rattle.std.specs.Prelude.{◌≡◌, ℕ, List, [], length, Result, Ok, Err}
use Rattle.line_words.specs.Text.{lines}
use Rattle.line_words.specs.Rules.{statements}
use Rattle.line_words.specs.Reads.{Reads}
use Rattle.line_words.specs.declared.refusals.Why.{Why}
use Rattle.line_words.specs.declared.refusals.FileTag.TheVariants as files
use Rattle.line_words.specs.declared.refusals.ReadFault.{ReadFault}
use Rattle.line_words.specs.declared.refusals.ReadFault.TheVariants.{Refused, NoMemory}
use Rattle.arch_reader.specs.Arch.{ArchValue, arch_rules, lines_in, arch_stated, statements_in}
use Rattle.arch_reader.specs.declared.statement.ArchLine.{ArchLine}
use Rattle.tgff_reader.specs.Facts.{TgffValue}
use Rattle.tgff_reader.specs.Tgff.{tgff_rules, as_seen, graphs_stated}
use Rattle.spec_model.specs.Spec.{SpecValue}
use Rattle.spec_join.specs.Refusals.{BreaksEnd}
use Rattle.spec_join.specs.Reading.{NoneBreaks, after_all, JoinReads}
use Rattle.spec_make.specs.Made.{made_text}

-- a file of no task graphs and no tables
abbrev pub no_graphs : TgffValue
no_graphs = record { graphs = []; tables = [] }

-- what the text of a number states as an architecture file
abbrev pub made_statements : ℕ → List ArchLine
made_statements number = arch_stated (statements arch_rules (lines (made_text number)))

-- joining these statements to a file of task graphs refuses none of them, and not the whole
pub record AreAccepted (tgff : TgffValue) (ls : List ArchLine) : Type 0 where
  pub none : NoneBreaks tgff (statements_in ls) (length ls)
  pub none_at_end : (why : Why) → BreaksEnd (after_all tgff ls).plan why → ⊥

-- a value, or want of memory
abbrev pub IsNoRefusal : {X : Type 0} → Result X ReadFault → Type 0
IsNoRefusal (Ok x) = Unit {0}
IsNoRefusal (Err (Refused r)) = ⊥
IsNoRefusal (Err NoMemory) = Unit {0}

-- no bytes are read as a file of no task graphs
abbrev pub NoBytesAreNoGraphs : Type 0
NoBytesAreNoGraphs = (tgff : TgffValue) → Reads files.Tgff tgff_rules as_seen graphs_stated (lines []) (Ok tgff) → tgff ≡ no_graphs

-- the text of each number is read, unless memory runs out
abbrev pub MadeTextIsRead : Type 0
MadeTextIsRead = (number : ℕ) (reading : Result ArchValue ReadFault) → Reads files.Arch arch_rules lines_in arch_stated (lines (made_text number)) reading → IsNoRefusal reading

-- what the text of each number states is accepted
abbrev pub MadeTextIsAccepted : Type 0
MadeTextIsAccepted = (number : ℕ) → AreAccepted no_graphs (made_statements number)

-- where it was read, joining it gives a specification, unless memory runs out
abbrev pub MadeTextIsJoined : Type 0
MadeTextIsJoined = (number : ℕ) (file : ArchValue) (answer : Result SpecValue ReadFault)
    → Reads files.Arch arch_rules lines_in arch_stated (lines (made_text number)) (Ok file)
    → JoinReads no_graphs file answer
    → IsNoRefusal answer
