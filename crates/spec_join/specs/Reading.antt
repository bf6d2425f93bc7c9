-- What joining a file of task graphs and tables and an architecture file answers.
use Rattle.std.specs.Prelude.{◌≡◌, ℕ, ◌<◌, ◌⊎◌, List, [], length, fold, take, slice_index_or, Result, Ok, Err}
use Rattle.spec_model.specs.Spec.{SpecValue}
use Rattle.spec_graph.specs.Plan.{finished}
use Rattle.line_words.specs.declared.refusals.Why.{Why}
use Rattle.line_words.specs.declared.refusals.FileTag.TheVariants.{Arch}
use Rattle.line_words.specs.declared.refusals.ReadFault.{ReadFault}
use Rattle.line_words.specs.declared.refusals.ReadFault.TheVariants as faults
use Rattle.arch_reader.specs.Seen.{seen}
use Rattle.arch_reader.specs.Arch.{ArchValue, statements_in}
use Rattle.arch_reader.specs.declared.statement.ArchLine.{ArchLine}
use Rattle.arch_reader.specs.declared.statement.Statement.{Statement}
use Rattle.arch_reader.specs.declared.statement.Statement.TheVariants.{Task}
use Rattle.spec_join.specs.Joining.{Joining, start}
use Rattle.spec_join.specs.Effects.{effect}
use Rattle.tgff_reader.specs.Facts.{TgffValue}
use Rattle.table_cells.specs.Least.{IsLeast}
use Rattle.spec_join.specs.Refusals.{StatementBreaks, BreaksEnd}

-- what the first n of a file's statements make, over the graphs and tables
abbrev pub after : TgffValue → List Statement → ℕ → Joining
after tgff statements n = fold effect (start tgff (seen statements)) (take n statements)

-- what all of them make
abbrev pub after_all : TgffValue → List ArchLine → Joining
after_all tgff lines = after tgff (statements_in lines) (length lines)

-- the statement at a place
abbrev pub statement_at : List Statement → ℕ → Statement
statement_at statements n = slice_index_or statements n (Task [])

-- the line of the statement at a place
abbrev pub line_at : List ArchLine → ℕ → ArchLine
line_at lines n = slice_index_or lines n (record { line = 0; statement = Task [] })

-- the statement at a place is to be refused for this, after what those before it made
abbrev pub BreaksAt : TgffValue → List Statement → ℕ → Why → Type 0
BreaksAt tgff statements n why = StatementBreaks (after tgff statements n) (statement_at statements n) why

-- none of the first n statements is to be refused
abbrev pub NoneBreaks : TgffValue → List Statement → ℕ → Type 0
NoneBreaks tgff statements n = (k : ℕ) (why : Why) → k < n → BreaksAt tgff statements k why → ⊥

-- the first statement that is refused stands on this line, and this is the lowest that it is refused for
pub record IsRefusedAt (tgff : TgffValue) (lines : List ArchLine) (line : ℕ) (why : Why) : Type 0 where
  pub place : ℕ
  pub within : place < length lines
  pub line_is : line ≡ (line_at lines place).line
  pub before : NoneBreaks tgff (statements_in lines) place
  pub here : IsLeast (BreaksAt tgff (statements_in lines) place) why

-- no statement is refused, but the whole is: at the end line, for the lowest that it is refused for
pub record IsRefusedAtEnd (tgff : TgffValue) (file : ArchValue) (line : ℕ) (why : Why) : Type 0 where
  pub line_is : line ≡ file.end_line
  pub before : NoneBreaks tgff (statements_in file.lines) (length file.lines)
  pub here : IsLeast (BreaksEnd (after_all tgff file.lines).plan) why

-- nothing is refused, and the specification is what the statements make
pub record IsJoined (tgff : TgffValue) (file : ArchValue) (spec : SpecValue) : Type 0 where
  pub none : NoneBreaks tgff (statements_in file.lines) (length file.lines)
  pub none_at_end : (why : Why) → BreaksEnd (after_all tgff file.lines).plan why → ⊥
  pub value : spec ≡ finished (after_all tgff file.lines).plan

-- what joining answers; memory may run out
abbrev pub JoinReads : TgffValue → ArchValue → Result SpecValue ReadFault → Type 0
JoinReads tgff file (Ok spec) = IsJoined tgff file spec
JoinReads tgff file (Err (faults.Refused r)) = (r.file ≡ Arch) × (IsRefusedAt tgff file.lines r.line r.why ⊎ IsRefusedAtEnd tgff file r.line r.why)
JoinReads tgff file (Err faults.NoMemory) = Unit {0}
