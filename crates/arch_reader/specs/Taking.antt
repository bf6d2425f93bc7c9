-- What the steps of the reader take.
use Rattle.std.specs.Prelude.{◌≡◌, ℕ, ◌+◌, List, [], ◌∷◌, ◌++◌, length, All, Option, Some, None, Ok, Err}
use Rattle.line_words.specs.Text.{words_in}
use Rattle.line_words.specs.Rules.{Statement as Line, Words, first_broken, texts}
use Rattle.line_words.specs.Left.{Left, Numbered}
use Rattle.line_words.specs.Refused.{fault_at}
use Rattle.line_words.specs.Run.{Reading, run}
use Rattle.line_words.specs.Reads.{Agrees, Stops}
use Rattle.line_words.specs.declared.refusals.FileTag.TheVariants.{Arch}
use Rattle.line_words.specs.declared.refusals.ReadFault.{ReadFault}
use Rattle.line_words.specs.declared.refusals.Stop.{Stop}
use Rattle.line_words.specs.declared.refusals.Why.{Why}
use Rattle.file_bricks.specs.Words.{IsWord}
use Rattle.arch_reader.specs.Shapes.{plain, form_of}
use Rattle.arch_reader.specs.Seen.{after}
use Rattle.arch_reader.specs.Tests.{tests}
use Rattle.arch_reader.specs.Arch.{ArchValue, AllPass, arch_rules, lines_in, arch_stated}
use Rattle.arch_reader.specs.declared.seen.Seen.{Seen}
use Rattle.arch_reader.specs.declared.statement.Statement.{Statement}
use Rattle.arch_reader.specs.declared.statement.ArchLine.{ArchLine}
use Rattle.arch_reader.specs.declared.reading.Taken.{Taken}

-- the first rule that a statement's words break, after what was seen
abbrev pub broken_by : Seen → Words → Option Why
broken_by s ws = first_broken (tests s (form_of ws))

-- a statement is kept: what it declares is seen, and it stands behind the others
pub record Keeps (old new : Taken) (number : ℕ) (statement : Statement) : Type 0 where
  pub seen_is : new.seen ≡ after old.seen statement
  pub lines_are : new.lines ≡ old.lines ++ record { line = number; statement = statement } ∷ []

-- the statement of words is taken: they break no rule and are all numbers where they have to be, and it is kept
pub record Takes (old new : Taken) (number : ℕ) (ws : Words) : Type 0 where
  pub fine : broken_by old.seen ws ≡ None
  pub statement : Statement
  pub form_is : form_of ws ≡ Some (plain statement)
  pub keeps : Keeps old new number statement

-- the same of a line that is given, each of whose words is one
pub record TakesLine (old new : Taken) (line : Numbered) : Type 0 where
  pub words : All IsWord (texts (words_in line.content))
  pub takes : Takes old new line.number (texts (words_in line.content))

-- the statement of a line is refused for the first rule that it breaks, or there is no memory
pub record StopsLine (seen : Seen) (line : Numbered) (fault : ReadFault) : Type 0 where
  pub stop : Stop
  pub stops : Stops stop (broken_by seen (texts (words_in line.content)))
  pub fault_is : fault ≡ fault_at Arch line.number stop

-- what the whole file gives, from some line on
abbrev pub reading_of : Left → Reading
reading_of left = run arch_rules left.number [] left.lines

-- the file is refused, or there is no memory
abbrev pub IsRefused : Reading → ReadFault → Type 0
IsRefused total fault = Agrees {X = ArchValue} Arch lines_in arch_stated total (Err fault)

-- The header is passed: reading on gives what the file gives.
pub record Begins (old new : Left) : Type 0 where
  pub header : Line
  pub goes : run arch_rules new.number (header ∷ []) new.lines ≡ reading_of old
  pub count : new.number + length new.lines ≡ old.number + length old.lines

-- All statements of a file are taken: they break no rule, and are what its lines state.
pub record TakesAll (old : Left) (lines : List ArchLine) : Type 0 where
  pub statements : List Line
  pub gives : reading_of old ≡ Ok statements
  pub lines_are : lines ≡ arch_stated statements
  pub pass : AllPass [] lines
