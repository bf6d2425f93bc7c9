-- How a run ends: what it says, which files it writes, and what it leaves where it is cut short.
use Rattle.std.specs.Prelude.{◌≡◌, ℕ, [], List, Option, Some, None, Result, Ok, Err, ◌⊎◌}
use Rattle.desk_io.specs.Files.{Files, Says, Appends}
use Rattle.line_words.specs.declared.refusals.ReadFault.{ReadFault}
use Rattle.line_words.specs.declared.refusals.ReadFault.TheVariants as faults
use Rattle.run_words.specs.Values.{RequestValue}
use Rattle.run_words.specs.Requests.{usage_text}
use Rattle.run_base.specs.Worlds.{NamesValue, World}
use Rattle.file_writes.specs.Writes.{Leaves, AreWritten, ArePartlyWritten}
use Rattle.run_base.specs.declared.outcome.Ending.{Ending}
use Rattle.run_base.specs.declared.outcome.Ending.TheVariants as endings
use Rattle.run_base.specs.declared.outcome.Outcome.{Outcome}
use Rattle.dse_run.specs.Commands.{names_of, ComesTo, IsWorldFor}
use Rattle.explore_run.specs.Tools.{ToolsValue}
use Rattle.dse_run.specs.Refusing.{input_text, word_of}
use Rattle.dse_run.specs.declared.status.Status.{Status}
use Rattle.dse_run.specs.declared.status.Status.TheVariants.{Done, No, Usage, Input, Budget, Fault, Memory}

-- the status of a command that ends by itself
abbrev pub status_of : Ending → Status
status_of endings.Done = Done
status_of endings.No = No
status_of endings.Budget = Budget

-- what is answered: the status, what is said, and which files are written
pub record ReplyValue : Type 0 where
  pub status : Status
  pub text : List ℕ
  pub writes : Files

-- the answer of an outcome, or the refusal of a file by its word; a refusal writes nothing
abbrev pub EndsBy : NamesValue → Result Outcome ReadFault → ReplyValue → Type 0
EndsBy names (Ok outcome) reply = reply ≡ record { status = status_of outcome.ending; text = outcome.text.items; writes = outcome.writes }
EndsBy names (Err (faults.Refused r)) reply = reply ≡ record { status = Input; text = input_text (word_of names r.file) r; writes = [] }
EndsBy names (Err faults.NoMemory) reply = ⊥

-- what is answered to a request: what it comes to over the contents of its files, which are those of the desk where
-- the desk tells its files, with tools and the calls that they have had afterwards
pub record AnswersRequest (asked : RequestValue) (tools : ToolsValue) (calls : List ℕ) (files : Option Files) (reply : ReplyValue) : Type 0 where
  pub world : World
  pub found : IsWorldFor files asked world
  pub result : Result Outcome ReadFault
  pub comes : ComesTo asked tools calls files world result
  pub ends : EndsBy (names_of asked) result reply

-- what is answered to words: the lines of usage where they are no request, whatever the files are
abbrev pub AnswersTo : Option RequestValue → ToolsValue → List ℕ → Option Files → ReplyValue → Type 0
AnswersTo None tools calls files reply = reply ≡ record { status = Usage; text = usage_text; writes = [] }
AnswersTo (Some asked) tools calls files reply = AnswersRequest asked tools calls files reply

-- a whole answer was given: its files were written, and its text was added to what was said, where these are told
pub record Answered (asked : Option RequestValue) (tools : ToolsValue) (calls : List ℕ) (files new_files : Option Files) (said new_said : Option (List ℕ)) (status : Status) : Type 0 where
  pub reply : ReplyValue
  pub answers : AnswersTo asked tools calls files reply
  pub ends : status ≡ reply.status
  pub written : Leaves files new_files (AreWritten reply.writes)
  pub says : Says said new_said (Appends reply.text)

-- the writing of an answer was begun, where files are told
pub record IsBegun (asked : Option RequestValue) (tools : ToolsValue) (calls : List ℕ) (files new_files : Option Files) : Type 0 where
  pub reply : ReplyValue
  pub answers : AnswersTo asked tools calls files reply
  pub written : Leaves files new_files (ArePartlyWritten reply.writes)

-- a run that was cut short
abbrev pub IsCut : Status → Type 0
IsCut status = (status ≡ Fault) ⊎ (status ≡ Memory)

-- what it leaves: all files as before, or those of an answer in part
abbrev pub IsLeft : Option RequestValue → ToolsValue → List ℕ → Option Files → Option Files → Type 0
IsLeft asked tools calls files new_files = (new_files ≡ files) ⊎ IsBegun asked tools calls files new_files
