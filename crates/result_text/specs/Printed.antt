-- Which texts an implementation text is, and what reading one gives.
use Rattle.std.specs.Prelude.{◌≡◌, ◌<◌, ◌^◌, ℕ, List, length, All, Result, Ok, Err}
use Rattle.line_words.specs.declared.refusals.ReadFault.{ReadFault}
use Rattle.line_words.specs.declared.refusals.ReadFault.TheVariants.{NoMemory}
use Rattle.names.specs.Names.{IsName}
use Rattle.spec_model.specs.Spec.{SpecValue, bits_of, design_variables}
use Rattle.result_text.specs.Spelling.{implementation_text}
use Rattle.result_text.specs.Answers.{EntryValue, as_seen}
use Rattle.result_text.specs.declared.entries.Entry.{Entry}

-- the bytes are the text of a design of the specification and of a vector with a number below 2 ^ 63 for each objective
pub record IsTextOf (s : SpecValue) (bytes : List ℕ) (e : EntryValue) : Type 0 where
  pub bits : length e.design ≡ design_variables s
  pub one_each : length e.vector ≡ length s.objectives
  pub small : All (λ n. n < 2 ^ 63) e.vector
  pub text : bytes ≡ implementation_text s (bits_of e.design) e.vector

-- this entry is answered, unless there is no memory
abbrev pub GivesBack : EntryValue → Result Entry ReadFault → Type 0
GivesBack e (Ok found) = as_seen found ≡ e
GivesBack e (Err fault) = fault ≡ NoMemory

-- each task, message, resource and link is called by one word
pub record HasNames (s : SpecValue) : Type 0 where
  pub tasks : All IsName s.tasks
  pub messages : All IsName s.message_names
  pub resources : All IsName s.resources
  pub links : All IsName s.links
