-- What a reader of a front text answers.
use Rattle.std.specs.Prelude.{◌≡◌, ℕ, map, Some, None, Result, Ok, Err}
use Rattle.line_words.specs.Refused.{fault_at}
use Rattle.line_words.specs.Rules.{first_broken}
use Rattle.line_words.specs.declared.refusals.FileTag.TheVariants as files
use Rattle.line_words.specs.declared.refusals.ReadFault.{ReadFault}
use Rattle.line_words.specs.declared.refusals.ReadFault.TheVariants.{NoMemory}
use Rattle.line_words.specs.declared.refusals.Stop.TheVariants as stops
use Rattle.line_words.specs.declared.refusals.Why.{Why}
use Rattle.result_text.specs.Answers.{as_seen, state_of}
use Rattle.result_text.specs.Fronts.{FrontValue, front_of}
use Rattle.result_text.specs.FrontLines.{FrontStated, end_tests_in}
use Rattle.result_text.specs.declared.fronts.Front.{Front}
use Rattle.result_text.specs.declared.front_lines.FrontSeen.{FrontSeen}

-- what a reader has seen, as it is seen
abbrev pub front_state : FrontSeen → FrontStated
front_state seen = record { place = seen.place; entries = map as_seen seen.entries.items; current = state_of seen.current; complete = seen.complete }

-- this front is answered, unless there is no memory
abbrev pub GivesFront : FrontValue → Result Front ReadFault → Type 0
GivesFront front (Ok found) = front_of found ≡ front
GivesFront front (Err fault) = fault ≡ NoMemory

-- what is answered at the end of a text
abbrev pub IsFrontAtEnd : FrontStated → ℕ → Result Front ReadFault → Type 0
IsFrontAtEnd stated end_line (Ok front) = (first_broken (end_tests_in stated.place) ≡ None) × (front_of front ≡ record { entries = stated.entries; complete = stated.complete })
IsFrontAtEnd stated end_line (Err fault) = (why : Why) × (first_broken (end_tests_in stated.place) ≡ Some why) × (fault ≡ fault_at files.Front end_line (stops.Broken why))
