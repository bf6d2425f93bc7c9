-- What a reader of an implementation text answers.
use Rattle.std.specs.Prelude.{◌≡◌, ℕ, List, [], Bool, Option, Some, None, Result, Ok, Err}
use Rattle.line_words.specs.Refused.{fault_at}
use Rattle.line_words.specs.Rules.{Statement}
use Rattle.line_words.specs.declared.refusals.FileTag.TheVariants.{Front}
use Rattle.line_words.specs.declared.refusals.ReadFault.{ReadFault}
use Rattle.line_words.specs.declared.refusals.Stop.TheVariants.{Broken}
use Rattle.line_words.specs.declared.refusals.Why.TheVariants.{Unclosed}
use Rattle.spec_model.specs.Spec.{SpecValue}
use Rattle.result_text.specs.Statements.{Stated, nothing, with_lines}
use Rattle.result_text.specs.declared.entries.Entry.{Entry}
use Rattle.result_text.specs.declared.reading.Seen.{Seen}

-- a design and a vector
pub record EntryValue : Type 0 where
  pub design : List Bool
  pub vector : List ℕ

-- an entry as it is seen
abbrev pub as_seen : Entry → EntryValue
as_seen e = record { design = e.design; vector = e.vector }

-- the numbers of a vector that was read or not
abbrev pub numbers_or_none : Option (List ℕ) → List ℕ
numbers_or_none None = []
numbers_or_none (Some numbers) = numbers

-- the entry that a design and its vector make
abbrev pub entry_in : Stated → EntryValue
entry_in stated = record { design = stated.design; vector = numbers_or_none stated.vector }

-- the entry that all lines of a text state
abbrev pub entry_of : SpecValue → List Statement → EntryValue
entry_of s lines = entry_in (with_lines s (nothing s) lines)

-- what a reader has seen, as it is seen
abbrev pub state_of : Seen → Stated
state_of seen = record { design = seen.design; least = seen.least; vector = seen.vector }

-- what is answered at the end of a text
abbrev pub IsEntryOf : Stated → ℕ → Result Entry ReadFault → Type 0
IsEntryOf stated end_line (Ok e) = (stated.vector ≡ Some e.vector) × (e.design ≡ stated.design)
IsEntryOf stated end_line (Err fault) = (stated.vector ≡ None) × (fault ≡ fault_at Front end_line (Broken Unclosed))
