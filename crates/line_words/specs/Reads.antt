-- What a reader answers.
use Rattle.std.specs.Prelude.{◌≡◌, ℕ, List, Option, Some, Result, Ok, Err}
use Rattle.line_words.specs.Rules.{Rules, Statement, statements, IsLeast, HasNoFault}
use Rattle.line_words.specs.Run.{Reading}
use Rattle.line_words.specs.declared.refusals.Why.{Why}
use Rattle.line_words.specs.declared.refusals.FileTag.{FileTag}
use Rattle.line_words.specs.declared.refusals.Stop.{Stop}
use Rattle.line_words.specs.declared.refusals.Stop.TheVariants as stops
use Rattle.line_words.specs.declared.refusals.ReadFault.{ReadFault}
use Rattle.line_words.specs.declared.refusals.ReadFault.TheVariants as faults

-- A file that is read breaks no rule, and its value is what its statements say. One that is refused is refused
-- at the lowest line and for the lowest rule broken there. Memory may run out.
abbrev pub Reads : {X E : Type 0} → FileTag → Rules → (X → E) → (List Statement → E) → List (List ℕ) → Result X ReadFault → Type 0
Reads file rules view value lines (Ok x) = HasNoFault rules lines × (view x ≡ value (statements rules lines))
Reads file rules view value lines (Err (faults.Refused r)) = (r.file ≡ file) × IsLeast rules lines r.line r.why
Reads file rules view value lines (Err faults.NoMemory) = Unit {0}

-- the same of what reading from left to right gives, for a reader's inner functions
abbrev pub Agrees : {X E : Type 0} → FileTag → (X → E) → (List Statement → E) → Reading → Result X ReadFault → Type 0
Agrees file view value reading (Ok x) = (st : List Statement) × (reading ≡ Ok st) × (view x ≡ value st)
Agrees file view value reading (Err (faults.Refused r)) = (r.file ≡ file) × (reading ≡ Err (record { line = r.line; why = r.why }))
Agrees file view value reading (Err faults.NoMemory) = Unit {0}

-- a statement is refused for the first rule that it breaks, or there is no memory
abbrev pub Stops : Stop → Option Why → Type 0
Stops (stops.Broken why) broken = broken ≡ Some why
Stops stops.NoMemory broken = Unit {0}
