-- What a reader answers to a file that isn't too long.
use Rattle.std.proofs.Common.{◌≡◌, ◌≤◌, ◌∙◌, ℕ, List, length, Result, Ok, Err, inr, sym}
use Rattle.line_words.specs.Text.{lines}
use Rattle.line_words.specs.Rules.{Rules, Statement}
use Rattle.line_words.specs.Reads.{Reads}
use Rattle.line_words.specs.declared.refusals.FileTag.{FileTag}
use Rattle.line_words.specs.declared.refusals.ReadFault.{ReadFault}
use Rattle.line_words.specs.declared.refusals.ReadFault.TheVariants as faults
use Rattle.line_words.specs.Limits.{most_file_bytes}
use Rattle.run_base.specs.Reading.{ReadsFile}

pub read_as : {X : Type 0} (file : FileTag) (rules : Rules) (view : X → X) (value : List Statement → X) (bytes : List ℕ) (reading : Result X ReadFault) → ((x : X) → view x ≡ x)
    → length bytes ≤ most_file_bytes → Reads {X = X} {E = X} file rules view value (lines bytes) reading → ReadsFile file rules value bytes reading
read_as file rules view value bytes (Ok x) same short h = record { file = record { short = short; unbroken = h.0 }; value_is = sym (same x) ∙ h.1 }
read_as file rules view value bytes (Err (faults.Refused r)) same short h = inr (record { short = short; file_is = h.0; least = h.1 })
read_as file rules view value bytes (Err faults.NoMemory) same short h = tt
