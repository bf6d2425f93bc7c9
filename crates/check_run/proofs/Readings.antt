-- What a reader of fronts answers to a file that isn't too long.
use Rattle.std.proofs.Common.{◌≡◌, ◌≤◌, ℕ, List, length, Result, Ok, Err, IfOk, inr, sym}
use Rattle.line_words.specs.Limits.{most_file_bytes}
use Rattle.line_words.specs.Reads.{Reads}
use Rattle.line_words.specs.declared.refusals.FileTag.TheVariants as files
use Rattle.line_words.specs.declared.refusals.ReadFault.{ReadFault}
use Rattle.line_words.specs.declared.refusals.ReadFault.TheVariants as faults
use Rattle.spec_model.specs.Spec.{SpecValue}
use Rattle.spelled_lines.specs.Lines.{pieces}
use Rattle.result_text.specs.Fronts.{FrontValue, IsFrontText, front_of}
use Rattle.result_text.specs.FrontLines.{front_rules, front_in}
use Rattle.result_text.specs.FrontAnswers.{GivesFront}
use Rattle.result_text.specs.declared.fronts.Front.{Front}
use Rattle.check_run.specs.Fronts.{ReadsFront}

pub front_read : (s : SpecValue) (bytes : List ℕ) (found : Result Front ReadFault) → length bytes ≤ most_file_bytes → Reads files.Front (front_rules s) front_of (front_in s) (pieces bytes) found
    → IfOk found (λ front. IsFrontText s bytes (front_of front)) → ((front : FrontValue) → IsFrontText s bytes front → GivesFront front found) → ReadsFront s bytes found
front_read s bytes (Ok front) short reads printed back = record { short = short; text = printed; only = λ other t. sym (back other t) }
front_read s bytes (Err (faults.Refused r)) short reads printed back =
    inr (record { short = short; file_is = reads.0; least = reads.1; no_text = λ front t. (let c : faults.Refused r ≡ faults.NoMemory = back front t in cc) })
front_read s bytes (Err faults.NoMemory) short reads printed back = tt
