-- What the bytes of a front file read as for a specification.
use Rattle.std.specs.Prelude.{◌≡◌, ℕ, ◌≤◌, ◌⊎◌, List, [], length, Option, unwrap_or, Result, Ok, Err}
use Rattle.line_words.specs.Rules.{IsLeast}
use Rattle.line_words.specs.declared.refusals.FileTag.TheVariants as files
use Rattle.line_words.specs.declared.refusals.Refusal.{Refusal}
use Rattle.line_words.specs.declared.refusals.ReadFault.{ReadFault}
use Rattle.line_words.specs.declared.refusals.ReadFault.TheVariants as faults
use Rattle.spec_model.specs.Spec.{SpecValue}
use Rattle.spelled_lines.specs.Lines.{pieces}
use Rattle.result_text.specs.Fronts.{FrontValue, IsFrontText, front_of}
use Rattle.result_text.specs.FrontLines.{front_rules}
use Rattle.result_text.specs.declared.fronts.Front.{Front}
use Rattle.run_base.specs.After.{After}
use Rattle.line_words.specs.Limits.{most_file_bytes}
use Rattle.run_base.specs.Reading.{IsTooLong}
use Rattle.run_base.specs.Worlds.{World}

-- the bytes are the text of this front, and of no other
pub record IsReadable (s : SpecValue) (bytes : List ℕ) (front : FrontValue) : Type 0 where
  pub short : length bytes ≤ most_file_bytes
  pub text : IsFrontText s bytes front
  pub only : (other : FrontValue) → IsFrontText s bytes other → other ≡ front

-- the bytes are the text of no front: the first refusal is at the lowest line and for the lowest rule there
pub record IsUnreadable (s : SpecValue) (bytes : List ℕ) (r : Refusal) : Type 0 where
  pub short : length bytes ≤ most_file_bytes
  pub file_is : r.file ≡ files.Front
  pub least : IsLeast (front_rules s) (pieces bytes) r.line r.why
  pub no_text : (front : FrontValue) → ¬ IsFrontText s bytes front

-- what the bytes of a front file read as; memory may run out
abbrev pub ReadsFront : SpecValue → List ℕ → Result Front ReadFault → Type 0
ReadsFront s bytes (Ok front) = IsReadable s bytes (front_of front)
ReadsFront s bytes (Err (faults.Refused r)) = IsTooLong files.Front bytes r ⊎ IsUnreadable s bytes r
ReadsFront s bytes (Err faults.NoMemory) = Unit {0}

-- the bytes of the front file; none where it isn't named, as no request of `check` has it
abbrev pub front_bytes : Option (List ℕ) → List ℕ
front_bytes named = unwrap_or named []

-- the refusals of the front file come first, and then what follows of the front
abbrev pub AfterFront : {Y : Type 0} → World → SpecValue → (Front → Result Y ReadFault → Type 0) → Result Y ReadFault → Type 0
AfterFront world s Rest result = After (ReadsFront s (front_bytes world.third)) Rest result
