-- What `check` comes to.
use Rattle.std.specs.Prelude.{◌≡◌, ℕ, List, Option, Some, None, Result}
use Rattle.desk_io.specs.Files.{Files, content}
use Rattle.line_words.specs.declared.refusals.ReadFault.{ReadFault}
use Rattle.spec_model.specs.Spec.{SpecValue}
use Rattle.result_text.specs.Fronts.{front_of}
use Rattle.result_text.specs.declared.fronts.Front.{Front}
use Rattle.run_base.specs.After.{Makes}
use Rattle.run_base.specs.Worlds.{World, AfterSpec}
use Rattle.run_base.specs.declared.outcome.Outcome.{Outcome}
use Rattle.check_run.specs.Fronts.{AfterFront}
use Rattle.check_run.specs.Judging.{Judges}

-- what a front comes to with the bytes of the proof file; memory may run out
abbrev pub ChecksFront : SpecValue → List ℕ → Front → Result Outcome ReadFault → Type 0
ChecksFront s proof front result = Makes (Judges s (front_of front) proof) result

-- what a specification comes to
abbrev pub ChecksSpec : World → List ℕ → SpecValue → Result Outcome ReadFault → Type 0
ChecksSpec world proof s result = AfterFront world s (ChecksFront s proof) result

-- what the files come to, with the bytes of the proof file
abbrev pub Checks : World → List ℕ → Result Outcome ReadFault → Type 0
Checks world proof result = AfterSpec world (ChecksSpec world proof) result

-- the bytes are those of a named file, where the files are told
abbrev pub IsContentOf : Option Files → List ℕ → List ℕ → Type 0
IsContentOf None name bytes = Unit {0}
IsContentOf (Some all) name bytes = bytes ≡ content all name

-- P holds of the bytes of a named file, which need not have been read to their end
pub record OfContent (files : Option Files) (name : List ℕ) (P : List ℕ → Type 0) : Type 0 where
  pub bytes : List ℕ
  pub found : IsContentOf files name bytes
  pub holds : P bytes

-- what the files come to, with the proof file of a name
abbrev pub ChecksFile : Option Files → List ℕ → World → Result Outcome ReadFault → Type 0
ChecksFile files name world result = OfContent files name (λ proof. Checks world proof result)
