-- Where a call on the proof file may fail.
use Rattle.std.specs.Prelude.{◌≡◌, ℕ, Result, IsOkAnd, IsErrOf}
use Rattle.desk_io.specs.declared.desk.DeskError.{DeskError}
use Rattle.desk_io.specs.declared.desk.DeskError.TheVariants.{Failed}
use Rattle.line_words.specs.declared.refusals.ReadFault.{ReadFault}
use Rattle.spec_model.specs.Spec.{SpecValue}
use Rattle.result_text.specs.Fronts.{front_of}
use Rattle.result_text.specs.declared.fronts.Front.{Front}
use Rattle.front_model.specs.Fronts.{IsClaim}
use Rattle.run_base.specs.Reading.{ReadsSpec}
use Rattle.run_base.specs.Worlds.{World}
use Rattle.check_run.specs.Fronts.{ReadsFront, front_bytes}

-- no call failed: the count of faults is as it was, and the answer isn't that of a failed call
pub record NoneFailed {T : Type 0} (before now : ℕ) (result : Result T DeskError) : Type 0 where
  pub kept : now ≡ before
  pub unfailed : ¬ IsErrOf result Failed

-- a front was read that may be checked against
abbrev pub IsClaimRead : SpecValue → Result Front ReadFault → Type 0
IsClaimRead s reading = IsOkAnd reading (λ front. IsClaim s (front_of front))

-- the front file reads as a front that may be checked against
pub record HasClaim (world : World) (s : SpecValue) : Type 0 where
  pub reading : Result Front ReadFault
  pub reads : ReadsFront s (front_bytes world.third) reading
  pub claim : IsClaimRead s reading

-- the files read as a specification and as a front that may be checked against for it
pub record MayBeChecked (world : World) : Type 0 where
  pub reading : Result SpecValue ReadFault
  pub reads : ReadsSpec world.tgff world.arch reading
  pub claim : IsOkAnd reading (HasClaim world)
