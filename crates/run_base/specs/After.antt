-- What a reading makes, or its refusal: the one place that says which refusal comes first.
use Rattle.std.specs.Prelude.{◌≡◌, Result, Ok, Err}
use Rattle.line_words.specs.declared.refusals.ReadFault.{ReadFault}
use Rattle.line_words.specs.declared.refusals.ReadFault.TheVariants as faults

-- a reading that isn't refused is followed by the rest, and one that is refused by nothing else
abbrev pub GoesOn : {X Y : Type 0} → Result X ReadFault → (X → Result Y ReadFault → Type 0) → Result Y ReadFault → Type 0
GoesOn (Ok x) Rest result = Rest x result
GoesOn (Err fault) Rest result = result ≡ Err fault

-- first what is read, and then the rest: each refusal of the reading comes before all of the rest
pub record After {X Y : Type 0} (Reads : Result X ReadFault → Type 0) (Rest : X → Result Y ReadFault → Type 0) (result : Result Y ReadFault) : Type 0 where
  pub reading : Result X ReadFault
  pub reads : Reads reading
  pub rest : GoesOn reading Rest result

-- what isn't refused; memory may run out
abbrev pub Makes : {Y : Type 0} → (Y → Type 0) → Result Y ReadFault → Type 0
Makes P (Ok y) = P y
Makes P (Err (faults.Refused r)) = ⊥
Makes P (Err faults.NoMemory) = Unit {0}
