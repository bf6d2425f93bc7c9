-- What a refused rule says of its result.
use Rattle.std.specs.Prelude.{Err, ◌≡◌}
use Rattle.pb_rules.specs.Linear.{Linear}
use Rattle.pb_rules.specs.Operations.{too_large, fits}
use Rattle.cutting_planes.specs.declared.RuleFault.{RuleFault}
use Rattle.cutting_planes.specs.declared.RuleFault.TheVariants.{TooLarge, NoMemory}

-- the number of a refusal is that of the fault that the result has in a proof; want of memory is free
abbrev pub IsRefusal : Linear → RuleFault → Type 0
IsRefusal c (TooLarge n) = fits c ≡ Err (too_large n)
IsRefusal c NoMemory = Unit {0}
