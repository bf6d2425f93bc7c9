-- What is wanted, as it is seen.
use Rattle.make_run.specs.Making.{WantedValue}
use Rattle.make_run.specs.declared.making.Wanted.{Wanted}

-- what is wanted
abbrev pub wanted_value : Wanted → WantedValue
wanted_value wanted = record { number = wanted.number; arch = wanted.arch.now; rounds = wanted.rounds }
