-- What is wanted and how a run ends, as they are seen.
use Rattle.std.specs.Prelude.{option_map}
use Rattle.evo_explore.specs.declared.run.End.{End}
use Rattle.evo_explore.specs.declared.run.End.TheVariants as ends
use Rattle.run_base.specs.declared.outcome.Ending.{Ending}
use Rattle.run_base.specs.declared.outcome.Ending.TheVariants.{Done, No}
use Rattle.explore_run.specs.Exploring.{ExplorationValue}
use Rattle.explore_run.specs.declared.exploring.Wanted.{Wanted}

-- what is wanted
abbrev pub wanted_value : Wanted → ExplorationValue
wanted_value wanted = record { rounds = wanted.rounds; seed = wanted.seed; chosen = wanted.chosen.now; proof = option_map (λ s. s.now) wanted.proof_file }

-- how the command ends by the end of a run
abbrev pub ending_of : End → Ending
ending_of ends.Done = Done
ending_of ends.Infeasible = No
