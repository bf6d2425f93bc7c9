-- What is wanted and what a search ends with, as they are seen.
use Rattle.std.specs.Prelude.{ℕ, List, length, if◌then◌else◌}
use Rattle.result_text.specs.Fronts.{FrontValue}
use Rattle.front_search.specs.declared.ending.SearchEnd.{SearchEnd}
use Rattle.front_search.specs.declared.ending.SearchEnd.TheVariants as ends
use Rattle.run_base.specs.declared.outcome.Ending.{Ending}
use Rattle.run_base.specs.declared.outcome.Ending.TheVariants.{Done, Budget}
use Rattle.front_run.specs.Fronting.{WantedFrontValue, complete_text, open_text}
use Rattle.front_run.specs.declared.fronting.Wanted.{Wanted}

-- what is wanted
abbrev pub wanted_value : Wanted → WantedFrontValue
wanted_value wanted = record { budget = wanted.budget; front = wanted.front_file.now; proof = wanted.proof_file.now }

-- what is said of a front
abbrev pub said_of : FrontValue → List ℕ
said_of front = if front.complete then complete_text (length front.entries) else open_text (length front.entries)

-- how the command ends by the end of a search
abbrev pub ending_of : SearchEnd → Ending
ending_of ends.Complete = Done
ending_of ends.Budget = Budget
