use Rattle.evo_explore.proofs.Chosen.{chosen_once, others_never, room_for_rising}
use Rattle.evo_explore.proofs.laws.law_of_counts.Goals as goal

pub returns-clause-once : goal.returns-clause-once
returns-clause-once c = chosen_once

pub returns-clause-never : goal.returns-clause-never
returns-clause-never c = others_never

pub returns-clause-room : goal.returns-clause-room
returns-clause-room c = room_for_rising
