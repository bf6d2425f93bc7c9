use Rattle.std.proofs.Common.{◌≤◌, ◌+◌, ◌^◌, arith}
use Rattle.std.proofs.lemmas.List.Elements.{All-set}
use Rattle.evaluators.specs.Placed.{IsNoLater}
use Rattle.evaluators.proofs.Timing.{later}
use Rattle.evaluators.proofs.timetable.place.Goals as goal

pub overflow_add-finish : goal.overflow_add-finish
overflow_add-finish c = omega (arith, c.start.ensures.small (2 ^ 60) c.requires.room, c.option-option.ensures.small)

pub returns-clause-small : goal.returns-clause-small
returns-clause-small c time by =
    let finish : c.start.result + c.option-option.result.time ≤ time + 2 ^ 49 = omega (arith, c.start.ensures.small time by, c.option-option.ensures.small) in
    record {
      tasks = All-set (IsNoLater (time + 2 ^ 49)) _ _ _ finish (later _ time (time + 2 ^ 49) (omega arith) by.tasks);
      resources = All-set (IsNoLater (time + 2 ^ 49)) _ _ _ finish (later _ time (time + 2 ^ 49) (omega arith) by.resources);
    }
