use Rattle.std.proofs.Common.{◌*◌, ◌^◌, [], take}
use Rattle.std.specs.List.{fold}
use Rattle.spec_model.specs.Spec.{bits_of}
use Rattle.spec_model.specs.Schedule.{place}
use Rattle.evaluators.specs.Placed.{ArePlaced, IsSized, EndsBy}
use Rattle.evaluators.proofs.timetable.timetable_of.Given as goal

abbrev pub invariant-loop-i : goal.invariant-loop-i
invariant-loop-i l = record {
  placed : ArePlaced l.spec (fold (place l.spec (bits_of l.design)) [] (take l.i l.order.items)) l.table;
  small : EndsBy (l.i * 2 ^ 49) l.table;
  sized : IsSized l.spec l.table;
}
