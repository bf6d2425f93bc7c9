use Rattle.std.proofs.Common.{◌≡◌, ◌≤◌, ◌+◌, ◌^◌, ℕ, List, max, map}
use Rattle.spec_model.specs.Spec.{bits_of, those}
use Rattle.spec_model.specs.Schedule.{Slot, greatest, free_from, arrival, goes_to}
use Rattle.evaluators.specs.Placed.{ArePlaced, EndsBy}
use Rattle.evaluators.proofs.timetable.start.Given as goal

abbrev pub invariant-loop-m : goal.invariant-loop-m
invariant-loop-m l = record {
  time : (slots : List Slot) → ArePlaced l.spec slots l.table → l.start ≡ max (free_from slots l.r.0)
      (greatest (map (arrival l.spec (bits_of l.design) slots l.r.0) (those (goes_to l.spec l.t.0) l.m)));
  small : (time : ℕ) → EndsBy time l.table → l.start ≤ time + 2 ^ 48;
}
