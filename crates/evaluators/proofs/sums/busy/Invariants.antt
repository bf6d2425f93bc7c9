use Rattle.std.proofs.Common.{◌≡◌, ◌≤◌, ◌*◌, ◌^◌}
use Rattle.std.specs.List.{sum_by, filter}
use Rattle.spec_model.specs.Spec.{bits_of, those}
use Rattle.spec_model.specs.Schedule.{option_time, on_resource}
use Rattle.evaluators.proofs.sums.busy.Given as goal

abbrev pub invariant-loop-o : goal.invariant-loop-o
invariant-loop-o l = (l.sum ≤ l.o * 2 ^ 40) × (l.sum ≡ sum_by (option_time l.spec) (filter (bits_of l.design) (those (on_resource l.spec l.r.0) l.o)))
