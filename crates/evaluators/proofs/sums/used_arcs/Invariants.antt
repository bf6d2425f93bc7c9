use Rattle.std.proofs.Common.{◌≡◌, ◌≤◌}
use Rattle.std.specs.List.{count_by}
use Rattle.spec_model.specs.Spec.{bits_of, below}
use Rattle.spec_model.specs.Rules.{arc_bit}
use Rattle.evaluators.proofs.sums.used_arcs.Given as goal

abbrev pub invariant-loop-a : goal.invariant-loop-a
invariant-loop-a l = (l.used ≤ l.a) × (l.used ≡ count_by (arc_bit l.spec (bits_of l.design) l.m.0) (below l.a))
