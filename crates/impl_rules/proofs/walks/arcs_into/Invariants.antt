use Rattle.std.proofs.Common.{◌≡◌, ◌≤◌}
use Rattle.std.specs.List.{count_by}
use Rattle.spec_model.specs.Spec.{bits_of, those}
use Rattle.spec_model.specs.Rules.{arc_bit, goes_into}
use Rattle.impl_rules.proofs.walks.arcs_into.Given as goal

abbrev pub invariant-loop-a : goal.invariant-loop-a
invariant-loop-a l = (l.used ≤ l.a) × (l.used ≡ count_by (arc_bit l.spec (bits_of l.design) l.m.0) (those (goes_into l.spec l.r.0) l.a))
