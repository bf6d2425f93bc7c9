use Rattle.std.proofs.Common.{◌≡◌}
use Rattle.std.specs.List.{count_by}
use Rattle.spec_model.specs.Spec.{bits_of, those}
use Rattle.spec_model.specs.Rules.{of_task}
use Rattle.impl_rules.proofs.binding.resource_of.Given as goal

abbrev pub invariant-loop-o : goal.invariant-loop-o
invariant-loop-o l = count_by (bits_of l.design) (those (of_task l.spec l.t.0) l.o) ≡ 0
