use Rattle.spec_model.specs.Spec.{bits_of}
use Rattle.spec_model.specs.Rules.{BoundOnce}
use Rattle.impl_rules.specs.Least.{AllBelow}
use Rattle.impl_rules.proofs.binding.unbound_task.Given as goal

abbrev pub invariant-loop-t : goal.invariant-loop-t
invariant-loop-t l = AllBelow (BoundOnce l.spec (bits_of l.design)) l.t
