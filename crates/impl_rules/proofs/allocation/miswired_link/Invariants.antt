use Rattle.spec_model.specs.Spec.{bits_of}
use Rattle.impl_rules.specs.Least.{AllBelow}
use Rattle.impl_rules.specs.Allocation.{IsWiredRightly}
use Rattle.impl_rules.proofs.allocation.miswired_link.Given as goal

abbrev pub invariant-loop-l : goal.invariant-loop-l
invariant-loop-l l = AllBelow (IsWiredRightly l.spec (bits_of l.design)) l.l
