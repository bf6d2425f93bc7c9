use Rattle.spec_model.specs.Spec.{bits_of}
use Rattle.impl_rules.specs.Least.{AllBelow}
use Rattle.impl_rules.specs.Allocation.{IsUsedRightly}
use Rattle.impl_rules.proofs.allocation.misused_resource.Given as goal

abbrev pub invariant-loop-r : goal.invariant-loop-r
invariant-loop-r l = AllBelow (IsUsedRightly l.spec (bits_of l.design)) l.r
