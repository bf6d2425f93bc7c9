use Rattle.spec_model.specs.Spec.{bits_of}
use Rattle.impl_rules.specs.Least.{AllBelow}
use Rattle.impl_rules.proofs.Searches.{UsesNot}
use Rattle.impl_rules.proofs.allocation.is_carried.Given as goal

abbrev pub invariant-loop-m : goal.invariant-loop-m
invariant-loop-m l = AllBelow (UsesNot l.spec (bits_of l.design) l.a.0) l.m
