use Rattle.spec_model.specs.Spec.{bits_of}
use Rattle.impl_rules.specs.Least.{AllBelow}
use Rattle.impl_rules.proofs.Searches.{PassesNot}
use Rattle.impl_rules.proofs.allocation.carries_message.Given as goal

abbrev pub invariant-loop-a : goal.invariant-loop-a
invariant-loop-a l = AllBelow (PassesNot l.spec (bits_of l.design) l.r.0) l.a
