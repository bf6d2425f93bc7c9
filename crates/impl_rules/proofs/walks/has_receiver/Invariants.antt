use Rattle.spec_model.specs.Spec.{bits_of}
use Rattle.impl_rules.specs.Least.{AllBelow}
use Rattle.impl_rules.proofs.Searches.{ReceivesNot}
use Rattle.impl_rules.proofs.walks.has_receiver.Given as goal

abbrev pub invariant-loop-o : goal.invariant-loop-o
invariant-loop-o l = AllBelow (ReceivesNot l.spec (bits_of l.design) l.m.0 l.r.0) l.o
