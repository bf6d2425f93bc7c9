use Rattle.spec_model.specs.Spec.{bits_of}
use Rattle.impl_rules.specs.Least.{AllBelow}
use Rattle.impl_rules.proofs.Searches.{ChosenNot}
use Rattle.impl_rules.proofs.allocation.holds_task.Given as goal

abbrev pub invariant-loop-o : goal.invariant-loop-o
invariant-loop-o l = AllBelow (ChosenNot l.spec (bits_of l.design) l.r.0) l.o
