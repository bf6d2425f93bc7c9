use Rattle.spec_model.specs.Spec.{bits_of}
use Rattle.impl_rules.proofs.Adding.{IsSumBelow}
use Rattle.impl_rules.proofs.vector.vector_at.Given as goal

abbrev pub invariant-loop-v : goal.invariant-loop-v
invariant-loop-v l = IsSumBelow l.spec (bits_of l.design) l.j l.v l.sum
