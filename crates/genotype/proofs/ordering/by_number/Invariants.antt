use Rattle.std.proofs.Common.{◌≡◌, map}
use Rattle.spec_model.specs.Spec.{below}
use Rattle.genotype.specs.Placing.{literal_at}
use Rattle.genotype.proofs.ordering.by_number.Given as goal

abbrev pub invariant-loop-v : goal.invariant-loop-v
invariant-loop-v l = l.literals.items ≡ map (literal_at l.genes) (below l.v)
