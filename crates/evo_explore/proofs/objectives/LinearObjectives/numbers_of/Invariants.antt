use Rattle.std.proofs.Common.{◌≡◌, map}
use Rattle.spec_model.specs.Spec.{bits_of, below}
use Rattle.spec_model.specs.Vectors.{vector_at}
use Rattle.evo_explore.proofs.objectives.LinearObjectives.numbers_of.Given as goal

abbrev pub invariant-loop-j : goal.invariant-loop-j
invariant-loop-j l = l.numbers.items ≡ map (vector_at l.spec (bits_of l.design)) (below l.j)
