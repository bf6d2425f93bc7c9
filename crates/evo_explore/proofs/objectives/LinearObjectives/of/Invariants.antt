use Rattle.std.proofs.Common.{◌≡◌, map}
use Rattle.spec_model.specs.Spec.{below}
use Rattle.evo_explore.specs.Objectives.{laid_out}
use Rattle.evo_explore.proofs.objectives.LinearObjectives.of.Given as goal

abbrev pub invariant-loop-j : goal.invariant-loop-j
invariant-loop-j l = l.weights.items ≡ map (laid_out l.spec) (below l.j)
