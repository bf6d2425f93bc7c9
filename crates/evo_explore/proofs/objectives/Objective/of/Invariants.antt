use Rattle.std.proofs.Common.{◌≡◌, ◌≤◌, ◌*◌, ◌^◌, map, sum}
use Rattle.spec_model.specs.Spec.{below}
use Rattle.spec_model.specs.Vectors.{weight}
use Rattle.evo_explore.proofs.objectives.Objective.of.Given as goal

abbrev pub invariant-loop-v : goal.invariant-loop-v
invariant-loop-v l = record {
  laid_out : l.weights.items ≡ map (weight l.spec l.j) (below l.v);
  small : sum l.weights.items ≤ l.v * 2 ^ 40;
}
