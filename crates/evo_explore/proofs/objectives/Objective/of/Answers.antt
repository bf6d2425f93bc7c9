use Rattle.std.proofs.Common.{ℕ, List, [], ◌∷◌, ◌++◌, ap₂, sym, ◌∙◌, arith}
use Rattle.spec_model.specs.Vectors.{weight}
use Rattle.spec_model.proofs.Those.{map-below_more}
use Rattle.evo_explore.proofs.Weighing.{sum_more}
use Rattle.evo_explore.proofs.objectives.Objective.of.Goals as goal

pub loop-v-preserved : goal.loop-v-preserved
loop-v-preserved c = record {
  laid_out =
      c.in_ok-push.ensures.items ∙ ap₂ (λ (ws : List ℕ) (w : ℕ). ws ++ w ∷ []) c.loop-v.invariant.laid_out c.weight.ensures.weight
      ∙ sym (map-below_more (weight c.args.spec.now c.args.j) c.loop-v.v);
  small = sum_more c.loop-v.weights.items c.push.new.self.items c.weight.result c.loop-v.v c.loop-v.invariant.small c.weight.ensures.small c.in_ok-push.ensures.items;
}

pub invariant_of-result : goal.invariant_of-result
invariant_of-result c = omega (arith, c.loop-v.invariant.small, c.design_variables-v-end.ensures.few)
