use Rattle.std.proofs.Common.{◌≡◌, ◌+◌, All, false, length, map, vec_len}
use Rattle.spec_model.specs.Spec.{SpecValue, Bits, design_variables}
use Rattle.evo_explore.specs.Breeding.{HasGenes}
use Rattle.evo_explore.specs.Counts.{RoseBy, picked}
use Rattle.evo_explore.specs.Run.{IsFound}
use Rattle.evo_explore.proofs.run.explore.Given as goal

abbrev pub invariant-loop-round : goal.invariant-loop-round
invariant-loop-round g l = record {
  found : IsFound l.spec g.W.Words.gives g.W.Words.after (λ f. picked (map (λ t. (goal.Evaluator-dyn g (t.vtable, t.value)).value t.value l.spec f) l.fn.tools.items) l.params.chosen.items)
      l.fn.words l.words l.decoder.log l.found.history l.found.archive.members l._round;
  spec_is : l.decoder.spec ≡ l.spec;
  ready : l.decoder.spent ≡ false;
  genes : All (HasGenes (design_variables l.spec)) l.found.archive.members;
  width : l.found.archive.width ≡ length l.spec.objectives + length l.params.chosen.items;
  rose : RoseBy l._round l.params.chosen.items (map (λ t. (goal.Evaluator-dyn g (t.vtable, t.value)).calls t.value) l.fn.tools.items)
      (map (λ t. (goal.Evaluator-dyn g (t.vtable, t.value)).calls t.value) l.tools.items);
  len : vec_len l.tools ≡ vec_len l.fn.tools;
  tags : map (λ t. (goal.Evaluator-dyn g (t.vtable, t.value)).text t.value) l.tools.items ≡ map (λ t. (goal.Evaluator-dyn g (t.vtable, t.value)).text t.value) l.fn.tools.items;
  values : (s : SpecValue) (f : Bits) → map (λ t. (goal.Evaluator-dyn g (t.vtable, t.value)).value t.value s f) l.tools.items
      ≡ map (λ t. (goal.Evaluator-dyn g (t.vtable, t.value)).value t.value s f) l.fn.tools.items;
}
