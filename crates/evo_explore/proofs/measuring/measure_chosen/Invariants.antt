use Rattle.std.proofs.Common.{◌≡◌, vec_len, map, take}
use Rattle.evo_explore.specs.Counts.{RoseBy, picked}
use Rattle.spec_model.specs.Spec.{SpecValue, Bits, bits_of}
use Rattle.evo_explore.proofs.measuring.measure_chosen.Given as goal

abbrev pub invariant-loop-place : goal.invariant-loop-place
invariant-loop-place g l = record {
  rose : RoseBy 1 (take l.place-index l.chosen) (map (λ t. (goal.Evaluator-dyn g (t.vtable, t.value)).calls t.value) l.fn.tools.items)
      (map (λ t. (goal.Evaluator-dyn g (t.vtable, t.value)).calls t.value) l.tools.items);
  len : vec_len l.tools ≡ vec_len l.fn.tools;
  tags : map (λ t. (goal.Evaluator-dyn g (t.vtable, t.value)).text t.value) l.tools.items ≡ map (λ t. (goal.Evaluator-dyn g (t.vtable, t.value)).text t.value) l.fn.tools.items;
  values : (s : SpecValue) (f : Bits) → map (λ t. (goal.Evaluator-dyn g (t.vtable, t.value)).value t.value s f) l.tools.items
      ≡ map (λ t. (goal.Evaluator-dyn g (t.vtable, t.value)).value t.value s f) l.fn.tools.items;
  measured : l.measured.items ≡ picked (map (λ t. (goal.Evaluator-dyn g (t.vtable, t.value)).value t.value l.spec (bits_of l.design)) l.fn.tools.items) (take l.place-index l.chosen);
}
