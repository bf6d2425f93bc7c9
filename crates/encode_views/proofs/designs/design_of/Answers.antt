use Rattle.std.proofs.Common.{◌≡◌, ◌+◌, ◌<◌, List, [], ◌∷◌, ◌++◌, length, take, get_or, sym, ap, ◌∙◌, arith}
use Rattle.std.specs.Prelude.{Bool, false}
use Rattle.std.proofs.lemmas.List.{length-set, take_more, take_more_set}
use Rattle.spec_model.specs.Spec.{design_variables}
use Rattle.spec_model.proofs.Numbers.{design_variables-le}
use Rattle.encode_views.proofs.Parts.{valid_part}
use Rattle.encode_views.proofs.designs.design_of.Goals as goal

pub bounds-model-v : goal.bounds-model-v
bounds-model-v c = omega (arith, design_variables-le c.args.spec.now, c.requires.variables)

pub loop-v-preserved : goal.loop-v-preserved
loop-v-preserved c =
    let d = c.loop-v.design in
    let model = c.args.model.now in
    let v = c.loop-v.v in
    let below_design : v < length d = omega (arith, c.loop-v.invariant.bits) in
    let below_model : v < length model = omega (arith, design_variables-le c.args.spec.now, c.requires.variables) in
    record {
      bits = ap length c.set.ensures ∙ (length-set d v (get_or model v false) ∙ c.loop-v.invariant.bits);
      same =
          ap (take (v + 1)) c.set.ensures ∙ (take_more_set d v (get_or model v false) below_design ∙ (ap (λ (xs : List Bool). xs ++ get_or model v false ∷ []) c.loop-v.invariant.same
          ∙ sym (take_more model v false below_model)));
    }

pub returns-clause-valid : goal.returns-clause-valid
returns-clause-valid c =
    let e : c.loop-v.v ≡ design_variables c.args.spec.now = omega arith in
    valid_part c.args.spec.now c.args.model.now c.loop-v.design c.loop-v.v c.facts.ensures c.requires.model e c.loop-v.invariant.same
