use Rattle.std.proofs.Common.{rules, arith, length, [], ◌∷◌, ◌++◌}
use Rattle.std.proofs.lemmas.Grind.{common_steps}
use Rattle.spec_model.specs.Spec.{step_var, covered_var}
use Rattle.spec_model.specs.Rules.{leaves, arcs_from}
use Rattle.encode_model.specs.Encoding.{positive, negative, positives, receiver_options, arc_vars}
use Rattle.route_encode.proofs.Rows.{those_below}
use Rattle.encode_model.proofs.Shapes.{end_literals}
use Rattle.route_encode.proofs.Writing.{rising_of, few_of}
use Rattle.route_encode.proofs.families.add_no_dangling.Goals as goal

pub uses-requires-clause-arcs : goal.uses-requires-clause-arcs
uses-requires-clause-arcs c = those_below (leaves c.args.index.now c.args.r) (length c.args.index.now.arcs) _ c.arcs_from.ensures

pub add-requires-clause-rising : goal.add-requires-clause-rising
add-requires-clause-rising c = rising_of _ _ c.args.index.now (positives (receiver_options c.args.index.now c.args.m c.args.r)
    ++ positives (arc_vars c.args.index.now c.args.m (arcs_from c.args.index.now c.args.r)) ++ positive (step_var c.args.index.now c.args.m c.args.r 0)
    ∷ (negative (covered_var c.args.index.now c.args.m c.args.r) ∷ [])) (end_literals c.args.index.now c.args.m c.requires.message c.args.r c.requires.resource)
    (first_of (search rules, grind (arith, common_steps))) (first_of (search rules, grind (arith, common_steps)))

pub add-requires-clause-few : goal.add-requires-clause-few
add-requires-clause-few c = few_of _ c.args.index.now _ (first_of (search rules, grind (arith, common_steps))) c.spec.ensures c.facts.ensures
