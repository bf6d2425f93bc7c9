use Rattle.std.proofs.Common.{rules, arith, length, ◌++◌, true, false}
use Rattle.std.proofs.lemmas.Grind.{common_steps}
use Rattle.spec_model.specs.Rules.{goes_into, arcs_into}
use Rattle.encode_model.specs.Encoding.{positives, negatives, arc_vars, steps_from}
use Rattle.route_encode.proofs.Rows.{those_below}
use Rattle.encode_model.proofs.Shapes.{arcs_steps}
use Rattle.route_encode.proofs.Writing.{rising_of, few_of}
use Rattle.route_encode.proofs.families.add_one_arc_in.Goals as goal

pub uses-requires-clause-arcs : goal.uses-requires-clause-arcs
uses-requires-clause-arcs c = those_below (goes_into c.args.index.now c.args.r) (length c.args.index.now.arcs) _ c.arcs_into-arcs.ensures

pub add-requires-clause-rising : goal.add-requires-clause-rising
add-requires-clause-rising c = rising_of _ _ c.args.index.now (positives (arc_vars c.args.index.now c.args.m (arcs_into c.args.index.now c.args.r))
    ++ negatives (steps_from c.args.index.now c.args.m c.args.r 1)) (arcs_steps c.args.index.now c.args.m c.requires.message c.args.r true false c.requires.resource)
    (first_of (search rules, grind (arith, common_steps))) (first_of (search rules, grind (arith, common_steps)))

pub add-requires-clause-few : goal.add-requires-clause-few
add-requires-clause-few c = few_of _ c.args.index.now _ (first_of (search rules, grind (arith, common_steps))) c.spec.ensures c.facts.ensures

pub add-requires-2-clause-rising : goal.add-requires-2-clause-rising
add-requires-2-clause-rising c = rising_of _ _ c.args.index.now (negatives (arc_vars c.args.index.now c.args.m (arcs_into c.args.index.now c.args.r))
    ++ positives (steps_from c.args.index.now c.args.m c.args.r 1)) (arcs_steps c.args.index.now c.args.m c.requires.message c.args.r false true c.requires.resource)
    (first_of (search rules, grind (arith, common_steps))) (first_of (search rules, grind (arith, common_steps)))

pub add-requires-2-clause-few : goal.add-requires-2-clause-few
add-requires-2-clause-few c = few_of _ c.args.index.now _ (first_of (search rules, grind (arith, common_steps))) c.spec.ensures c.facts.ensures
