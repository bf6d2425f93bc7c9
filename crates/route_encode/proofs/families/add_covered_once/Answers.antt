use Rattle.std.proofs.Common.{rules, arith, [], ◌∷◌, ◌++◌, true, false}
use Rattle.std.proofs.lemmas.Grind.{common_steps}
use Rattle.spec_model.specs.Spec.{covered_var}
use Rattle.encode_model.specs.Encoding.{positive, negative, positives, negatives, steps_from}
use Rattle.encode_model.proofs.Shapes.{steps_cover}
use Rattle.route_encode.proofs.Writing.{rising_of, few_of}
use Rattle.route_encode.proofs.families.add_covered_once.Goals as goal

pub add-requires-clause-rising : goal.add-requires-clause-rising
add-requires-clause-rising c = rising_of _ _ c.args.index.now (negatives (steps_from c.args.index.now c.args.m c.args.r 0) ++ positive (covered_var c.args.index.now c.args.m c.args.r) ∷ [])
    (steps_cover c.args.index.now c.args.m c.requires.message c.args.r false true c.requires.resource) (first_of (search rules, grind (arith, common_steps)))
    (first_of (search rules, grind (arith, common_steps)))

pub add-requires-clause-few : goal.add-requires-clause-few
add-requires-clause-few c = few_of _ c.args.index.now _ (first_of (search rules, grind (arith, common_steps))) c.spec.ensures c.facts.ensures

pub add-requires-2-clause-rising : goal.add-requires-2-clause-rising
add-requires-2-clause-rising c = rising_of _ _ c.args.index.now (positives (steps_from c.args.index.now c.args.m c.args.r 0) ++ negative (covered_var c.args.index.now c.args.m c.args.r) ∷ [])
    (steps_cover c.args.index.now c.args.m c.requires.message c.args.r true false c.requires.resource) (first_of (search rules, grind (arith, common_steps)))
    (first_of (search rules, grind (arith, common_steps)))

pub add-requires-2-clause-few : goal.add-requires-2-clause-few
add-requires-2-clause-few c = few_of _ c.args.index.now _ (first_of (search rules, grind (arith, common_steps))) c.spec.ensures c.facts.ensures
