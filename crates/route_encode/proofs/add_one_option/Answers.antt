use Rattle.std.proofs.Common.{rules, arith, true, false}
use Rattle.std.proofs.lemmas.Grind.{common_steps}
use Rattle.spec_model.specs.Rules.{options_of}
use Rattle.encode_model.specs.Encoding.{positives, negatives}
use Rattle.encode_model.proofs.Shapes.{options}
use Rattle.route_encode.proofs.Writing.{rising_of, few_of}
use Rattle.route_encode.proofs.add_one_option.Goals as goal

pub add-requires-clause-rising : goal.add-requires-clause-rising
add-requires-clause-rising c =
    rising_of _ _ c.args.index.now (positives (options_of c.args.index.now c.args.t)) (options c.args.index.now c.args.t true) (first_of (search rules, grind (arith, common_steps)))
    (first_of (search rules, grind (arith, common_steps)))

pub add-requires-clause-few : goal.add-requires-clause-few
add-requires-clause-few c = few_of _ c.args.index.now _ (first_of (search rules, grind (arith, common_steps))) c.spec.ensures c.facts.ensures

pub add-requires-2-clause-rising : goal.add-requires-2-clause-rising
add-requires-2-clause-rising c =
    rising_of _ _ c.args.index.now (negatives (options_of c.args.index.now c.args.t)) (options c.args.index.now c.args.t false) (first_of (search rules, grind (arith, common_steps)))
    (first_of (search rules, grind (arith, common_steps)))

pub add-requires-2-clause-few : goal.add-requires-2-clause-few
add-requires-2-clause-few c = few_of _ c.args.index.now _ (first_of (search rules, grind (arith, common_steps))) c.spec.ensures c.facts.ensures
