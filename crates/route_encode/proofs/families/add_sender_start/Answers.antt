use Rattle.std.proofs.Common.{rules, arith, [], ◌∷◌, ◌++◌, true, false}
use Rattle.std.proofs.lemmas.Grind.{common_steps}
use Rattle.spec_model.specs.Spec.{step_var}
use Rattle.spec_model.specs.Rules.{sender_of}
use Rattle.encode_model.specs.Encoding.{positive, negative, positives, negatives, option_on}
use Rattle.encode_model.proofs.Shapes.{start}
use Rattle.route_encode.proofs.Writing.{rising_of}
use Rattle.route_encode.proofs.families.add_sender_start.Goals as goal

pub add-requires-clause-rising : goal.add-requires-clause-rising
add-requires-clause-rising c = rising_of _ _ c.args.index.now (negatives (option_on c.args.index.now (sender_of c.args.index.now c.args.m) c.args.r)
    ++ positive (step_var c.args.index.now c.args.m c.args.r 0) ∷ []) (start c.args.index.now c.args.m c.requires.message c.args.r false true c.requires.resource)
    (first_of (search rules, grind (arith, common_steps))) (first_of (search rules, grind (arith, common_steps)))

pub add-requires-2-clause-rising : goal.add-requires-2-clause-rising
add-requires-2-clause-rising c = rising_of _ _ c.args.index.now (positives (option_on c.args.index.now (sender_of c.args.index.now c.args.m) c.args.r)
    ++ negative (step_var c.args.index.now c.args.m c.args.r 0) ∷ []) (start c.args.index.now c.args.m c.requires.message c.args.r true false c.requires.resource)
    (first_of (search rules, grind (arith, common_steps))) (first_of (search rules, grind (arith, common_steps)))
