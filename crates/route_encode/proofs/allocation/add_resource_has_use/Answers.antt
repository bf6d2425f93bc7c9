use Rattle.std.proofs.Common.{rules, arith, ◌∷◌, ◌++◌, map}
use Rattle.std.proofs.lemmas.Grind.{common_steps}
use Rattle.spec_model.specs.Spec.{resource_var}
use Rattle.encode_model.specs.Encoding.{negative, positives, options_on, cover_of, messages_of}
use Rattle.encode_model.proofs.Shapes.{resource_uses}
use Rattle.route_encode.proofs.Writing.{rising_of, few_of}
use Rattle.route_encode.proofs.allocation.add_resource_has_use.Goals as goal

pub add-requires-clause-rising : goal.add-requires-clause-rising
add-requires-clause-rising c = rising_of _ _ c.args.index.now (positives (options_on c.args.index.now c.args.r) ++ negative (resource_var c.args.index.now c.args.r)
    ∷ positives (map (cover_of c.args.index.now c.args.r) (messages_of c.args.index.now))) (resource_uses c.args.index.now c.args.r c.requires.resource)
    (first_of (search rules, grind (arith, common_steps))) (first_of (search rules, grind (arith, common_steps)))

pub add-requires-clause-few : goal.add-requires-clause-few
add-requires-clause-few c = few_of _ c.args.index.now _ (first_of (search rules, grind (arith, common_steps))) c.spec.ensures c.facts.ensures
