use Rattle.std.proofs.Common.{rules, arith, [], ◌∷◌, true, false}
use Rattle.std.proofs.lemmas.Grind.{common_steps}
use Rattle.spec_model.specs.Spec.{resource_var, covered_var}
use Rattle.encode_model.specs.Encoding.{positive, negative}
use Rattle.encode_model.proofs.Shapes.{cover_allocated}
use Rattle.route_encode.proofs.Writing.{rising_of, few_of}
use Rattle.route_encode.proofs.allocation.add_cover_allocates.Goals as goal

pub add_two-requires-clause-rising : goal.add_two-requires-clause-rising
add_two-requires-clause-rising c = rising_of _ _ c.args.index.now (positive (resource_var c.args.index.now c.args.r) ∷ (negative (covered_var c.args.index.now c.args.m c.args.r) ∷ []))
    (cover_allocated c.args.index.now c.args.m c.requires.message c.args.r true false c.requires.resource) (first_of (search rules, grind (arith, common_steps)))
    (first_of (search rules, grind (arith, common_steps)))

pub add_two-requires-clause-few : goal.add_two-requires-clause-few
add_two-requires-clause-few c = few_of _ c.args.index.now _ (first_of (search rules, grind (arith, common_steps))) c.spec.ensures c.facts.ensures
