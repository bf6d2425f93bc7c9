use Rattle.std.proofs.Common.{rules, arith, [], ◌∷◌, true, false}
use Rattle.std.proofs.lemmas.Grind.{common_steps}
use Rattle.spec_model.specs.Spec.{resource_var}
use Rattle.encode_model.specs.Encoding.{positive, negative}
use Rattle.encode_model.proofs.Shapes.{option_allocated}
use Rattle.route_encode.proofs.Writing.{rising_of}
use Rattle.route_encode.proofs.allocation.add_option_allocates.Goals as goal

pub add_two-requires-clause-rising : goal.add_two-requires-clause-rising
add_two-requires-clause-rising c = rising_of _ _ c.args.index.now (negative c.args.o ∷ (positive (resource_var c.args.index.now c.option.result.resource.0) ∷ []))
    (option_allocated c.args.index.now c.args.o c.option.result.resource.0 false true c.requires.option (first_of (search rules, grind (arith, common_steps))))
    (first_of (search rules, grind (arith, common_steps))) (first_of (search rules, grind (arith, common_steps)))
