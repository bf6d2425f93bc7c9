use Rattle.std.proofs.Common.{rules, arith, [], ◌∷◌, true, false}
use Rattle.std.proofs.lemmas.Grind.{common_steps}
use Rattle.spec_model.specs.Spec.{covered_var}
use Rattle.encode_model.specs.Encoding.{positive, negative}
use Rattle.encode_model.proofs.Shapes.{option_cover}
use Rattle.route_encode.proofs.Writing.{rising_of}
use Rattle.route_encode.proofs.families.add_option_cover.Goals as goal

pub add_two-requires-clause-rising : goal.add_two-requires-clause-rising
add_two-requires-clause-rising c = rising_of _ _ c.args.index.now (negative c.args.o ∷ (positive (covered_var c.args.index.now c.args.m c.option.result.resource.0) ∷ []))
    (option_cover c.args.index.now c.args.m c.requires.message c.args.o c.option.result.resource.0 false true c.requires.option (first_of (search rules, grind (arith, common_steps))))
    (first_of (search rules, grind (arith, common_steps))) (first_of (search rules, grind (arith, common_steps)))
