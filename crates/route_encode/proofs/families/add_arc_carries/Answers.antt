use Rattle.std.proofs.Common.{rules, arith, [], ◌∷◌, true, false}
use Rattle.std.proofs.lemmas.Grind.{common_steps}
use Rattle.spec_model.specs.Spec.{message_at, arc_var, step_var, covered_var}
use Rattle.encode_model.specs.Encoding.{positive, negative}
use Rattle.encode_model.proofs.Shapes.{arc_cover, arc_step}
use Rattle.route_encode.proofs.Writing.{rising_of}
use Rattle.route_encode.proofs.families.add_arc_carries.Goals as goal

pub add_two-requires-clause-rising : goal.add_two-requires-clause-rising
add_two-requires-clause-rising c = rising_of _ _ c.args.index.now (negative (arc_var c.args.index.now c.args.m c.args.a)
    ∷ (positive (covered_var c.args.index.now c.args.m c.arc-tail.result.tail.0) ∷ [])) (arc_cover c.args.index.now c.args.m c.requires.message c.args.a c.arc-tail.result.tail.0 false true
    c.requires.arc (first_of (search rules, grind (arith, common_steps)))) (first_of (search rules, grind (arith, common_steps))) (first_of (search rules, grind (arith, common_steps)))

pub add_two-requires-2-clause-rising : goal.add_two-requires-2-clause-rising
add_two-requires-2-clause-rising c = rising_of _ _ c.args.index.now (negative (arc_var c.args.index.now c.args.m c.args.a)
    ∷ (negative (step_var c.args.index.now c.args.m c.arc-tail.result.tail.0 (message_at c.args.index.now c.args.m).limit) ∷ []))
    (arc_step c.args.index.now c.args.m c.requires.message c.args.a c.arc-tail.result.tail.0 (message_at c.args.index.now c.args.m).limit false false c.requires.arc
    (first_of (search rules, grind (arith, common_steps))) (omega arith)) (first_of (search rules, grind (arith, common_steps))) (first_of (search rules, grind (arith, common_steps)))
