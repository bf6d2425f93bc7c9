use Rattle.std.proofs.Common.{rules, arith, [], ◌∷◌, true, false}
use Rattle.std.proofs.lemmas.Grind.{common_steps}
use Rattle.spec_model.specs.Spec.{arc_var, link_var}
use Rattle.encode_model.specs.Encoding.{positive, negative}
use Rattle.encode_model.proofs.Shapes.{arc_allocated}
use Rattle.route_encode.proofs.Writing.{rising_of}
use Rattle.route_encode.proofs.allocation.add_arc_allocates.Goals as goal

pub add_two-requires-clause-rising : goal.add_two-requires-clause-rising
add_two-requires-clause-rising c = rising_of _ _ c.args.index.now (negative (arc_var c.args.index.now c.args.m c.args.a) ∷ (positive (link_var c.args.index.now c.arc.result.link.0) ∷ []))
    (arc_allocated c.args.index.now c.args.m c.requires.message c.args.a c.arc.result.link.0 false true c.requires.arc (first_of (search rules, grind (arith, common_steps))))
    (first_of (search rules, grind (arith, common_steps))) (first_of (search rules, grind (arith, common_steps)))
