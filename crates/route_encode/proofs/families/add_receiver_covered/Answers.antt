use Rattle.std.proofs.Common.{rules, arith, length}
use Rattle.std.proofs.lemmas.Grind.{common_steps}
use Rattle.spec_model.specs.Rules.{of_task}
use Rattle.route_encode.proofs.Rows.{those_below}
use Rattle.route_encode.proofs.families.add_receiver_covered.Goals as goal

pub add_option_cover-requires-clause-option : goal.add_option_cover-requires-clause-option
add_option_cover-requires-clause-option c =
    those_below (of_task c.args.index.now c.args.w) (length c.args.index.now.options) _ c.options_of-options.ensures c.loop-o.o-index 0 (first_of (search rules, grind (arith, common_steps)))
