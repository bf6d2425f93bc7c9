use Rattle.std.proofs.Common.{rules, arith, [], ◌∷◌, ◌++◌}
use Rattle.std.proofs.lemmas.Grind.{common_steps}
use Rattle.spec_model.specs.Spec.{link_var}
use Rattle.encode_model.specs.Encoding.{negative, positives, link_arcs, messages_of}
use Rattle.std.specs.List.{flat_map}
use Rattle.encode_model.proofs.Shapes.{link_uses}
use Rattle.route_encode.proofs.Writing.{rising_of, few_of}
use Rattle.route_encode.proofs.allocation.add_link_has_use.Goals as goal

pub add-requires-clause-rising : goal.add-requires-clause-rising
add-requires-clause-rising c = rising_of _ _ c.args.index.now (positives (flat_map (link_arcs c.args.index.now c.args.l) (messages_of c.args.index.now))
    ++ negative (link_var c.args.index.now c.args.l) ∷ []) (link_uses c.args.index.now c.args.l c.requires.link) (first_of (search rules, grind (arith, common_steps)))
    (first_of (search rules, grind (arith, common_steps)))

pub add-requires-clause-few : goal.add-requires-clause-few
add-requires-clause-few c = few_of _ c.args.index.now _ (first_of (search rules, grind (arith, common_steps))) c.spec.ensures c.facts.ensures
