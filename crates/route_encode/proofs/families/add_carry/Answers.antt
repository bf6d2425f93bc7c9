use Rattle.std.proofs.Common.{rules, arith, [], ◌∷◌, subst}
use Rattle.std.specs.Prelude.{OnOk}
use Rattle.std.proofs.lemmas.Grind.{common_steps}
use Rattle.pb_rules.specs.Linear.{Linear}
use Rattle.route_encode.specs.Adding.{Adds}
use Rattle.encode_model.proofs.Shapes.{carry_shape}
use Rattle.route_encode.proofs.families.add_carry.Goals as goal

pub add-requires-clause-rising : goal.add-requires-clause-rising
add-requires-clause-rising c = (carry_shape c.args.index.now c.spec-spec.result.now c.args.m c.args.a c.arc-arc.result.tail.0 c.arc-arc.result.head.0 c.args.t c.args.out.now.variables
    c.deref.result.now c.spec-spec.ensures c.facts.ensures c.requires.message c.requires.arc (first_of (search rules, grind (arith, common_steps)))
    (first_of (search rules, grind (arith, common_steps))) c.requires.step c.requires.variables (first_of (search rules, grind (arith, common_steps)))).0

pub returns : goal.returns
returns c = subst (λ (x : Linear). OnOk c.add.result (Adds c.args.out.now c.add.new.out (x ∷ []))) ((carry_shape c.args.index.now c.spec-spec.result.now c.args.m c.args.a c.arc-arc.result.tail.0
    c.arc-arc.result.head.0 c.args.t c.args.out.now.variables c.deref.result.now c.spec-spec.ensures c.facts.ensures c.requires.message c.requires.arc
    (first_of (search rules, grind (arith, common_steps))) (first_of (search rules, grind (arith, common_steps))) c.requires.step c.requires.variables
    (first_of (search rules, grind (arith, common_steps)))).1) c.add.ensures
