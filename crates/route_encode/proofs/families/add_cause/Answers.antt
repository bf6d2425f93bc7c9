use Rattle.std.proofs.Common.{rules, arith, length, [], ◌∷◌, subst}
use Rattle.std.specs.Prelude.{OnOk}
use Rattle.std.proofs.lemmas.Grind.{common_steps}
use Rattle.pb_rules.specs.Linear.{Linear}
use Rattle.encode_model.specs.Encoding.{leads_to}
use Rattle.route_encode.specs.Adding.{Adds}
use Rattle.route_encode.proofs.Rows.{those_below}
use Rattle.encode_model.proofs.Shapes.{cause_shape}
use Rattle.route_encode.proofs.Writing.{few_of, limit_small}
use Rattle.route_encode.proofs.families.add_cause.Goals as goal

pub earlier-requires-clause-places : goal.earlier-requires-clause-places
earlier-requires-clause-places c = those_below (leads_to c.args.index.now c.args.q) (length c.args.index.now.resources) _ c.neighbours.ensures

pub overflow_add-t : goal.overflow_add-t
overflow_add-t c = omega (arith, limit_small c.args.index.now c.spec.result.now c.args.m c.args.t c.spec.ensures c.facts.ensures c.requires.message c.requires.step)

pub add-requires-clause-rising : goal.add-requires-clause-rising
add-requires-clause-rising c = (cause_shape c.args.index.now c.spec.result.now c.args.m c.args.q c.args.t c.args.out.now.variables c.deref-2.result.now c.spec.ensures c.facts.ensures
    c.requires.message c.requires.resource c.requires.step c.requires.variables (first_of (search rules, grind (arith, common_steps)))).0

pub add-requires-clause-few : goal.add-requires-clause-few
add-requires-clause-few c = few_of _ c.args.index.now _ (first_of (search rules, grind (arith, common_steps))) c.spec.ensures c.facts.ensures

pub returns : goal.returns
returns c = subst (λ (x : Linear). OnOk c.add.result (Adds c.args.out.now c.add.new.out (x ∷ []))) ((cause_shape c.args.index.now c.spec.result.now c.args.m c.args.q c.args.t
    c.args.out.now.variables c.deref-2.result.now c.spec.ensures c.facts.ensures c.requires.message c.requires.resource c.requires.step c.requires.variables
    (first_of (search rules, grind (arith, common_steps)))).1) c.add.ensures
