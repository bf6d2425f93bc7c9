use Rattle.route_encode.proofs.Writing.{normal_terms, below_terms, added}
use Rattle.route_encode.proofs.literals.add.Goals as goal

pub of_normal-requires : goal.of_normal-requires
of_normal-requires c = normal_terms c.args.out.now.variables c.args.degree c.args.literals.now _ (c.in_ok-terms.ensures {u = tt}) c.requires.rising c.requires.few c.requires.small

pub add-requires : goal.add-requires
add-requires c = below_terms c.args.out.now.variables c.args.degree c.args.literals.now c.in_ok-terms.terms.items _ c.of_normal.ensures.value (c.in_ok-terms.ensures {u = tt}) c.requires.rising

pub returns : goal.returns
returns c =
    added c.args.out.now c.add.new.self c.args.out.now.variables c.args.degree c.args.literals.now c.in_ok-terms.terms.items c.of_normal.result
    (c.in_ok-add.ensures {u = tt}).ok c.of_normal.ensures.value (c.in_ok-terms.ensures {u = tt}) c.requires.rising
