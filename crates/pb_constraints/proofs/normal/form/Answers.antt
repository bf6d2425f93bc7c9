use Rattle.std.proofs.Common.{arith}
use Rattle.std.proofs.lemmas.Int.{ints}
use Rattle.pb_constraints.proofs.Forms.{too_large_sum, too_large_degree, is_normal, is_normal_of}
use Rattle.pb_constraints.proofs.Meaning.{keeps_meaning}
use Rattle.pb_constraints.proofs.Unique.{not_too_large_in}
use Rattle.pb_constraints.proofs.normal.form.Goals as goal

pub returns-then-coefficients-clause-refused : goal.returns-then-coefficients-clause-refused
returns-then-coefficients-clause-refused c =
    too_large_sum c.args.parts.now c.args.degree c.args.groups.now c.coefficients.result c.requires c.coefficients.ensures (omega arith)

pub returns-then-degree-clause-refused : goal.returns-then-degree-clause-refused
returns-then-degree-clause-refused c =
    too_large_degree c.args.parts.now c.args.degree _ c.args.groups.now c.degree_of-degree.result c.requires (omega (arith, ints)) c.degree_of-degree.ensures (omega arith)

pub of_normal-requires : goal.of_normal-requires
of_normal-requires c =
    is_normal c.args.parts.now c.args.groups.now c.in_ok-terms.terms.items c.coefficients.result c.degree_of-degree.result c.requires c.in_ok-terms.ensures c.coefficients.ensures (omega arith)
    (omega arith)

pub returns-clause-normal : goal.returns-clause-normal
returns-clause-normal c =
    is_normal_of c.args.parts.now c.args.degree _ c.args.groups.now c.in_ok-terms.terms.items c.degree_of-degree.result c.of_normal.result c.requires (omega (arith, ints)) c.in_ok-terms.ensures
    c.degree_of-degree.ensures c.of_normal.ensures.value

pub returns-clause-meaning : goal.returns-clause-meaning
returns-clause-meaning c = keeps_meaning c.args.parts.now c.args.degree c.of_normal.result (returns-clause-normal c)

pub returns-clause-accepted : goal.returns-clause-accepted
returns-clause-accepted c =
    not_too_large_in c.args.parts.now c.args.degree c.of_normal.result c.in_ok-terms.terms.items c.degree_of-degree.result (returns-clause-normal c) c.of_normal.ensures.value
    (is_normal c.args.parts.now c.args.groups.now c.in_ok-terms.terms.items c.coefficients.result c.degree_of-degree.result c.requires c.in_ok-terms.ensures c.coefficients.ensures
    (omega arith) (omega arith))
