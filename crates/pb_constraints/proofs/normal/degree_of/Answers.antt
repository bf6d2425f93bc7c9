use Rattle.std.proofs.Common.{◌≡◌, ◌∙◌, ap, arith, pos, ◌+ℤ◌, ◌-ℤ◌, to_z, of_z}
use Rattle.std.specs.Int.{w128}
use Rattle.std.proofs.lemmas.Int.{ints}
use Rattle.pb_constraints.specs.NormalForm.{or_zero}
use Rattle.pb_constraints.proofs.Forms.{degree_is}
use Rattle.pb_constraints.proofs.normal.degree_of.Goals as goal

pub returns : goal.returns
returns c =
    let signed : to_z w128 (of_z w128 c.shifted.result) ≡ (c.args.degree -ℤ c.negated.result) +ℤ pos c.flips.result = omega (arith, ints) in
    degree_is c.args.parts.now c.args.degree c.negated.result c.flips.result c.at_least_zero.result c.args.groups.now c.negated.ensures.value c.flips.ensures.value
    (c.at_least_zero.ensures ∙ ap or_zero signed)
