use Rattle.std.proofs.Common.{◌≤◌, List, length, sym, subst, arith}
use Rattle.spec_model.specs.Genotypes.{GeneValue}
use Rattle.genotype.specs.Order.{IsOrderOf}
use Rattle.genotype.specs.Placing.{IsLed}
use Rattle.genotype.proofs.Placing.{order_is, led_len}
use Rattle.genotype.proofs.genes.Genotype.order_of.Goals as goal

pub add_others-requires-clause-more : goal.add_others-requires-clause-more
add_others-requires-clause-more c =
    omega (
      arith,
      led_len c.genes.result.now c.in_ok-literals.literals.items c.in_ok-literals.ensures,
      subst (λ (genes : List GeneValue). length genes ≤ c.args.variables) (sym c.genes.ensures.genes) c.requires,
    )

pub new-requires : goal.new-requires
new-requires c =
    let front = c.in_ok-literals.literals.items in
    let led = subst (λ (genes : List GeneValue). IsLed genes front) c.genes.ensures.genes c.in_ok-literals.ensures in
    (order_is c.args.self.now c.args.variables front c.add_others.new.literals.items c.requires led c.in_ok-add_others.ensures).each_once

pub returns : goal.returns
returns c =
    let front = c.in_ok-literals.literals.items in
    let led = subst (λ (genes : List GeneValue). IsLed genes front) c.genes.ensures.genes c.in_ok-literals.ensures in
    subst (IsOrderOf c.args.self.now c.args.variables) (sym c.new.ensures)
    (order_is c.args.self.now c.args.variables front c.add_others.new.literals.items c.requires led c.in_ok-add_others.ensures)
