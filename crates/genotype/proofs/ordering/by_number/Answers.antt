use Rattle.std.proofs.Common.{ap, ◌∙◌, arith}
use Rattle.spec_model.specs.Genotypes.{GeneValue}
use Rattle.genotype.proofs.Indexed.{at_index}
use Rattle.genotype.proofs.Placing.{own_step, phase_is}
use Rattle.genotype.proofs.ordering.by_number.Goals as goal

pub loop-v-preserved : goal.loop-v-preserved
loop-v-preserved c =
    let genes = c.args.genes.now in
    let v = c.loop-v.v in
    let here = at_index genes v c.index-genes-v.result (omega arith) c.index-genes-v.is in
    own_step genes c.loop-v.literals.items c.push.new.self.items c.literal.result v c.loop-v.invariant c.in_ok-push.ensures.items
    (phase_is genes v c.literal.result c.gene.inside.phase c.literal.ensures (ap (λ (g : GeneValue). g.phase) (c.gene.view_is ∙ here)))
