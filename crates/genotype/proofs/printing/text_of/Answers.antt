use Rattle.std.proofs.Common.{arith}
use Rattle.genotype.specs.Spelling.{genotype_text}
use Rattle.genotype.proofs.Indexed.{at_index}
use Rattle.genotype.proofs.Spelling.{text_step, text_end}
use Rattle.genotype.proofs.printing.text_of.Goals as goal

pub loop-v-preserved : goal.loop-v-preserved
loop-v-preserved c =
    let genes = c.args.genes.now in
    text_step genes c.loop-v.v c.loop-v.text.items c.put_gene.new.text.items (genotype_text genes) c.index-genes-v.result c.loop-v.invariant c.in_ok-put_gene.ensures
    (at_index genes c.loop-v.v c.index-genes-v.result (omega arith) c.index-genes-v.is) (omega arith)

pub returns : goal.returns
returns c = text_end c.args.genes.now c.loop-v.v c.loop-v.text.items (genotype_text c.args.genes.now) c.loop-v.invariant (omega arith)
