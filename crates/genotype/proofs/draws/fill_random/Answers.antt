use Rattle.std.proofs.Common.{◌≡◌, ◌+◌, ◌-◌, ◌<◌, ◌++◌, ap, sym, ◌∙◌, arith, length, take, subst}
use Rattle.std.proofs.lemmas.List.{length-set}
use Rattle.genotype.specs.Draws.{random_genes}
use Rattle.genotype.proofs.Filling.{fill_more, words_more}
use Rattle.genotype.proofs.draws.fill_random.Goals as goal

pub loop-v-preserved : goal.loop-v-preserved
loop-v-preserved g c =
    let n = length c.genes-n.result.now in
    let in_range : c.loop-v.v < length c.loop-v.drawn = omega (arith, c.loop-v.invariant.long) in record {
      long = ap length c.set.ensures ∙ length-set c.loop-v.drawn c.loop-v.v c.random_gene.result ∙ c.loop-v.invariant.long;
      genes = subst (λ xs. take (c.loop-v.v + 1) xs ++ random_genes g.W.Words.gives g.W.Words.after (n - (c.loop-v.v + 1)) c.random_gene.new.words
          ≡ random_genes g.W.Words.gives g.W.Words.after n c.args.words.now) (sym c.set.ensures) (fill_more g.W.Words.gives g.W.Words.after n c.loop-v.v c.loop-v.drawn _ c.random_gene.result
          c.loop-v.words c.random_gene.new.words in_range (omega arith) c.random_gene.ensures.gene c.random_gene.ensures.after c.loop-v.invariant.genes);
      after = words_more g.W.Words.after n c.loop-v.v c.loop-v.words c.random_gene.new.words _ (omega arith) c.random_gene.ensures.after c.loop-v.invariant.after;
    }
