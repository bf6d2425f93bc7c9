use Rattle.std.proofs.Common.{List, All, subst, sym, arith}
use Rattle.std.proofs.lemmas.List.Elements.{All-replicate}
use Rattle.spec_model.specs.Genotypes.{GeneValue, plain_gene}
use Rattle.genotype.specs.Genes.{HasPriority}
use Rattle.genotype.proofs.genes.Genotype.natural.Goals as goal

pub invariant_of-result : goal.invariant_of-result
invariant_of-result c = subst (λ (genes : List GeneValue). All HasPriority genes) (sym c.loop-variable.invariant) (All-replicate HasPriority c.loop-variable._variable plain_gene (omega arith))
