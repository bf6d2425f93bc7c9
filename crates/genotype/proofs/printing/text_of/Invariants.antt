use Rattle.std.proofs.Common.{◌≡◌, ◌++◌, drop}
use Rattle.genotype.specs.Spelling.{genes_text, genotype_text}
use Rattle.genotype.proofs.printing.text_of.Given as goal

abbrev pub invariant-loop-v : goal.invariant-loop-v
invariant-loop-v l = l.text.items ++ genes_text l.v (drop l.v l.genes) ≡ genotype_text l.genes
