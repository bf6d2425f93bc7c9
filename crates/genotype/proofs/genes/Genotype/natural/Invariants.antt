use Rattle.std.proofs.Common.{◌≡◌}
use Rattle.std.specs.Prelude.{replicate}
use Rattle.spec_model.specs.Genotypes.{plain_gene}
use Rattle.genotype.proofs.genes.Genotype.natural.Given as goal

abbrev pub invariant-loop-variable : goal.invariant-loop-variable
invariant-loop-variable l = l.genes.items ≡ replicate l._variable plain_gene
