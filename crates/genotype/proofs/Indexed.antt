-- The gene that a slice has at an index.
use Rattle.std.proofs.Common.{◌≡◌, ℕ, ◌<◌, List, length, get_or, ◌∙◌}
use Rattle.std.proofs.lemmas.List.{get_or_default}
use Rattle.spec_model.specs.Genotypes.{GeneValue, plain_gene, gene_at}

pub at_index : (genes : List GeneValue) (v : ℕ) (g : GeneValue) → v < length genes → g ≡ get_or genes v g → g ≡ gene_at genes v
at_index genes v g lt is = is ∙ get_or_default genes v g plain_gene lt
