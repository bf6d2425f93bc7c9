-- How the order of a genotype's own variables is found: from their order by number.
use Rattle.std.specs.Prelude.{ℕ, ◌-◌, ◌<◌, false, List, length, map, slice_index_or}
use Rattle.std.specs.List.Sorted.{IsPermutation}
use Rattle.pb_rules.specs.Literal.{Literal}
use Rattle.spec_model.specs.Spec.{below}
use Rattle.spec_model.specs.Genotypes.{GeneValue, gene_at, StandsBefore}

-- a variable with its gene's phase
abbrev pub literal_at : List GeneValue → ℕ → Literal
literal_at genes v = record { var = v; yes = (gene_at genes v).phase }

-- a variable that has no gene
abbrev pub other_literal : ℕ → Literal
other_literal v = record { var = v; yes = false }

-- the literals of the variables with genes, by number
abbrev pub literals_of : List GeneValue → List Literal
literals_of genes = map (literal_at genes) (below (length genes))

-- how far a variable's priority is below the highest of 32 bits
abbrev pub lateness : List GeneValue → Literal → ℕ
lateness genes l = 4294967295 - (gene_at genes l.var).priority

-- the variables with genes in their order
pub record IsLed (genes : List GeneValue) (order : List Literal) : Type 0 where
  pub permutation : IsPermutation (literals_of genes) order
  pub stands : (i j : ℕ) (d : Literal) → i < j → j < length genes → StandsBefore genes (slice_index_or order i d).var (slice_index_or order j d).var
