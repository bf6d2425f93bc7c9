-- The order of the variables that a genotype gives.
use Rattle.std.specs.Prelude.{◌≡◌, ℕ, ◌<◌, ◌≤◌, false, List, length, slice_index_or}
use Rattle.pb_rules.specs.Literal.{Literal}
use Rattle.variable_order.specs.Order.{IsOrder}
use Rattle.spec_model.specs.Genotypes.{GeneValue, gene_at, StandsBefore}

-- The variables with genes lead, each with its gene's phase, and one stands before another as the genes say. The others
-- follow by number, false first.
pub record IsOrderOf (genes : List GeneValue) (variables : ℕ) (order : List Literal) : Type 0 where
  pub len : length order ≡ variables
  pub each_once : IsOrder order
  pub leads : (i : ℕ) (d : Literal) → i < length genes → (slice_index_or order i d).var < length genes
  pub stands : (i j : ℕ) (d : Literal) → i < j → j < length genes → StandsBefore genes (slice_index_or order i d).var (slice_index_or order j d).var
  pub phases : (i : ℕ) (d : Literal) → i < length genes → (slice_index_or order i d).yes ≡ (gene_at genes (slice_index_or order i d).var).phase
  pub rest : (i : ℕ) (d : Literal) → length genes ≤ i → i < variables → slice_index_or order i d ≡ record { var = i; yes = false }
