use Rattle.std.proofs.Common.{ℕ, ◌<◌, List}
use Rattle.std.specs.Prelude.{slice_index_or}
use Rattle.spec_model.specs.Vectors.{Dominates}
use Rattle.front_lists.specs.Lists.{vectors_in}
use Rattle.front_search.specs.Searches.{seen}
use Rattle.front_search.proofs.fronts.is_dominated.Given as goal

abbrev pub invariant-loop-k : goal.invariant-loop-k
invariant-loop-k l = (j : ℕ) (d : List ℕ) → j < l.k → ¬ Dominates (slice_index_or (vectors_in (seen l.found)) j d) l.v
