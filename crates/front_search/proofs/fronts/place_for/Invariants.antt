use Rattle.std.proofs.Common.{ℕ, ◌<◌, List}
use Rattle.std.specs.Prelude.{slice_index_or}
use Rattle.front_model.specs.Fronts.{StandsBefore}
use Rattle.front_lists.specs.Lists.{vectors_in}
use Rattle.front_search.specs.Searches.{seen}
use Rattle.front_search.proofs.fronts.place_for.Given as goal

abbrev pub invariant-loop-k : goal.invariant-loop-k
invariant-loop-k l = (j : ℕ) (d : List ℕ) → j < l.k → StandsBefore (slice_index_or (vectors_in (seen l.front)) j d) l.v
