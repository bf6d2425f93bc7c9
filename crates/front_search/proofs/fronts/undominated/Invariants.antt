use Rattle.std.proofs.Common.{take}
use Rattle.front_search.specs.Searches.{seen}
use Rattle.front_search.specs.Turns.{AreKeptOf}
use Rattle.front_search.proofs.fronts.undominated.Given as goal

abbrev pub invariant-loop-entry : goal.invariant-loop-entry
invariant-loop-entry l = AreKeptOf (seen l.found) (seen (take l.entry-index l.found)) (seen l.front.items)
