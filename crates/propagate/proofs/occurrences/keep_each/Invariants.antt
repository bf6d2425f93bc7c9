use Rattle.std.proofs.Common.{◌≡◌, ◌++◌, map, take, drop, filter, vec_items}
use Rattle.propagate.specs.Counters.{is_filled}
use Rattle.propagate.proofs.occurrences.keep_each.Given as goal

abbrev pub invariant-loop-list : goal.invariant-loop-list
invariant-loop-list l = map vec_items l.lists ≡ map (filter (is_filled l.slots)) (take l.list-index (map vec_items l.fn.lists)) ++ drop l.list-index (map vec_items l.fn.lists)
