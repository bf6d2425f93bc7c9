use Rattle.std.proofs.Common.{◌≡◌, ◌++◌, map, take, drop, vec_items}
use Rattle.propagate.specs.Watches.{renamed_watch}
use Rattle.propagate.proofs.lists.rename_each.Given as goal

abbrev pub invariant-loop-list : goal.invariant-loop-list
invariant-loop-list l = map vec_items l.lists ≡ map (map (renamed_watch l.moves)) (take l.list-index (map vec_items l.fn.lists)) ++ drop l.list-index (map vec_items l.fn.lists)
