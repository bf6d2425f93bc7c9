use Rattle.std.proofs.Common.{◌≡◌, ◌++◌, map, take, drop}
use Rattle.propagate.specs.Watches.{renamed_watch}
use Rattle.propagate.proofs.lists.rename_in.Given as goal

abbrev pub invariant-loop-one : goal.invariant-loop-one
invariant-loop-one l = l.list ≡ map (renamed_watch l.moves) (take l.one-index l.fn.list) ++ drop l.one-index l.fn.list
