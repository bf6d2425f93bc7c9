use Rattle.std.proofs.Common.{◌≡◌, ◌++◌, take}
use Rattle.explore_run.specs.Words.{spaced}
use Rattle.explore_run.proofs.saying.put_objectives.Given as goal

abbrev pub invariant-loop-j : goal.invariant-loop-j
invariant-loop-j l = l.out.items ≡ l.fn.out.items ++ spaced (take l.j l.spec.objectives)
