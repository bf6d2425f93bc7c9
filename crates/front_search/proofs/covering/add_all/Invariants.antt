use Rattle.std.proofs.Common.{◌≡◌, ◌+◌, ◌++◌, take}
use Rattle.ordered_solver.specs.Solver.{numbered}
use Rattle.front_search.proofs.covering.add_all.Given as goal

abbrev pub invariant-loop-c : goal.invariant-loop-c
invariant-loop-c l = record {
  solver : l.solver ≡ record l.fn.solver { given = l.fn.solver.given ++ numbered l.first (take l.c-index l.constraints) };
  counted : l.id ≡ l.first + l.c-index;
}
