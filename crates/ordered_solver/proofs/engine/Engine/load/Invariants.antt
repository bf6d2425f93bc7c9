use Rattle.std.proofs.Common.{◌≡◌, ◌+◌, ◌++◌, length, map}
use Rattle.std.specs.Vec.Iter.{into_iter_items}
use Rattle.constraint_store.specs.Live.{content}
use Rattle.ordered_solver.specs.Engines.{IsIdle}
use Rattle.ordered_solver.specs.Solver.{numbered}
use Rattle.ordered_solver.proofs.engine.Engine.load.Given as goal

abbrev pub invariant-loop-c : goal.invariant-loop-c
invariant-loop-c l = record {
  idle : IsIdle l.self.store l.self.propagator l.self.trail;
  given : map content l.self.store ≡ numbered 1 l.yielded;
  numbered : l.proof_id ≡ length l.yielded + 1;
  parts : l.fn.constraints.items ≡ l.yielded ++ into_iter_items l.c-iterator;
  variables : l.self.trail.variables ≡ l.fn.self.trail.variables;
  log : l.self.log ≡ l.fn.self.log;
  kept : l.self.kept.items ≡ l.fn.self.kept.items;
}
