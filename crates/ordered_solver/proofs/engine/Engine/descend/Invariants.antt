use Rattle.std.proofs.Common.{◌≡◌, ◌-◌, length}
use Rattle.ordered_solver.specs.Engines.{IsLoaded}
use Rattle.ordered_solver.specs.Trails.{IsOrdered, ArePassed, GoesOnFrom}
use Rattle.ordered_solver.proofs.engine.Engine.descend.Given as goal

abbrev pub invariant-loop-conflict : goal.invariant-loop-conflict
invariant-loop-conflict l = record {
  loaded : IsLoaded l.self.store l.self.propagator l.self.trail;
  attached : l.self.propagator.attached ≡ l.fn.self.propagator.attached;
  variables : l.self.trail.variables ≡ l.fn.self.trail.variables;
  ordered : IsOrdered l.fn.self.propagator.attached l.order l.self.trail.entries;
  passed : ArePassed l.order l.self.trail.entries l.places;
  same_length : length l.places ≡ length l.fn.places;
  goes_on : GoesOnFrom l.fn.self.trail.entries l.self.trail.entries;
  store : l.self.store ≡ l.fn.self.store;
  log : l.self.log ≡ l.fn.self.log;
  kept : l.self.kept.items ≡ l.fn.self.kept.items;
}

abbrev pub decreases-loop-conflict : goal.decreases-loop-conflict
decreases-loop-conflict l = l.self.trail.variables - length l.self.trail.entries
