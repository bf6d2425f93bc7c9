use Rattle.std.proofs.Common.{◌≡◌, ◌-◌, length, min, take}
use Rattle.ordered_solver.specs.Engines.{HasKeptIds, AreLeaving}
use Rattle.ordered_solver.specs.Lessons.{HasDropped}
use Rattle.ordered_solver.specs.Solver.{kept_limit}
use Rattle.ordered_solver.proofs.engine.Engine.drop_oldest.Given as goal

abbrev pub invariant-loop-self : goal.invariant-loop-self
invariant-loop-self l = record {
  dropped : HasDropped l.fn.self.log l.fn.self.store l.self.store;
  leaving : AreLeaving l.self.store l.self.propagator l.self.trail (take (length l.self.kept.items - kept_limit) l.self.kept.items);
  listed : HasKeptIds l.self.store l.self.kept.items l.fn.self.log;
  count : min kept_limit (length l.self.kept.items) ≡ min kept_limit (length l.fn.self.kept.items);
  log : l.self.log ≡ l.fn.self.log;
  trail : l.self.trail ≡ l.fn.self.trail;
}

abbrev pub decreases-loop-self : goal.decreases-loop-self
decreases-loop-self l = length l.self.kept.items
