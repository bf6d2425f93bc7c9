use Rattle.std.proofs.Common.{◌≡◌, ◌<◌, ◌-◌, ◌^◌, length}
use Rattle.ordered_solver.specs.Engines.{IsLoaded}
use Rattle.ordered_solver.specs.Lessons.{HasLearned, IsCounted}
use Rattle.ordered_solver.specs.Marks.{word, marks}
use Rattle.ordered_solver.specs.Trails.{IsOrdered, ArePassed}
use Rattle.ordered_solver.proofs.engine.Engine.search.Given as goal

abbrev pub invariant-loop-conflict : goal.invariant-loop-conflict
invariant-loop-conflict l = record {
  loaded : IsLoaded l.self.store l.self.propagator l.self.trail;
  variables : l.self.trail.variables ≡ l.fn.self.trail.variables;
  ordered : IsOrdered l.self.propagator.attached l.order l.self.trail.entries;
  passed : ArePassed l.order l.self.trail.entries l.places.items;
  long : l.self.trail.variables < length l.places.items;
  learned : HasLearned l.fn.self.store l.self.store l.fn.self.kept.items l.self.kept.items l.fn.self.log l.self.log l.conflicts;
  counted : IsCounted l.self.trail.variables l.self.trail.entries l.conflicts;
  below : l.conflicts < l.budget;
}

abbrev pub decreases-loop-conflict : goal.decreases-loop-conflict
decreases-loop-conflict l = 2 ^ l.self.trail.variables - word l.self.trail.variables (marks l.self.trail.entries)
