use Rattle.std.proofs.Common.{◌≡◌, ◌≤◌, ◌-◌, length, take}
use Rattle.trail_state.specs.Trail.{value_in}
use Rattle.propagate.specs.Forced.{Appends}
use Rattle.propagate.specs.Watched.{AreGuarded, wholes}
use Rattle.propagate.specs.Watches.{watched_in, AreWatched, KeepsGuards}
use Rattle.propagate.proofs.watches.Watches.close.Given as goal

abbrev pub invariant-loop-visited : goal.invariant-loop-visited
invariant-loop-visited l = record {
  built : AreWatched l.trail.variables l.self;
  wholes : wholes l.self.slots.items ≡ wholes l.fn.self.slots.items;
  closed : l.self.closed ≡ l.fn.self.closed;
  guards : KeepsGuards (value_in l.fn.trail.entries) l.fn.self.slots.items l.self.slots.items;
  variables : l.trail.variables ≡ l.fn.trail.variables;
  appends : Appends (watched_in l.fn.self) l.fn.trail.entries l.trail.entries;
  few : l.visited ≤ length l.trail.entries;
  guarded : AreGuarded (value_in (take l.visited l.trail.entries)) (value_in l.trail.entries) l.self.slots.items;
}

abbrev pub decreases-loop-visited : goal.decreases-loop-visited
decreases-loop-visited l = l.trail.variables - l.visited
