use Rattle.std.proofs.Common.{◌≡◌, ◌<◌, ◌≤◌, ℕ, length}
use Rattle.trail_state.specs.Trail.{value_in}
use Rattle.pb_rules.specs.Partial.{IsClosed}
use Rattle.propagate.specs.Forced.{Appends}
use Rattle.propagate.specs.Watched.{wholes}
use Rattle.propagate.specs.Watches.{watched_in}
use Rattle.propagate.specs.Counters.{linear_at}
use Rattle.propagate.proofs.watches.Watches.look_through_all.Given as goal

abbrev pub invariant-loop-slot : goal.invariant-loop-slot
invariant-loop-slot l = record {
  variables : l.trail.variables ≡ l.fn.trail.variables;
  appends : Appends (watched_in l.self) l.fn.trail.entries l.trail.entries;
  closed : length l.trail.entries ≤ length l.fn.trail.entries → (i : ℕ) → i < l.slot → IsClosed (value_in l.trail.entries) (linear_at (wholes l.self.slots.items) i);
}
