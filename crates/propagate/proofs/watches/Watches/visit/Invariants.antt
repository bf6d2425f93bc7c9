use Rattle.std.proofs.Common.{◌≡◌, ◌-◌, true, length, drop}
use Rattle.pb_rules.specs.Partial.{is_false}
use Rattle.trail_state.specs.Trail.{value_in}
use Rattle.propagate.specs.Forced.{Appends}
use Rattle.propagate.specs.Counters.{literal_number}
use Rattle.propagate.specs.Watched.{wholes}
use Rattle.propagate.specs.Watches.{watches_of, watched_in, AreWatched, KeepsGuards, AreSettledBut}
use Rattle.propagate.proofs.watches.Watches.visit.Given as goal

abbrev pub invariant-loop-place : goal.invariant-loop-place
invariant-loop-place l = record {
  built : AreWatched l.trail.variables l.self;
  wholes : wholes l.self.slots.items ≡ wholes l.fn.self.slots.items;
  closed : l.self.closed ≡ l.fn.self.closed;
  guards : KeepsGuards (value_in l.fn.trail.entries) l.fn.self.slots.items l.self.slots.items;
  variables : l.trail.variables ≡ l.fn.trail.variables;
  appends : Appends (watched_in l.fn.self) l.fn.trail.entries l.trail.entries;
  falsified : is_false (value_in l.trail.entries) l.gone ≡ true;
  rest : AreSettledBut (drop l.place (watches_of l.self.lists (literal_number l.gone))) (value_in l.trail.entries) l.gone l.self.slots.items;
}

abbrev pub decreases-loop-place : goal.decreases-loop-place
decreases-loop-place l = length (watches_of l.self.lists (literal_number l.gone)) - l.place
