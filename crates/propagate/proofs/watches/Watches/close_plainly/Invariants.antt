use Rattle.std.proofs.Common.{◌≡◌, ◌-◌, length}
use Rattle.propagate.specs.Forced.{Appends}
use Rattle.propagate.specs.Watches.{watched_in}
use Rattle.propagate.proofs.watches.Watches.close_plainly.Given as goal

abbrev pub invariant-passing : goal.invariant-passing
invariant-passing l = record {
  variables : l.trail.variables ≡ l.fn.trail.variables;
  appends : Appends (watched_in l.self) l.fn.trail.entries l.trail.entries;
}

abbrev pub decreases-passing : goal.decreases-passing
decreases-passing l = l.trail.variables - length l.trail.entries
