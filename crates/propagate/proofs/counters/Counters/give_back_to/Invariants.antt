use Rattle.std.proofs.Common.{◌≡◌, ◌≤◌}
use Rattle.propagate.specs.Counters.{AreBuilt, AreGivenBack, taken_off}
use Rattle.propagate.proofs.counters.Counters.give_back_to.Given as goal

abbrev pub invariant-loop-self : goal.invariant-loop-self
invariant-loop-self l = record {
  built : AreBuilt l.self;
  given : AreGivenBack (taken_off l.fn.self.used l.self) l.self;
  used : l.kept ≤ l.self.used;
  fewer : l.self.used ≤ l.fn.self.used;
  lits : l.self.lits ≡ l.fn.self.lits;
  slots : l.self.slots ≡ l.fn.self.slots;
  variables : l.self.variables ≡ l.fn.self.variables;
}

abbrev pub decreases-loop-self : goal.decreases-loop-self
decreases-loop-self l = l.self.used
