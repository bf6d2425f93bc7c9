use Rattle.std.proofs.Common.{◌≡◌, take, drop}
use Rattle.propagate.specs.Counters.{AreBuilt, AreGivenBack}
use Rattle.propagate.proofs.counters.Counters.wake_upto.Given as goal

abbrev pub invariant-loop-place : goal.invariant-loop-place
invariant-loop-place l = record {
  built : AreBuilt l.self;
  given : AreGivenBack (drop l.place (take l.top l.self.lits.items)) l.self;
  lits : l.self.lits ≡ l.fn.self.lits;
  used : l.self.used ≡ l.fn.self.used;
  slots : l.self.slots ≡ l.fn.self.slots;
  variables : l.self.variables ≡ l.fn.self.variables;
}
