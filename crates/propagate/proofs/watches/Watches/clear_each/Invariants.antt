use Rattle.std.proofs.Common.{ℕ, List, take}
use Rattle.pb_rules.specs.Literal.{Literal}
use Rattle.propagate.specs.Attached.{Drops}
use Rattle.propagate.specs.Watches.{watched_in, AreWatched, AreClosedAt}
use Rattle.propagate.proofs.watches.Watches.clear_each.Given as goal

abbrev pub invariant-loop-c : goal.invariant-loop-c
invariant-loop-c l = record {
  built : (n : ℕ) → AreWatched n l.fn.self → AreWatched n l.self;
  closed : (ls : List Literal) → AreClosedAt ls l.fn.self → AreClosedAt ls l.self;
  attached : Drops (take l.c-index l.dropped) (watched_in l.fn.self) (watched_in l.self);
}
