use Rattle.std.proofs.Common.{◌≢◌, Some, IfSome}
use Rattle.propagate.specs.Watched.{HasLiteral}
use Rattle.propagate.proofs.watched.latest.Given as goal

abbrev pub invariant-loop-t : goal.invariant-loop-t
invariant-loop-t l = record {
  there : IfSome l.best (λ b. HasLiteral l.terms b);
  other : IfSome l.best (λ b. l.but ≢ Some b);
}
