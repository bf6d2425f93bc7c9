use Rattle.std.proofs.Common.{◌≤◌, take}
use Rattle.std.specs.Prelude.{All}
use Rattle.propagate.specs.Ranked.{IsFalling}
use Rattle.propagate.proofs.ranked.is_falling.Given as goal

abbrev pub invariant-loop-t : goal.invariant-loop-t
invariant-loop-t l = record {
  falling : IsFalling (take l.t-index l.terms);
  bound : All (λ t. l.last ≤ t.coef) (take l.t-index l.terms);
}
