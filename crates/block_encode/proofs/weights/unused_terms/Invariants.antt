use Rattle.std.proofs.Common.{◌≡◌}
use Rattle.block_encode.proofs.Adding.{unused_below}
use Rattle.block_encode.proofs.weights.unused_terms.Given as goal

abbrev pub invariant-loop-x : goal.invariant-loop-x
invariant-loop-x l = l.terms.items ≡ unused_below l.spec l.j l.x
