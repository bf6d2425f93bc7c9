use Rattle.std.proofs.Common.{◌≡◌, map}
use Rattle.spec_model.specs.Spec.{below}
use Rattle.encode_model.specs.Block.{is_below}
use Rattle.block_encode.proofs.bounds.below_somewhere.Given as goal

abbrev pub invariant-loop-j : goal.invariant-loop-j
invariant-loop-j l = l.terms.items ≡ map (is_below l.spec l.cover_no) (below l.j)
