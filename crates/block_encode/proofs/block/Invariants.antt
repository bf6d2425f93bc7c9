use Rattle.std.proofs.Common.{◌≡◌, ◌∷◌, map}
use Rattle.spec_model.specs.Spec.{below}
use Rattle.encode_model.specs.Block.{below_somewhere, below_place}
use Rattle.block_encode.proofs.block.Given as goal

abbrev pub invariant-loop-j : goal.invariant-loop-j
invariant-loop-j l = l.block.items ≡ below_somewhere l.spec l.cover_no ∷ map (below_place l.spec l.cover_no l.v) (below l.j)
