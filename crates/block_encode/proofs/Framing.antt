-- The encoding and the blocks are a frame.
use Rattle.std.proofs.Common.{◌≡◌, ℕ, ◌+◌, List, length, arith}
use Rattle.std.proofs.lemmas.List.FromFn.{length-map-range_with_len}
use Rattle.spec_model.specs.Spec.{SpecValue}
use Rattle.encode_model.specs.Block.{below_place, block_of}
use Rattle.encode_model.proofs.Formed.{encoding_normal}
use Rattle.block_encode.specs.Laws.{BlocksMakeFrame}
use Rattle.block_encode.proofs.Forms.{block_normal}

sized : (s : SpecValue) (b : ℕ) (v : List ℕ) → length (block_of s b v) ≡ length v + 1
unfolding block_of
sized s b v = omega (arith, length-map-range_with_len (below_place s b v) 0 (length v))

-- the encoding and the blocks are a frame
pub blocks_make_frame : BlocksMakeFrame
blocks_make_frame s wf = record { sized = sized s; base_normal = encoding_normal s wf; block_normal = λ b v. block_normal s b v wf }
