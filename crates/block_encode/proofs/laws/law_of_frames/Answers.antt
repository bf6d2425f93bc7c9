use Rattle.block_encode.proofs.Framing.{blocks_make_frame}
use Rattle.block_encode.proofs.Knowing.{frames_know}
use Rattle.block_encode.proofs.laws.law_of_frames.Goals as goal

pub returns-clause-frame : goal.returns-clause-frame
returns-clause-frame c = blocks_make_frame

pub returns-clause-variables : goal.returns-clause-variables
returns-clause-variables c = frames_know
