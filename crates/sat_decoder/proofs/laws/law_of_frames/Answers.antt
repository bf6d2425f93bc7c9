use Rattle.std.proofs.Common.{refl}
use Rattle.block_encode.proofs.Framing.{blocks_make_frame}
use Rattle.sat_decoder.proofs.laws.law_of_frames.Goals as goal

pub returns-clause-normal : goal.returns-clause-normal
returns-clause-normal c s wf = (blocks_make_frame s wf).base_normal

pub returns-clause-frame : goal.returns-clause-frame
returns-clause-frame c s wf = record { frame = blocks_make_frame s wf; base_is = refl }
