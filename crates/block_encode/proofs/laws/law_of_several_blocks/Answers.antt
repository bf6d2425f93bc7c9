use Rattle.block_encode.proofs.Extending.{all_extend}
use Rattle.block_encode.proofs.laws.law_of_several_blocks.Goals as goal

pub returns : goal.returns
returns c = all_extend
