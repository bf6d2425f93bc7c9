use Rattle.block_encode.proofs.Meaning.{uncovered_extend, models_are_uncovered}
use Rattle.block_encode.proofs.Forms.{block_in_range}
use Rattle.block_encode.proofs.laws.law_of_blocks.Goals as goal

pub returns-clause-extend : goal.returns-clause-extend
returns-clause-extend c = uncovered_extend

pub returns-clause-uncovered : goal.returns-clause-uncovered
returns-clause-uncovered c = models_are_uncovered

pub returns-clause-in_range : goal.returns-clause-in_range
returns-clause-in_range c = block_in_range
