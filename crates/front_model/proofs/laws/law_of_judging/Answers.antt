use Rattle.front_model.proofs.Files.{judged_exactly}
use Rattle.front_model.proofs.Pieces.{cut_is_pieces, ended_are_first}
use Rattle.front_model.proofs.laws.law_of_judging.Goals as goal

pub returns-clause-judged : goal.returns-clause-judged
returns-clause-judged c = judged_exactly

pub returns-clause-cut : goal.returns-clause-cut
returns-clause-cut c = cut_is_pieces

pub returns-clause-ended : goal.returns-clause-ended
returns-clause-ended c = ended_are_first
