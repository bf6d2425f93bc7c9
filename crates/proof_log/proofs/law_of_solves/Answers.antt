use Rattle.proof_log.proofs.Solves.{begins_honest, honest_cover, honest_solve}
use Rattle.proof_log.proofs.law_of_solves.Goals as goal

pub returns-clause-begins : goal.returns-clause-begins
returns-clause-begins c = begins_honest

pub returns-clause-cover : goal.returns-clause-cover
returns-clause-cover c = honest_cover

pub returns-clause-solve : goal.returns-clause-solve
returns-clause-solve c = honest_solve
