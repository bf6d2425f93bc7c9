use Rattle.front_model.proofs.Known.{begins_known, stays_known}
use Rattle.front_model.proofs.laws.law_of_known.Goals as goal

pub returns-clause-begins : goal.returns-clause-begins
returns-clause-begins c = begins_known

pub returns-clause-stays : goal.returns-clause-stays
returns-clause-stays c = stays_known
