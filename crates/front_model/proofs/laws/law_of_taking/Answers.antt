use Rattle.front_model.proofs.Files.{begins_reached, reaches_on, refusal_stays, reached_is_front}
use Rattle.front_model.proofs.laws.law_of_taking.Goals as goal

pub returns-clause-begins : goal.returns-clause-begins
returns-clause-begins c = begins_reached

pub returns-clause-goes_on : goal.returns-clause-goes_on
returns-clause-goes_on c = reaches_on

pub returns-clause-stays : goal.returns-clause-stays
returns-clause-stays c = refusal_stays

pub returns-clause-exact : goal.returns-clause-exact
returns-clause-exact c = reached_is_front
