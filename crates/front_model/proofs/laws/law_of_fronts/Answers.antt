use Rattle.front_model.proofs.Exact.{claim_is_front, accepted_is_front, accepted_text_is_front}
use Rattle.front_model.proofs.laws.law_of_fronts.Goals as goal

pub returns-clause-claims : goal.returns-clause-claims
returns-clause-claims c = claim_is_front

pub returns-clause-values : goal.returns-clause-values
returns-clause-values c = accepted_is_front

pub returns-clause-texts : goal.returns-clause-texts
returns-clause-texts c = accepted_text_is_front
