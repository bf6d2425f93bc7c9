use Rattle.pb_rules.proofs.Closed.{closed_goes, model_closed, closed_among}
use Rattle.pb_rules.proofs.laws.law_of_closed.Goals as goal

pub returns-clause-takes : goal.returns-clause-takes
returns-clause-takes c = closed_goes

pub returns-clause-model : goal.returns-clause-model
returns-clause-model c = model_closed

pub returns-clause-part : goal.returns-clause-part
returns-clause-part c = closed_among
