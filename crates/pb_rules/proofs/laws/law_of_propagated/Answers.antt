use Rattle.pb_rules.proofs.Closed.{propagated_follows, propagated_among}
use Rattle.pb_rules.proofs.laws.law_of_propagated.Goals as goal

pub returns-clause-follows : goal.returns-clause-follows
returns-clause-follows c = propagated_follows

pub returns-clause-stays : goal.returns-clause-stays
returns-clause-stays c = propagated_among
