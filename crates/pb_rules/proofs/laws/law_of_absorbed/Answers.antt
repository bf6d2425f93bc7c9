use Rattle.pb_rules.proofs.Closed.{absorbed_among, unabsorbed_among, unabsorbed_not, contradiction_absorbed}
use Rattle.pb_rules.proofs.laws.law_of_absorbed.Goals as goal

pub returns-clause-stays : goal.returns-clause-stays
returns-clause-stays c = absorbed_among

pub returns-clause-part : goal.returns-clause-part
returns-clause-part c = unabsorbed_among

pub returns-clause-not_both : goal.returns-clause-not_both
returns-clause-not_both c = unabsorbed_not

pub returns-clause-contradiction : goal.returns-clause-contradiction
returns-clause-contradiction c = contradiction_absorbed
