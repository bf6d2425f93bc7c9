use Rattle.pb_rules.proofs.Sums.{add-holds}
use Rattle.pb_rules.proofs.Sound.{times-holds, divide-holds, saturate-holds, weaken-holds}
use Rattle.cutting_planes.proofs.law_of_rules.Goals as goal

pub returns-clause-sums : goal.returns-clause-sums
returns-clause-sums c = add-holds

pub returns-clause-multiples : goal.returns-clause-multiples
returns-clause-multiples c = times-holds

pub returns-clause-quotients : goal.returns-clause-quotients
returns-clause-quotients c v n a p h = divide-holds v n a p h

pub returns-clause-saturated : goal.returns-clause-saturated
returns-clause-saturated c = saturate-holds

pub returns-clause-weaker : goal.returns-clause-weaker
returns-clause-weaker c = weaken-holds
