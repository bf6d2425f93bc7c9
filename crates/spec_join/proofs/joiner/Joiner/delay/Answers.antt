use Rattle.spec_join.proofs.Unknown.{delay_found}
use Rattle.spec_join.proofs.joiner.Joiner.delay.Goals as goal

pub returns-in-Some-clause-accepted : goal.returns-in-Some-clause-accepted
returns-in-Some-clause-accepted c = delay_found c.change.result c.args.self.now c.args.message.now c.args.amount c.in-Some.name c.list.result.now c.in-Some.is c.list.ensures c.change.ensures.accepted
