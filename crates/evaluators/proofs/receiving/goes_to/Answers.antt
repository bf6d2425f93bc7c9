use Rattle.evaluators.proofs.Choosing.{goes_by}
use Rattle.evaluators.proofs.receiving.goes_to.Goals as goal

pub returns : goal.returns
returns c = goes_by c.args.spec.now c.args.t.0 c.args.m.0 c.receivers.result.now c.contains.result c.receivers.ensures c.contains.ensures.value
