use Rattle.impl_rules.proofs.Receivers.{is_receiver_found}
use Rattle.impl_rules.proofs.walks.is_receiver.Goals as goal

pub returns : goal.returns
returns c = is_receiver_found c.args.t.0 c.receivers.result.now _ c.contains.result c.receivers.ensures c.contains.ensures.value
