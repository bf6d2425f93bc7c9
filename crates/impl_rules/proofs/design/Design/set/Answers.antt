use Rattle.impl_rules.proofs.BytesLemmas.{bits_in-set}
use Rattle.impl_rules.proofs.design.Design.set.Goals as goal

pub returns : goal.returns
returns c = bits_in-set c.self.inside.bytes.items c.args.self.now c.args.v c.from.result c.args.bit c.from.ensures c.self.view_is
