use Rattle.tgff_reader.proofs.Places.{tells}
use Rattle.std.proofs.Common.{◌∙◌}
use Rattle.tgff_reader.proofs.tables.Tables.has.Goals as goal

pub returns : goal.returns
returns c = c.is_some.ensures ∙ tells c.args.self.now c.args.name.now c.args.index c.find.result c.find.ensures
