use Rattle.tgff_reader.proofs.Reached.{reaches_tells}
use Rattle.tgff_reader.proofs.laws.law_of_reaching.Goals as goal

pub returns : goal.returns
returns c = reaches_tells
