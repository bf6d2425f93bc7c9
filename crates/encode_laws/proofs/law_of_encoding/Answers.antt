use Rattle.encode_laws.proofs.Laws.{models_are_valid}
use Rattle.encode_laws.proofs.law_of_encoding.Goals as goal

pub returns : goal.returns
returns c = models_are_valid
