use Rattle.encode_laws.proofs.Laws.{valid_are_models}
use Rattle.encode_laws.proofs.law_of_valid_designs.Goals as goal

pub returns : goal.returns
returns c = valid_are_models
