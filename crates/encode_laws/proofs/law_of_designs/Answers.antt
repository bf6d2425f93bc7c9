use Rattle.encode_laws.proofs.Laws.{routed_are_models}
use Rattle.encode_laws.proofs.law_of_designs.Goals as goal

pub returns : goal.returns
returns c = routed_are_models
