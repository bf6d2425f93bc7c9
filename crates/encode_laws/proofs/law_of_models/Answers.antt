use Rattle.encode_laws.proofs.Laws.{models_are_routed}
use Rattle.encode_laws.proofs.law_of_models.Goals as goal

pub returns : goal.returns
returns c = models_are_routed
