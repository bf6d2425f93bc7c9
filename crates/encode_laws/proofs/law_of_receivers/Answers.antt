use Rattle.encode_laws.proofs.Laws.{covered_are_reached}
use Rattle.encode_laws.proofs.law_of_receivers.Goals as goal

pub returns : goal.returns
returns c = covered_are_reached
