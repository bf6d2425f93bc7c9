use Rattle.evo_explore.proofs.Logs.{decodings_stay_shown}
use Rattle.evo_explore.proofs.laws.law_of_logs.Goals as goal

pub returns : goal.returns
returns c = decodings_stay_shown
