use Rattle.evo_explore.proofs.Unique.{run_is_one}
use Rattle.evo_explore.proofs.laws.law_of_runs.Goals as goal

pub returns : goal.returns
returns g c = run_is_one g.W.Words.gives g.W.Words.after
