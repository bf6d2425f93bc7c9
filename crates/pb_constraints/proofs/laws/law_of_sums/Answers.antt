use Rattle.pb_constraints.proofs.Adding.{sum_is_normal}
use Rattle.pb_constraints.proofs.laws.law_of_sums.Goals as goal

pub returns : goal.returns
returns c = sum_is_normal
