use Rattle.genotype.proofs.Firsts.{first_along}
use Rattle.genotype.proofs.laws.law_of_first.Goals as goal

pub returns : goal.returns
returns c = first_along
