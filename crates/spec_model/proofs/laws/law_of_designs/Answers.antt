use Rattle.spec_model.proofs.Vectors.{same_vector}
use Rattle.spec_model.proofs.Along.{IsValid-along}
use Rattle.spec_model.proofs.laws.law_of_designs.Goals as goal

pub returns-clause-vector : goal.returns-clause-vector
returns-clause-vector c = same_vector

pub returns-clause-valid : goal.returns-clause-valid
returns-clause-valid c = IsValid-along
