use Rattle.spec_model.proofs.Vectors.{at_most_itself, at_most_through, at_most_both, at_most_or_not}
use Rattle.spec_model.proofs.laws.law_of_vectors.Goals as goal

pub returns-clause-itself : goal.returns-clause-itself
returns-clause-itself c = at_most_itself

pub returns-clause-through : goal.returns-clause-through
returns-clause-through c = at_most_through

pub returns-clause-both : goal.returns-clause-both
returns-clause-both c = at_most_both

pub returns-clause-or_not : goal.returns-clause-or_not
returns-clause-or_not c = at_most_or_not
