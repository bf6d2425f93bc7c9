use Rattle.front_lists.proofs.Refuting.{undominated_refute, texts_are_accepted}
use Rattle.front_lists.proofs.laws.law_of_refutations.Goals as goal

pub returns-clause-refute : goal.returns-clause-refute
returns-clause-refute c = undominated_refute

pub returns-clause-accepted : goal.returns-clause-accepted
returns-clause-accepted c = texts_are_accepted
