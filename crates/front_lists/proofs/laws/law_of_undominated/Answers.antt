use Rattle.front_lists.proofs.Kept.{found_have_below, undominated_are_claim, whole_is_front}
use Rattle.front_lists.proofs.Unique.{undominated_is_one}
use Rattle.front_lists.proofs.laws.law_of_undominated.Goals as goal

pub returns-clause-below : goal.returns-clause-below
returns-clause-below c = found_have_below

pub returns-clause-claim : goal.returns-clause-claim
returns-clause-claim c = undominated_are_claim

pub returns-clause-one : goal.returns-clause-one
returns-clause-one c = undominated_is_one

pub returns-clause-front : goal.returns-clause-front
returns-clause-front c = whole_is_front
