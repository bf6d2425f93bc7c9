use Rattle.front_lists.proofs.Searching.{first_model_is_next, no_model_is_whole, next_is_found}
use Rattle.front_lists.proofs.Few.{found_are_few}
use Rattle.front_lists.proofs.Refuting.{found_are_shaped}
use Rattle.front_lists.proofs.laws.law_of_searches.Goals as goal

pub returns-clause-next : goal.returns-clause-next
returns-clause-next c = first_model_is_next

pub returns-clause-whole : goal.returns-clause-whole
returns-clause-whole c = no_model_is_whole

pub returns-clause-found : goal.returns-clause-found
returns-clause-found c = next_is_found

pub returns-clause-few : goal.returns-clause-few
returns-clause-few c = found_are_few

pub returns-clause-shaped : goal.returns-clause-shaped
returns-clause-shaped c = found_are_shaped
