use Rattle.front_lists.proofs.Ones.{found_is_one, whole_is_longest}
use Rattle.front_lists.proofs.laws.law_of_found_lists.Goals as goal

pub returns-clause-one : goal.returns-clause-one
returns-clause-one c = found_is_one

pub returns-clause-longest : goal.returns-clause-longest
returns-clause-longest c = whole_is_longest
