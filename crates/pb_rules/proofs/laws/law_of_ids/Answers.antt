use Rattle.pb_rules.specs.Frames.{base_of}
use Rattle.pb_rules.proofs.Given.{given-ids, given-push, derived-push}
use Rattle.pb_rules.proofs.laws.law_of_ids.Goals as goal

pub returns-clause-counted : goal.returns-clause-counted
returns-clause-counted c f g ls frame e = given-ids f (base_of f) g ls frame e

pub returns-clause-one_more : goal.returns-clause-one_more
returns-clause-one_more c f g ls ops d e k = given-push f (base_of f) g ls ops d e k

pub returns-clause-one_derived : goal.returns-clause-one_derived
returns-clause-one_derived c f g ls ops d e k = derived-push f (base_of f) g ls ops d e k
