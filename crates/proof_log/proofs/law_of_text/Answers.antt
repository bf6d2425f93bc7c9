use Rattle.proof_log.proofs.Texts.{text_begins, text_goes_on}
use Rattle.proof_log.proofs.law_of_text.Goals as goal

pub returns-clause-begins : goal.returns-clause-begins
returns-clause-begins c = text_begins

pub returns-clause-goes_on : goal.returns-clause-goes_on
returns-clause-goes_on c = text_goes_on
