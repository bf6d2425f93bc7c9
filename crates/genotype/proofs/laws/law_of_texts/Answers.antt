use Rattle.genotype.proofs.Written.{text_fine, text_stated, text_back}
use Rattle.genotype.proofs.laws.law_of_texts.Goals as goal

pub returns-clause-fine : goal.returns-clause-fine
returns-clause-fine c = text_fine

pub returns-clause-stated : goal.returns-clause-stated
returns-clause-stated c = text_stated

pub returns-clause-read_back : goal.returns-clause-read_back
returns-clause-read_back c = text_back
