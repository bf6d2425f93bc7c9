use Rattle.proof_words.proofs.Spellings.{read_back, says}
use Rattle.proof_words.proofs.laws.law_of_words.Goals as goal

pub returns-clause-read_back : goal.returns-clause-read_back
returns-clause-read_back c = read_back

pub returns-clause-spelling : goal.returns-clause-spelling
returns-clause-spelling c word op e = (says word op e).spelling

pub returns-clause-writable : goal.returns-clause-writable
returns-clause-writable c word op e = (says word op e).writable
