use Rattle.proof_words.proofs.Legal.{lines_are, line_back}
use Rattle.proof_words.proofs.laws.law_of_legal_lines.Goals as goal

pub returns-clause-writable : goal.returns-clause-writable
returns-clause-writable c = lines_are

pub returns-clause-read_back : goal.returns-clause-read_back
returns-clause-read_back c = line_back
