use Rattle.proof_log.proofs.Reading.{read_exactly, legal_read_back, honest_carries, shown_carries}
use Rattle.proof_log.proofs.law_of_files.Goals as goal

pub returns-clause-read : goal.returns-clause-read
returns-clause-read c = read_exactly

pub returns-clause-legal : goal.returns-clause-legal
returns-clause-legal c = legal_read_back

pub returns-clause-honest : goal.returns-clause-honest
returns-clause-honest c = honest_carries

pub returns-clause-shown : goal.returns-clause-shown
returns-clause-shown c = shown_carries
