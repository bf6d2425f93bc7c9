use Rattle.made_laws.proofs.Spelled.{spelled_is_read}
use Rattle.made_laws.proofs.law_of_spelled_lines.Goals as goal

pub returns : goal.returns
returns c = spelled_is_read
