use Rattle.made_laws.proofs.Numbers.{made_short, made_read}
use Rattle.made_laws.proofs.law_of_made_text.Goals as goal

pub returns : goal.returns
returns c = record { short = made_short; read = made_read }
