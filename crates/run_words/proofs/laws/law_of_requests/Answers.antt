use Rattle.run_words.proofs.Fit.{requests_fit}
use Rattle.run_words.proofs.laws.law_of_requests.Goals as goal

pub returns : goal.returns
returns c = record { fit = requests_fit }
