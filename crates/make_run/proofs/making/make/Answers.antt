use Rattle.make_run.specs.Making.{MakesFile}
use Rattle.make_run.specs.Wanting.{wanted_value}
use Rattle.make_run.proofs.Read.{without_memory}
use Rattle.make_run.proofs.making.make.Goals as goal

pub returns-in_err-outcome : goal.returns-in_err-outcome
returns-in_err-outcome c = without_memory (MakesFile (wanted_value c.args.wanted)) c.from_residual-in_err-outcome.result c.from_residual-in_err-outcome.ensures.1
