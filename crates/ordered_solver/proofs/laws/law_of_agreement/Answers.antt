use Rattle.ordered_solver.proofs.Agreeing.{agrees_new, agrees_constraint, agrees-cover}
use Rattle.ordered_solver.proofs.laws.law_of_agreement.Goals as goal

pub returns : goal.returns
returns c = record {
  new = agrees_new;
  variables = λ f s variables a. record { frame = a.frame; fits = a.fits; given = a.given; legal = a.legal; stand = a.stand };
  constraint = agrees_constraint;
  cover = agrees-cover;
}
