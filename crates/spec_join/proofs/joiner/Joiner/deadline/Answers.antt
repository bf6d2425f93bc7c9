use Rattle.spec_join.proofs.Refusing.{on_ok, deadline_accepted}
use Rattle.spec_join.proofs.joiner.Joiner.deadline.Goals as goal

pub returns-clause-accepted : goal.returns-clause-accepted
returns-clause-accepted c = on_ok c.match-deadline.result _ (deadline_accepted c.args.self.now c.args.task.now c.args.at c.in-Some.due.0 c.in-Some.ensures)
