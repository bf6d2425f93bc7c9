use Rattle.std.proofs.Common.{◌∙◌, ap, sym}
use Rattle.dse_run.specs.Run.{ReplyValue}
use Rattle.dse_run.proofs.Answering.{budget_asked}
use Rattle.dse_run.proofs.top.attempt.Goals as goal

pub returns-clause-budget : goal.returns-clause-budget
returns-clause-budget g c = λ status.
    budget_asked _ _ _ _ (g.D.Desk.files c.args.desk.now) c.in_ok-reply.reply c.in_ok-reply.ensures.fit c.in_ok-reply.ensures.answer
    (sym (ap (λ (r : ReplyValue). r.status) c.reply.view_is) ∙ status)
