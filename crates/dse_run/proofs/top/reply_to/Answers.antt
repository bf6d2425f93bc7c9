use Rattle.run_words.specs.Values.{request_value}
use Rattle.dse_run.proofs.Answering.{answered}
use Rattle.dse_run.proofs.top.reply_to.Goals as goal

pub returns-clause-answer : goal.returns-clause-answer
returns-clause-answer g c =
    answered (request_value c.args.request.now) _ _ (g.D.Desk.files c.args.desk.now) _ _ c.in_ok-inputs.inputs c.in_ok-tried.tried _
    c.names_of-names.ensures c.in_ok-inputs.ensures.loaded c.in_ok-inputs.ensures.files c.in_ok-tried.ensures.comes c.in_ok-reply.ensures
