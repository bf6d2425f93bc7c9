use Rattle.std.proofs.lemmas.Result.{IfOk-weaker}
use Rattle.make_run.proofs.Ran.{runs_alone}
use Rattle.make_run.proofs.exploring.run_of.Goals as goal

pub returns-clause-run : goal.returns-clause-run
returns-clause-run c =
    IfOk-weaker c.explore.result _ _
    (λ r h. runs_alone c.args.spec.now c.args.seed c.args.rounds _ _ c.seed_from_u64-words.result c.explore.new.words r c.new.ensures.items c.seed_from_u64-words.ensures h)
    c.explore.ensures.run
