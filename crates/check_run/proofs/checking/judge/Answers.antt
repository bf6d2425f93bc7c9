use Rattle.std.proofs.Common.{ℕ, List}
use Rattle.result_text.specs.Fronts.{front_of}
use Rattle.check_run.specs.Judging.{Judges}
use Rattle.check_run.proofs.Contents.{any_content}
use Rattle.check_run.proofs.checking.judge.Goals as goal

pub returns-in_ok-outcome-in-Err-Refused-clause-judged : goal.returns-in_ok-outcome-in-Err-Refused-clause-judged
returns-in_ok-outcome-in-Err-Refused-clause-judged g c =
    any_content (g.D.Desk.files c.args.desk.now) c.args.name.now (λ (proof : List ℕ). Judges c.args.spec.now (front_of c.args.front.now) proof c.in_ok-outcome-in-Err-Refused.outcome)
    c.in_ok-outcome-in-Err-Refused.ensures
