use Rattle.std.proofs.Common.{◌∙◌, ◌++◌, ℕ, List, ap, length}
use Rattle.make_run.specs.Saying.{run_text}
use Rattle.make_run.proofs.Ran.{explores}
use Rattle.make_run.proofs.exploring.explored.Goals as goal

pub returns : goal.returns
returns c =
    let run = c.in_ok-run.run' in
    explores c.args.number c.args.rounds c.args.spec.now c.in_ok-run.ensures.run.last run run.end c.ending_of.result c.put_run.new.out.items
    c.in_ok-run.ensures.run.run_is c.in_ok-run.ensures.infeasible c.ending_of.ensures
    (c.in_ok-put_run.ensures ∙ ap (λ (t : List ℕ). t ++ run_text (length run.history) run.archive.members run.end) c.requires.made)
