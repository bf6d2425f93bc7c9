use Rattle.std.proofs.Common.{◌≡◌, ◌∙◌, ap, map}
use Rattle.explore_run.specs.Tools.{ToolsValue}
use Rattle.explore_run.specs.Wanting.{wanted_value}
use Rattle.explore_run.proofs.Found.{finds_from, members_sized}
use Rattle.explore_run.proofs.exploring.find_archive.Goals as goal

pub outcome_of-requires-clause-sized : goal.outcome_of-requires-clause-sized
outcome_of-requires-clause-sized g c =
    let run = c.in_ok-run.run' in
    members_sized c.args.spec.now _ c.seed_from_u64-words.result c.explore.new.words c.in_ok-params.params.rounds run run.end c.in_ok-run.ensures.run

pub returns-clause-finds : goal.returns-clause-finds
returns-clause-finds g c =
    let run = c.in_ok-run.run' in
    let items = c.args.tools.now.items in
    let tools : ToolsValue = record {
      tags = map (λ t. (goal.Evaluator-dyn g (t.vtable, t.value)).text t.value) items;
      calls = map (λ t. (goal.Evaluator-dyn g (t.vtable, t.value)).calls t.value) items;
      values = λ s f. map (λ t. (goal.Evaluator-dyn g (t.vtable, t.value)).value t.value s f) items;
    } in
    finds_from c.law_of_files.ensures.legal c.law_of_logs.ensures c.args.spec.now (c.law_of_frames.ensures.frame c.args.spec.now c.facts.ensures)
    (wanted_value c.args.wanted) tools _ c.in_ok-params.params.rounds c.in_ok-params.params.chosen.items _ c.seed_from_u64-words.result c.explore.new.words run c.in_ok-outcome.outcome
    c.in_ok-params.ensures.rounds c.in_ok-params.ensures.chosen (ap (λ ts. map (λ t. (goal.Evaluator-dyn g (t.vtable, t.value)).text t.value) ts) c.deref.ensures.value ∙ c.in_ok-run.ensures.tags)
    c.seed_from_u64-words.ensures
    c.in_ok-run.ensures.run c.in_ok-run.ensures.infeasible c.in_ok-run.ensures.log c.in_ok-run.ensures.counted
    c.in_ok-outcome.ensures.ending c.in_ok-outcome.ensures.says c.in_ok-outcome.ensures.writes
