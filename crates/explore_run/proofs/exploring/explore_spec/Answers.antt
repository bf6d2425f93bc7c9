use Rattle.std.proofs.Common.{Result, map, sym, subst}
use Rattle.line_words.specs.declared.refusals.ReadFault.{ReadFault}
use Rattle.spec_model.specs.Spec.{SpecValue}
use Rattle.run_base.specs.After.{GoesOn}
use Rattle.explore_run.specs.Tools.{ToolsValue}
use Rattle.explore_run.specs.Exploring.{ExploresSpec}
use Rattle.explore_run.specs.Wanting.{wanted_value}
use Rattle.explore_run.proofs.exploring.explore_spec.Goals as goal

pub returns-in-Ok-clause-comes : goal.returns-in-Ok-clause-comes
returns-in-Ok-clause-comes g c =
    let items = c.args.tools.now.items in
    let tools : ToolsValue = record {
      tags = map (λ t. (goal.Evaluator-dyn g (t.vtable, t.value)).text t.value) items;
      calls = map (λ t. (goal.Evaluator-dyn g (t.vtable, t.value)).calls t.value) items;
      values = λ s f. map (λ t. (goal.Evaluator-dyn g (t.vtable, t.value)).value t.value s f) items;
    } in
    subst (λ (read : Result SpecValue ReadFault). GoesOn read (ExploresSpec (wanted_value c.args.wanted) tools
    (map (λ t. (goal.Evaluator-dyn g (t.vtable, t.value)).calls t.value) c.explore_with.new.tools.items)) c.explore_with.result) (sym c.in-Ok.is) c.explore_with.ensures.comes
