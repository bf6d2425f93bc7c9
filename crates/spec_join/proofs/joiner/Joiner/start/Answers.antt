use Rattle.std.proofs.Common.{◌≡◌, length, ap, sym, ◌∙◌, arith}
use Rattle.spec_model.specs.Spec.{SpecValue}
use Rattle.graph_plan.specs.Graphs.{with_graphs, task_kinds, message_kinds}
use Rattle.spec_join.specs.Joining.{SettingsValue}
use Rattle.spec_join.proofs.Front.{graphs_keep, as_many_tasks, as_many_messages}
use Rattle.spec_join.proofs.joiner.Joiner.start.Goals as goal

pub invariant_of-result : goal.invariant_of-result
invariant_of-result c =
    let p = c.settings.inside.plan in
    let clock = c.scale_or_0-clock.result in
    let gs = c.args.tgff.now.graphs in
    let made : c.in_ok-plan.plan ≡ with_graphs clock p gs = c.in_ok-plan.ensures in
    let objectives : length c.in_ok-plan.plan.objectives ≡ length p.objectives = ap (λ (s : SpecValue). length s.objectives) made ∙ ap length (graphs_keep clock p gs).objectives in
    let empty : p ≡ c.in_ok-settings.settings.plan = sym (ap (λ (s : SettingsValue). s.plan) (sym c.settings.view_is)) in
    let none : length p.messages ≡ 0 = ap (λ (s : SpecValue). length s.messages) empty ∙ ap (λ (s : SettingsValue). length s.plan.messages) c.in_ok-settings.ensures in
    let messages : length c.in_ok-plan.plan.messages ≡ length (with_graphs clock p gs).messages = ap (λ (s : SpecValue). length s.messages) made in
    let tasks : length c.in_ok-plan.plan.tasks ≡ length (with_graphs clock p gs).tasks = ap (λ (s : SpecValue). length s.tasks) made in
    let kinds : length c.in_ok-message_kinds.message_kinds.items ≡ length (message_kinds gs) = ap length c.in_ok-message_kinds.ensures in
    let types : length c.in_ok-task_kinds.task_kinds.items ≡ length (task_kinds gs) = ap length c.in_ok-task_kinds.ensures in (
      c.settings.invariant.0 ∙ sym objectives,
      c.settings.invariant.1 ∙ sym objectives,
      omega (arith, kinds, messages, none, as_many_messages clock p gs),
      omega (arith, types, tasks, as_many_tasks clock p gs),
      omega arith,
    )
