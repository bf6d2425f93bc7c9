use Rattle.std.proofs.Common.{List, Contains, map, refl, sym, subst, arith}
use Rattle.spec_model.specs.Spec.{SpecValue}
use Rattle.spec_model.specs.WellFormed.{AreDistinct}
use Rattle.tgff_reader.specs.Facts.{task_name}
use Rattle.tgff_reader.specs.declared.file.TgffTask.{TgffTask}
use Rattle.graph_plan.specs.Graphs.{task_in}
use Rattle.graph_plan.proofs.Naming.{new_name}
use Rattle.graph_plan.proofs.graphs.add_tasks.Goals as goal

pub add_task-requires-clause-new : goal.add_task-requires-clause-new
add_task-requires-clause-new c =
    let g = c.args.graph.now in
    let task = c.task-item.result in
    let tasks = c.list-tasks.result.now in
    let distinct : AreDistinct (map task_name tasks) = subst (λ (ts : List TgffTask). AreDistinct (map task_name ts)) (sym c.list-tasks.ensures) c.requires.graph.tasks_distinct in
    subst (λ (p : SpecValue). Contains p.tasks (task_in g.index task) → ⊥) (sym c.loop-task.invariant)
    (new_name task_name (task_in g.index) g.index c.args.plan.now.tasks tasks c.loop-task.task-index task (λ t. refl) c.requires.graph.index c.requires.room.new_tasks distinct (omega arith)
    c.task-item.is)
