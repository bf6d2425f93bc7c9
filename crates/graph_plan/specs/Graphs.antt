-- The tasks, messages and deadlines that the graphs of a TGFF file put into a plan.
use Rattle.std.specs.Prelude.{ℕ, ◌+◌, ◌-◌, ◌^◌, min, List, [], ◌∷◌, ◌++◌, length, map, fold, Option, Some, decimal}
use Rattle.std.specs.List.{flat_map}
use Rattle.spec_model.specs.Spec.{Name, SpecValue, Message, Deadline}
use Rattle.spec_model.specs.Limits.{most_number}
use Rattle.arch_reader.specs.Numbers.{at_scale}
use Rattle.tgff_reader.specs.declared.file.Graph.{Graph}
use Rattle.tgff_reader.specs.declared.file.TgffTask.{TgffTask}
use Rattle.tgff_reader.specs.declared.file.TgffArc.{TgffArc}
use Rattle.tgff_reader.specs.declared.file.TgffDeadline.{TgffDeadline}

-- the name that a name of a graph has in the plan: the graph's index in decimal, a full stop, and the name
abbrev pub name_in : ℕ → Name → Name
name_in index name = decimal index ++ 46 ∷ name

-- the name of a task of a graph
abbrev pub task_in : ℕ → TgffTask → Name
task_in index task = name_in index task.name

-- the name of an arc of a graph
abbrev pub arc_in : ℕ → TgffArc → Name
arc_in index arc = name_in index arc.name

-- the message that an arc is, where so many tasks stand before those of its graph; its hop limit and its delay are
-- those of a message for which none is stated
abbrev pub planned_message : ℕ → TgffArc → Message
planned_message first arc = record { sender = first + arc.from; receivers = (first + arc.to) ∷ []; limit = 2 ^ 63 - 1; delay = 0; quantity = 1 }

-- the deadline at the clock's scale, cut toward zero; one below zero counts as 0, and one that is too big as the
-- greatest number
abbrev pub deadline_of : ℕ → ℕ → TgffDeadline → Deadline
deadline_of clock first deadline = record { task = first + deadline.task; time = min (at_scale clock deadline.at) most_number }

-- a plan with the tasks, arcs and deadlines of one more graph
abbrev pub with_graph : ℕ → SpecValue → Graph → SpecValue
with_graph clock p g = record p {
  tasks = p.tasks ++ map (task_in g.index) g.tasks;
  message_names = p.message_names ++ map (arc_in g.index) g.arcs;
  messages = p.messages ++ map (planned_message (length p.tasks)) g.arcs;
  deadlines = p.deadlines ++ map (deadline_of clock (length p.tasks)) g.deadlines;
}

-- a plan with those of all graphs, in the order of the file
abbrev pub with_graphs : ℕ → SpecValue → List Graph → SpecValue
with_graphs clock p graphs = fold (with_graph clock) p graphs

abbrev pub kind_of_task : TgffTask → ℕ
kind_of_task task = task.kind

abbrev pub kind_of_arc : TgffArc → Option ℕ
kind_of_arc arc = Some arc.kind

-- the types of a graph's tasks, and those of its arcs
abbrev pub kinds_of_tasks : Graph → List ℕ
kinds_of_tasks g = map kind_of_task g.tasks

abbrev pub kinds_of_arcs : Graph → List (Option ℕ)
kinds_of_arcs g = map kind_of_arc g.arcs

-- the types of all tasks, in their order
abbrev pub task_kinds : List Graph → List ℕ
task_kinds graphs = flat_map kinds_of_tasks graphs

-- the types of all messages, in their order: each is that of an arc
abbrev pub message_kinds : List Graph → List (Option ℕ)
message_kinds graphs = flat_map kinds_of_arcs graphs
