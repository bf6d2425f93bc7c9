-- What holds of each file of task graphs and tables that was read.
use Rattle.std.specs.Prelude.{ℕ, ◌<◌, ◌≤◌, ◌^◌, List, length, map, All, sum_by}
use Rattle.std.specs.Option.{IfSome}
use Rattle.line_words.specs.Limits.{most_name_bytes}
use Rattle.file_bricks.specs.Words.{IsWord}
use Rattle.file_bricks.specs.Bounds.{IsAmount}
use Rattle.spec_model.specs.Limits.{most_tasks, most_messages}
use Rattle.spec_model.specs.WellFormed.{HasCycle, AreDistinct}
use Rattle.tgff_reader.specs.Reaching.{messages_of}
use Rattle.tgff_reader.specs.declared.file.Graph.{Graph}
use Rattle.tgff_reader.specs.declared.file.Table.{Table}
use Rattle.tgff_reader.specs.declared.file.Row.{Row}
use Rattle.tgff_reader.specs.declared.file.TgffTask.{TgffTask}
use Rattle.tgff_reader.specs.declared.file.TgffArc.{TgffArc}
use Rattle.tgff_reader.specs.declared.file.TgffDeadline.{TgffDeadline}

-- a file's graphs and tables
pub record TgffValue : Type 0 where
  pub graphs : List Graph
  pub tables : List Table

-- the name of a task or of an arc: a word, and not too long
pub record IsName (name : List ℕ) : Type 0 where
  pub word : IsWord name
  pub short : length name ≤ most_name_bytes

-- a task: its name, and a type below 2 ^ 63
pub record IsTask (task : TgffTask) : Type 0 where
  pub named : IsName task.name
  pub kind : task.kind < 2 ^ 63

-- an arc of a graph with so many tasks
pub record IsArc (tasks : ℕ) (arc : TgffArc) : Type 0 where
  pub named : IsName arc.name
  pub from : arc.from < tasks
  pub to : arc.to < tasks
  pub kind : arc.kind < 2 ^ 63

-- a deadline of a graph with so many tasks, at a time within the bound of decimals
pub record IsDeadline (tasks : ℕ) (deadline : TgffDeadline) : Type 0 where
  pub task : deadline.task < tasks
  pub at : IsAmount deadline.at

-- the name of a task
abbrev pub task_name : TgffTask → List ℕ
task_name task = task.name

-- the name of an arc
abbrev pub arc_name : TgffArc → List ℕ
arc_name arc = arc.name

-- A graph: its period is within the bound of decimals, no two tasks have one name and no two arcs, arcs and deadlines are
-- between tasks that are there, and no chain of arcs leads from a task back to it.
pub record IsGraph (graph : Graph) : Type 0 where
  pub index : graph.index < 2 ^ 63
  pub period : IfSome graph.period IsAmount
  pub tasks_in : All IsTask graph.tasks
  pub tasks_distinct : AreDistinct (map task_name graph.tasks)
  pub arcs_in : All (IsArc (length graph.tasks)) graph.arcs
  pub arcs_distinct : AreDistinct (map arc_name graph.arcs)
  pub no_cycle : HasCycle (messages_of graph.arcs) → ⊥
  pub deadlines_in : All (IsDeadline (length graph.tasks)) graph.deadlines

-- a row: words, of which there is one at least
pub record IsRow (row : Row) : Type 0 where
  pub some : 0 < length row.words
  pub words : All IsWord row.words

-- a table: a name that is a word, an index below 2 ^ 63, and rows
pub record IsTable (table : Table) : Type 0 where
  pub named : IsWord table.name
  pub index : table.index < 2 ^ 63
  pub rows : All IsRow table.rows

-- the index of a graph
abbrev pub graph_index : Graph → ℕ
graph_index graph = graph.index

-- the name and the index of a table
abbrev pub table_key : Table → List ℕ × ℕ
table_key table = (table.name, table.index)

-- how many tasks a graph has
abbrev pub task_count : Graph → ℕ
task_count graph = length graph.tasks

-- how many arcs a graph has
abbrev pub arc_count : Graph → ℕ
arc_count graph = length graph.arcs

-- Each graph and each table is well formed, no two graphs have one index, no two tables one name and index, and all
-- graphs together have at most 1,024 tasks and 2,048 arcs.
pub record IsTgff (file : TgffValue) : Type 0 where
  pub graphs_in : All IsGraph file.graphs
  pub graphs_distinct : AreDistinct (map graph_index file.graphs)
  pub tables_in : All IsTable file.tables
  pub tables_distinct : AreDistinct (map table_key file.tables)
  pub few_tasks : sum_by task_count file.graphs ≤ most_tasks
  pub few_arcs : sum_by arc_count file.graphs ≤ most_messages
