-- What stands after a line that breaks no rule.
use Rattle.std.specs.Prelude.{ℕ, ◌+◌, List, [], ◌∷◌, ◌++◌, Bool, true, false, if◌then◌else◌, Option, Some, None}
use Rattle.line_words.specs.Rules.{Words, Statement}
use Rattle.file_bricks.specs.Numbers.{read_or, whole_in, decimal_in}
use Rattle.file_bricks.specs.Words.{word_at}
use Rattle.tgff_reader.specs.Words.{first}
use Rattle.tgff_reader.specs.Lines.{is_opening, block_name, block_index, is_graph_name, is_closing, keyword_of}
use Rattle.tgff_reader.specs.Faults.{place_of}
use Rattle.tgff_reader.specs.declared.keyword.Keyword.{Keyword}
use Rattle.tgff_reader.specs.declared.keyword.Keyword.TheVariants.{Period, Task, Arc, HardDeadline, SoftDeadline}
use Rattle.tgff_reader.specs.declared.file.Graph.{Graph}
use Rattle.tgff_reader.specs.declared.file.Table.{Table}
use Rattle.tgff_reader.specs.declared.file.TgffTask.{TgffTask}
use Rattle.tgff_reader.specs.declared.file.TgffArc.{TgffArc}
use Rattle.tgff_reader.specs.declared.file.TgffDeadline.{TgffDeadline}
use Rattle.tgff_reader.specs.declared.state.Blocks.{Blocks}
use Rattle.tgff_reader.specs.declared.state.Open.{Open}
use Rattle.tgff_reader.specs.declared.state.Open.TheVariants.{Outside, InGraph, InTable}
use Rattle.tgff_reader.specs.declared.state.State.{State}

-- ---- blocks

-- a graph of which nothing is stated
abbrev pub new_graph : ℕ → Graph
new_graph index = record { index = index; period = None; tasks = []; arcs = []; deadlines = [] }

-- a table without rows
abbrev pub new_table : List ℕ → ℕ → Table
new_table name index = record { name = name; index = index; rows = [] }

-- a block is open that has nothing yet
abbrev pub opened : List ℕ → ℕ → Open
opened name index = if is_graph_name name then InGraph (new_graph index) else InTable (new_table name index)

-- what is open after a line outside a block
abbrev pub open_after : Words → Open
open_after ws = if is_opening ws then opened (block_name ws) (read_or 0 (block_index ws)) else Outside

-- a graph is closed
abbrev pub with_graph : Blocks → Graph → Blocks
with_graph blocks graph = record blocks { graphs = blocks.graphs ++ graph ∷ [] }

-- a table is closed
abbrev pub with_table : Blocks → Table → Blocks
with_table blocks table = record blocks { tables = blocks.tables ++ table ∷ [] }

-- ---- the lines of a task graph

-- the period is the last one that is stated
abbrev pub with_period : Graph → Words → Graph
with_period graph ws = record graph { period = Some (decimal_in (word_at ws 1)) }

-- the task of a line
abbrev pub task_of : Words → TgffTask
task_of ws = record { name = word_at ws 1; kind = whole_in (word_at ws 3) }

-- one task more
abbrev pub with_task : Graph → Words → Graph
with_task graph ws = record graph { tasks = graph.tasks ++ task_of ws ∷ [] }

-- the arc of a line, between tasks of the graph
abbrev pub arc_of : List TgffTask → Words → TgffArc
arc_of tasks ws = record { name = word_at ws 1; from = place_of tasks (word_at ws 3); to = place_of tasks (word_at ws 5); kind = whole_in (word_at ws 7) }

-- one arc more
abbrev pub with_arc : Graph → Words → Graph
with_arc graph ws = record graph { arcs = graph.arcs ++ arc_of graph.tasks ws ∷ [] }

-- the deadline of a line, for a task of the graph
abbrev pub deadline_of : List TgffTask → Bool → Words → TgffDeadline
deadline_of tasks hard ws = record { task = place_of tasks (word_at ws 3); at = decimal_in (word_at ws 5); hard = hard }

-- one deadline more
abbrev pub with_deadline : Graph → Bool → Words → Graph
with_deadline graph hard ws = record graph { deadlines = graph.deadlines ++ deadline_of graph.tasks hard ws ∷ [] }

-- the graph after a line that doesn't close it
abbrev pub graph_after : Graph → Words → Option Keyword → Graph
graph_after graph ws None = graph
graph_after graph ws (Some Period) = with_period graph ws
graph_after graph ws (Some Task) = with_task graph ws
graph_after graph ws (Some Arc) = with_arc graph ws
graph_after graph ws (Some HardDeadline) = with_deadline graph true ws
graph_after graph ws (Some SoftDeadline) = with_deadline graph false ws

-- how many tasks and arcs there are then
abbrev pub blocks_after : Blocks → Option Keyword → Blocks
blocks_after blocks (Some Task) = record blocks { tasks = blocks.tasks + 1 }
blocks_after blocks (Some Arc) = record blocks { arcs = blocks.arcs + 1 }
blocks_after blocks keyword = blocks

-- ---- all lines

-- what stands after a line in a task graph
abbrev pub in_graph : Blocks → Graph → Words → State
in_graph blocks graph ws = if is_closing ws
    then record { current = Outside; blocks = with_graph blocks graph }
    else record { current = InGraph (graph_after graph ws (keyword_of (first ws))); blocks = blocks_after blocks (keyword_of (first ws)) }

-- a row of a table is the words of its line
abbrev pub with_row : Table → Words → Table
with_row table ws = record table { rows = table.rows ++ record { words = ws } ∷ [] }

-- what stands after a line in a table
abbrev pub in_table : Blocks → Table → Words → State
in_table blocks table ws = if is_closing ws
    then record { current = Outside; blocks = with_table blocks table }
    else record { current = InTable (with_row table ws); blocks = blocks }

-- a line, by the block that is open
abbrev pub after_in : Open → Blocks → Words → State
after_in Outside blocks ws = record { current = open_after ws; blocks = blocks }
after_in (InGraph graph) blocks ws = in_graph blocks graph ws
after_in (InTable table) blocks ws = in_table blocks table ws

-- one line more
abbrev pub after : State → Words → State
after state ws = after_in state.current state.blocks ws

-- before the first line no block is there
abbrev pub start : State
start = record { current = Outside; blocks = record { graphs = []; tables = []; tasks = 0; arcs = 0 } }

-- some lines more
abbrev pub after_all : State → List Statement → State
after_all state [] = state
after_all state (s ∷ more) = after_all (after state s.words) more

-- what stands after the lines of a file
abbrev pub state_of : List Statement → State
state_of statements = after_all start statements
