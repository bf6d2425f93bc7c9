-- What a line is refused for, after the lines before it: one test for each cause.
use Rattle.std.specs.Prelude.{ℕ, List, [], ◌∷◌, ◌++◌, length, Bool, true, false, ◌||◌, not, ◌==◌, nat_lt, nat_le, if◌then◌else◌, Option, Some, None, Result, Ok, Err}
use Rattle.std.specs.List.{list_any, position_or_len}
use Rattle.std.specs.Str.{bytes_eq}
use Rattle.spec_model.specs.Limits.{most_tasks, most_messages}
use Rattle.line_words.specs.Limits.{most_name_bytes}
use Rattle.line_words.specs.Numbers.{whole_of}
use Rattle.line_words.specs.Decimal.{decimal_of}
use Rattle.line_words.specs.Rules.{Words, Test}
use Rattle.line_words.specs.declared.numbers.NumberFault.{NumberFault}
use Rattle.line_words.specs.declared.refusals.Why.TheVariants.{BadStatement, BadNumber, UnknownName, RepeatedName, Unclosed, StrayClose, TooBig, Cyclic, Limit}
use Rattle.line_words.specs.declared.refusals.What.TheVariants.{NameBytes, Tasks, Messages}
use Rattle.file_bricks.specs.Numbers.{is_bad, is_big}
use Rattle.file_bricks.specs.Words.{word_at}
use Rattle.tgff_reader.specs.Words.{first, is_at}
use Rattle.tgff_reader.specs.Lines.{is_opening, block_name, block_index, is_graph_name, is_closing, keyword_of, is_period_shape, is_task_shape, is_arc_shape, is_deadline_shape}
use Rattle.tgff_reader.specs.Looking.{is_graph, is_table}
use Rattle.tgff_reader.specs.Reaching.{reaches}
use Rattle.tgff_reader.specs.declared.keyword.Keyword.{Keyword}
use Rattle.tgff_reader.specs.declared.keyword.Keyword.TheVariants.{Period, Task, Arc, HardDeadline, SoftDeadline}
use Rattle.tgff_reader.specs.declared.file.Graph.{Graph}
use Rattle.tgff_reader.specs.declared.file.TgffTask.{TgffTask}
use Rattle.tgff_reader.specs.declared.file.TgffArc.{TgffArc}
use Rattle.tgff_reader.specs.declared.state.Blocks.{Blocks}
use Rattle.tgff_reader.specs.declared.state.Open.{Open}
use Rattle.tgff_reader.specs.declared.state.Open.TheVariants.{Outside, InGraph, InTable}
use Rattle.tgff_reader.specs.declared.state.State.{State}

-- ---- names

-- a task has the name
abbrev pub is_task : List ℕ → TgffTask → Bool
is_task name task = bytes_eq task.name name

-- an arc has the name
abbrev pub is_arc : List ℕ → TgffArc → Bool
is_arc name arc = bytes_eq arc.name name

-- where the task with a name stands; past the last one where there is none
abbrev pub place_of : List TgffTask → List ℕ → ℕ
place_of tasks name = position_or_len (is_task name) tasks

-- no task has the name
abbrev pub is_unknown : List TgffTask → List ℕ → Bool
is_unknown tasks name = nat_le (length tasks) (place_of tasks name)

-- a name has too many bytes
abbrev pub is_long : List ℕ → Bool
is_long name = nat_lt most_name_bytes (length name)

-- ---- outside a block

-- a block of the name and the index is there
abbrev pub has_block : Blocks → List ℕ → ℕ → Bool
has_block blocks name index = if is_graph_name name then list_any (is_graph index) blocks.graphs else list_any (is_table name index) blocks.tables

-- the same, where the index is a number
abbrev pub is_repeated : Blocks → List ℕ → Result ℕ NumberFault → Bool
is_repeated blocks name (Ok index) = has_block blocks name index
is_repeated blocks name (Err fault) = false

-- a line that opens a block
abbrev pub opening_tests : Blocks → List ℕ → Result ℕ NumberFault → List Test
opening_tests blocks name index =
    (BadStatement, length name == 0)
    ∷ (BadNumber, is_bad index)
    ∷ (RepeatedName, is_repeated blocks name index)
    ∷ (TooBig, is_big index)
    ∷ []

-- a line outside a block
abbrev pub outside_tests : Blocks → Words → List Test
outside_tests blocks ws = if is_opening ws then opening_tests blocks (block_name ws) (block_index ws) else (StrayClose, is_closing ws) ∷ []

-- ---- in a task graph

-- a period
abbrev pub period_tests : Words → List Test
period_tests ws =
    (BadStatement, not (is_period_shape ws))
    ∷ (BadNumber, is_bad (decimal_of (word_at ws 1)))
    ∷ (TooBig, is_big (decimal_of (word_at ws 1)))
    ∷ []

-- a task
abbrev pub task_tests : Blocks → Graph → Words → List Test
task_tests blocks graph ws =
    (BadStatement, not (is_task_shape ws))
    ∷ (BadNumber, is_bad (whole_of (word_at ws 3)))
    ∷ (RepeatedName, list_any (is_task (word_at ws 1)) graph.tasks)
    ∷ (TooBig, is_big (whole_of (word_at ws 3)))
    ∷ (Limit NameBytes, is_long (word_at ws 1))
    ∷ (Limit Tasks, nat_le most_tasks blocks.tasks)
    ∷ []

-- an arc closes a cycle where its first task is reached from its second one, or is that one
abbrev pub closes_cycle : Graph → Words → Bool
closes_cycle graph ws = reaches graph.arcs (place_of graph.tasks (word_at ws 5)) (place_of graph.tasks (word_at ws 3))

-- no task has the name of an arc's first task, or of its second one
abbrev pub has_unknown_end : List TgffTask → Words → Bool
has_unknown_end tasks ws = is_unknown tasks (word_at ws 3) || is_unknown tasks (word_at ws 5)

-- an arc's words
abbrev pub arc_word_tests : Graph → Words → List Test
arc_word_tests graph ws =
    (BadStatement, not (is_arc_shape ws))
    ∷ (BadNumber, is_bad (whole_of (word_at ws 7)))
    ∷ (UnknownName, has_unknown_end graph.tasks ws)
    ∷ (RepeatedName, list_any (is_arc (word_at ws 1)) graph.arcs)
    ∷ (TooBig, is_big (whole_of (word_at ws 7)))
    ∷ []

-- an arc that closes a cycle or doesn't
abbrev pub arc_graph_tests : Blocks → Bool → Words → List Test
arc_graph_tests blocks closes ws =
    (Cyclic, closes)
    ∷ (Limit NameBytes, is_long (word_at ws 1))
    ∷ (Limit Messages, nat_le most_messages blocks.arcs)
    ∷ []

-- an arc
abbrev pub arc_tests : Blocks → Graph → Words → List Test
arc_tests blocks graph ws = arc_word_tests graph ws ++ arc_graph_tests blocks (closes_cycle graph ws) ws

-- a deadline
abbrev pub deadline_tests : Graph → Words → List Test
deadline_tests graph ws =
    (BadStatement, not (is_deadline_shape ws))
    ∷ (BadNumber, is_bad (decimal_of (word_at ws 5)))
    ∷ (UnknownName, is_unknown graph.tasks (word_at ws 3))
    ∷ (TooBig, is_big (decimal_of (word_at ws 5)))
    ∷ []

-- a line by its keyword; one without is passed over
abbrev pub known_tests : Blocks → Graph → Words → Option Keyword → List Test
known_tests blocks graph ws None = []
known_tests blocks graph ws (Some Period) = period_tests ws
known_tests blocks graph ws (Some Task) = task_tests blocks graph ws
known_tests blocks graph ws (Some Arc) = arc_tests blocks graph ws
known_tests blocks graph ws (Some HardDeadline) = deadline_tests graph ws
known_tests blocks graph ws (Some SoftDeadline) = deadline_tests graph ws

-- a line of an open block that doesn't close it: a block in a block, or one of the tests of the block's own
abbrev pub inner_tests : Words → List Test → List Test
inner_tests ws own = if is_closing ws then [] else if is_at (first ws) then (Unclosed, true) ∷ [] else own

-- ---- all lines

-- a line, by the block that is open
abbrev pub tests_in : Open → Blocks → Words → List Test
tests_in Outside blocks ws = outside_tests blocks ws
tests_in (InGraph graph) blocks ws = inner_tests ws (known_tests blocks graph ws (keyword_of (first ws)))
tests_in (InTable table) blocks ws = inner_tests ws []

-- a line after the lines before it
abbrev pub tests : State → Words → List Test
tests state ws = tests_in state.current state.blocks ws

-- a block is open
abbrev pub is_open : Open → Bool
is_open Outside = false
is_open (InGraph graph) = true
is_open (InTable table) = true

-- the end of the file
abbrev pub end_tests : State → List Test
end_tests state = (Unclosed, is_open state.current) ∷ []
