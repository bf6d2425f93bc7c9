-- What a line's words are in and outside a block.
use Rattle.std.specs.Prelude.{ℕ, List, [], ◌∷◌, drop, length, Bool, ◌&&◌, nat_lt, nat_le, if◌then◌else◌, Option, Result, Ok, codes}
use Rattle.std.specs.Str.{bytes_eq}
use Rattle.line_words.specs.Numbers.{whole_of}
use Rattle.line_words.specs.Rules.{Words}
use Rattle.line_words.specs.declared.numbers.NumberFault.{NumberFault}
use Rattle.file_bricks.specs.Words.{word_at, keyword_in}
use Rattle.tgff_reader.specs.Words.{first, last, is_at}
use Rattle.tgff_reader.specs.declared.keyword.Keyword.{Keyword}
use Rattle.tgff_reader.specs.declared.keyword.Keyword.TheVariants.{Period, Task, Arc, HardDeadline, SoftDeadline}

-- a line that opens a block, where none is open: `@NAME [INDEX] .. {`
abbrev pub is_opening : Words → Bool
is_opening ws = is_at (first ws) && bytes_eq (last ws) (codes "{")

-- the name of the block
abbrev pub block_name : Words → List ℕ
block_name ws = drop 1 (first ws)

-- its index: the second word, where it isn't the last, and 0 otherwise
abbrev pub block_index : Words → Result ℕ NumberFault
block_index ws = if nat_lt 2 (length ws) then whole_of (word_at ws 1) else Ok 0

-- a block of this name is a task graph, and every other one a table
abbrev pub is_graph_name : List ℕ → Bool
is_graph_name name = bytes_eq name (codes "TASK_GRAPH")

-- a line that closes a block, whatever follows its first word
abbrev pub is_closing : Words → Bool
is_closing ws = bytes_eq (first ws) (codes "}")

-- the first words of the lines of a task graph that are known
abbrev pub keywords : List (List ℕ × Keyword)
keywords = (codes "PERIOD", Period) ∷ (codes "TASK", Task) ∷ (codes "ARC", Arc) ∷ (codes "HARD_DEADLINE", HardDeadline) ∷ (codes "SOFT_DEADLINE", SoftDeadline) ∷ []

-- a line of a task graph that is known, by its first word
abbrev pub keyword_of : List ℕ → Option Keyword
keyword_of word = keyword_in keywords word

-- a place has this marker
abbrev pub is_marked : Words → ℕ → List ℕ → Bool
is_marked ws i marker = bytes_eq (word_at ws i) marker

-- `PERIOD p`; in each of these lines words may follow
abbrev pub is_period_shape : Words → Bool
is_period_shape ws = nat_le 2 (length ws)

-- `TASK name TYPE k`
abbrev pub is_task_shape : Words → Bool
is_task_shape ws = nat_le 4 (length ws) && is_marked ws 2 (codes "TYPE")

-- `ARC name FROM a TO b TYPE k`
abbrev pub is_arc_shape : Words → Bool
is_arc_shape ws = nat_le 8 (length ws) && (is_marked ws 2 (codes "FROM") && (is_marked ws 4 (codes "TO") && is_marked ws 6 (codes "TYPE")))

-- `HARD_DEADLINE name ON task AT time`, or `SOFT_DEADLINE`
abbrev pub is_deadline_shape : Words → Bool
is_deadline_shape ws = nat_le 6 (length ws) && (is_marked ws 2 (codes "ON") && is_marked ws 4 (codes "AT"))
