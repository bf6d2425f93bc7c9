-- The file of task graphs and tables: its rules, and what its lines state.
use Rattle.std.specs.Prelude.{List}
use Rattle.line_words.specs.Rules.{Test, Words, Rules, Statement, text_rules}
use Rattle.tgff_reader.specs.Faults.{tests, end_tests}
use Rattle.tgff_reader.specs.After.{state_of}
use Rattle.tgff_reader.specs.Facts.{TgffValue}
use Rattle.tgff_reader.specs.declared.state.State.{State}

-- a line is tried after the lines before it
abbrev pub later : List Statement → Words → List Test
later before ws = tests (state_of before) ws

-- the end is tried after all lines
abbrev pub at_end : List Statement → List Test
at_end before = end_tests (state_of before)

-- the rules of the file
abbrev pub tgff_rules : Rules
tgff_rules = text_rules later at_end

-- the blocks that are closed
abbrev pub closed_blocks : State → TgffValue
closed_blocks state = record { graphs = state.blocks.graphs; tables = state.blocks.tables }

-- what a file's lines state
abbrev pub graphs_stated : List Statement → TgffValue
graphs_stated statements = closed_blocks (state_of statements)

-- the value as it is
abbrev pub as_seen : TgffValue → TgffValue
as_seen value = value
