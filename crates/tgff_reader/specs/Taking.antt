-- What the steps of the reader take.
use Rattle.std.specs.Prelude.{◌≡◌, ◌≤◌, List, [], length, All, Option, None, Ok, Err}
use Rattle.line_words.specs.Text.{words_in}
use Rattle.line_words.specs.Rules.{Statement, Words, first_broken, texts}
use Rattle.line_words.specs.Left.{Left, Numbered}
use Rattle.line_words.specs.Refused.{fault_at}
use Rattle.line_words.specs.Run.{Reading, run}
use Rattle.line_words.specs.Reads.{Agrees, Stops}
use Rattle.line_words.specs.declared.refusals.FileTag.TheVariants as files
use Rattle.line_words.specs.declared.refusals.ReadFault.{ReadFault}
use Rattle.line_words.specs.declared.refusals.Stop.{Stop}
use Rattle.file_bricks.specs.Words.{IsWord}
use Rattle.tgff_reader.specs.Faults.{tests, known_tests, outside_tests}
use Rattle.tgff_reader.specs.After.{open_after, graph_after, blocks_after, with_graph, with_table, after, state_of}
use Rattle.tgff_reader.specs.Facts.{TgffValue, IsTgff}
use Rattle.tgff_reader.specs.Tgff.{tgff_rules, graphs_stated, as_seen, closed_blocks}
use Rattle.tgff_reader.specs.declared.keyword.Keyword.{Keyword}
use Rattle.tgff_reader.specs.declared.file.Graph.{Graph}
use Rattle.tgff_reader.specs.declared.state.Blocks.{Blocks}
use Rattle.tgff_reader.specs.declared.state.Open.{Open}
use Rattle.tgff_reader.specs.declared.state.Open.TheVariants.{Outside, InGraph, InTable}
use Rattle.tgff_reader.specs.declared.state.State.{State}

-- the tasks of an open graph are among those that are counted
abbrev pub HasRoom : Open → Blocks → Type 0
HasRoom Outside blocks = Unit {0}
HasRoom (InGraph graph) blocks = length graph.tasks ≤ blocks.tasks
HasRoom (InTable table) blocks = Unit {0}

-- this is open after a line outside a block that breaks no rule
pub record Opens (blocks : Blocks) (ws : Words) (open_now : Open) : Type 0 where
  pub fine : first_broken (outside_tests blocks ws) ≡ None
  pub open_is : open_now ≡ open_after ws

-- the blocks that are closed once the open one is
abbrev pub closed_with : Open → Blocks → Blocks
closed_with Outside blocks = blocks
closed_with (InGraph graph) blocks = with_graph blocks graph
closed_with (InTable table) blocks = with_table blocks table

-- a line of a task graph with this keyword is taken, and breaks no rule
pub record TakesKnown (old new : Blocks) (graph changed : Graph) (ws : Words) (keyword : Option Keyword) : Type 0 where
  pub fine : first_broken (known_tests old graph ws keyword) ≡ None
  pub graph_is : changed ≡ graph_after graph ws keyword
  pub blocks_are : new ≡ blocks_after old keyword

-- a line is taken, and breaks no rule
pub record Takes (old new : State) (ws : Words) : Type 0 where
  pub fine : first_broken (tests old ws) ≡ None
  pub state_is : new ≡ after old ws

-- the same of a line that is given, each of whose words is one
pub record TakesLine (old new : State) (line : Numbered) : Type 0 where
  pub words : All IsWord (texts (words_in line.content))
  pub takes : Takes old new (texts (words_in line.content))

-- a line is refused for the first rule that it breaks, or there is no memory
pub record StopsLine (state : State) (line : Numbered) (fault : ReadFault) : Type 0 where
  pub stop : Stop
  pub stops : Stops stop (first_broken (tests state (texts (words_in line.content))))
  pub fault_is : fault ≡ fault_at files.Tgff line.number stop

-- what the whole file gives, from some line on
abbrev pub reading_of : Left → Reading
reading_of left = run tgff_rules left.number [] left.lines

-- the file is refused, or there is no memory
abbrev pub IsRefused : Reading → ReadFault → Type 0
IsRefused total fault = Agrees {X = TgffValue} files.Tgff as_seen graphs_stated total (Err fault)

-- All lines of a file are taken: they break no rule, and what stands then is what they state.
pub record TakesAll (old : Left) (state : State) : Type 0 where
  pub statements : List Statement
  pub gives : reading_of old ≡ Ok statements
  pub state_is : state ≡ state_of statements
  pub facts : IsTgff (closed_blocks state)
