-- The text of a made specification: its lines, as a function of the side of the mesh and of the words of a generator.
use Rattle.std.specs.Prelude.{ℕ, ◌+◌, ◌*◌, ◌%◌, List, [], ◌∷◌, ◌++◌, length, map, if◌then◌else◌, codes, decimal}
use Rattle.std.specs.List.{flat_map, enumerate_from}
use Rattle.spec_model.specs.Spec.{below}
use Rattle.line_words.specs.Rules.{Words}
use Rattle.spelled_lines.specs.Lines.{spelled}
use Rattle.genotype.specs.Draws.{draw}
use Rattle.rand_core.specs.Pcg32Seed.{pcg32_seed}
use Rattle.rand_pcg.specs.Lcg.{Lcg}
use Rattle.rand_pcg.specs.Pcg.{pcg32, pcg32_of_seed}
use Rattle.spec_make.specs.declared.mesh.Ends.{Ends}
use Rattle.spec_make.specs.Streams.{Stream, stream_of, later, taking}
use Rattle.spec_make.specs.Mesh.{side_of, resources_of, tasks_of, all_ends, goes_to_two, messages_of}

-- ---- words of lines

-- a letter and a number
abbrev pub name : ℕ → ℕ → List ℕ
name letter i = letter ∷ decimal i

abbrev pub resource_name : ℕ → List ℕ
resource_name i = name 114 i

abbrev pub link_name : ℕ → List ℕ
link_name i = name 108 i

abbrev pub task_name : ℕ → List ℕ
task_name i = name 116 i

abbrev pub message_name : ℕ → List ℕ
message_name i = name 109 i

-- `KEY=N`
abbrev pub setting : List ℕ → ℕ → List ℕ
setting key n = key ++ 61 ∷ decimal n

-- ---- lines, each with the words that its numbers are drawn from

abbrev pub header_lines : List Words
header_lines =
    (codes "arch" ∷ codes "1" ∷ [])
    ∷ (codes "objective" ∷ codes "cost" ∷ [])
    ∷ (codes "objective" ∷ codes "energy" ∷ [])
    ∷ []

-- a resource costs 10 to 99
abbrev pub resource_words : ℕ → ℕ → Words
resource_words i cost = codes "resource" ∷ resource_name i ∷ setting (codes "cost") cost ∷ []

abbrev pub resource_lines : Stream → ℕ → List Words
resource_lines words i = resource_words i (10 + draw words 90 0) ∷ []

-- a link costs 1 to 9, and an energy of 1 for what it carries
abbrev pub link_words : ℕ → Ends → ℕ → Words
link_words e joined cost =
    codes "link" ∷ link_name e ∷ resource_name joined.first ∷ codes "--" ∷ resource_name joined.second ∷ setting (codes "cost") cost ∷ []

abbrev pub traffic_words : ℕ → Words
traffic_words e = codes "traffic" ∷ link_name e ∷ setting (codes "energy") 1 ∷ []

abbrev pub link_lines : Stream → ℕ × Ends → List Words
link_lines words link = link_words link.0 link.1 (1 + draw words 9 0) ∷ traffic_words link.0 ∷ []

-- a route has at most twice as many links as a side has resources
abbrev pub hops_words : ℕ → Words
hops_words side = codes "hops" ∷ decimal (2 * side) ∷ []

abbrev pub task_words : ℕ → Words
task_words i = codes "task" ∷ task_name i ∷ []

abbrev pub task_lines : ℕ → List Words
task_lines side = hops_words side ∷ map task_words (below (tasks_of side))

-- the message that is named for task i is sent by a task before it
abbrev pub receivers : ℕ → ℕ → Words
receivers tasks i = task_name i ∷ (if goes_to_two tasks i then task_name (i + 1) ∷ [] else [])

abbrev pub message_words : ℕ → ℕ → ℕ → Words
message_words tasks i sender = codes "message" ∷ message_name i ∷ task_name sender ∷ codes "->" ∷ receivers tasks i

abbrev pub message_lines : ℕ → Stream → ℕ → List Words
message_lines tasks words i = message_words tasks i (draw words i 0) ∷ []

-- an option takes a time of 1 to 20 and an energy of 1 to 50
abbrev pub map_words : ℕ → ℕ → ℕ → ℕ → Words
map_words t r time energy =
    codes "map" ∷ task_name t ∷ resource_name r ∷ setting (codes "time") time ∷ setting (codes "energy") energy ∷ []

-- its time is drawn from word k, and its energy from the next
abbrev pub option_words : Stream → ℕ → ℕ → ℕ → Words
option_words words k t r = map_words t r (1 + draw words 20 k) (1 + draw words 50 (k + 1))

-- A task may run on a resource that is drawn, on the next one, and on the one below that, where the last resource is
-- followed by the first.
abbrev pub map_lines : ℕ → Stream → ℕ → List Words
map_lines side words t =
    let first = draw words (resources_of side) 0 in
    option_words words 1 t first
    ∷ option_words words 3 t ((first + 1) % resources_of side)
    ∷ option_words words 5 t ((first + side) % resources_of side)
    ∷ []

-- ---- the text

-- the words of a generator are used from the first line to the last, each once
abbrev pub made_lines : ℕ → Stream → List Words
made_lines side words =
    let joined = all_ends side in
    let messages = messages_of (tasks_of side) in
    let links_from = resources_of side in
    let messages_from = links_from + length joined in
    let maps_from = messages_from + length messages in
    header_lines
    ++ taking 1 resource_lines words (below (resources_of side))
    ++ taking 1 link_lines (later links_from words) (enumerate_from 0 joined)
    ++ task_lines side
    ++ taking 1 (message_lines (tasks_of side)) (later messages_from words) messages
    ++ taking 7 (map_lines side) (later maps_from words) (below (tasks_of side))

-- the words of the generator Pcg32 that a number is the seed of
abbrev pub word_of : Lcg → ℕ
word_of g = (pcg32 g).0

abbrev pub next_of : Lcg → Lcg
next_of g = (pcg32 g).1

abbrev pub words_of_seed : ℕ → Stream
words_of_seed number = stream_of word_of next_of (pcg32_of_seed (pcg32_seed 16 number))

-- the text of a number
abbrev pub made_text : ℕ → List ℕ
made_text number = flat_map spelled (made_lines (side_of number) (words_of_seed number))
