-- The keys by which options and arcs are found.
use Rattle.std.specs.Prelude.{ℕ, Bool, ◌==◌, List, length, slice_index_or}
use Rattle.std.specs.List.{list_any}
use Rattle.spec_model.specs.Spec.{SpecValue, those, option_at, arc_at, message_at}
use Rattle.encode_model.specs.Encoding.{is_number}
use Rattle.spec_graph.specs.declared.numbers.TaskNo.{TaskNo}

abbrev pub has_key : List ℕ → ℕ → ℕ → Bool
has_key keys key i = slice_index_or keys i 0 == key

-- the places at which a list of keys has a key
abbrev pub with_key : List ℕ → ℕ → List ℕ
with_key keys key = those (has_key keys key) (length keys)

abbrev pub task_of : SpecValue → ℕ → ℕ
task_of s o = (option_at s o).task

abbrev pub resource_of : SpecValue → ℕ → ℕ
resource_of s o = (option_at s o).resource

abbrev pub head_of : SpecValue → ℕ → ℕ
head_of s a = (arc_at s a).head

abbrev pub tail_of : SpecValue → ℕ → ℕ
tail_of s a = (arc_at s a).tail

abbrev pub link_of : SpecValue → ℕ → ℕ
link_of s a = (arc_at s a).link

-- one of some arcs has a tail
abbrev pub has_arc : List ℕ → List ℕ → ℕ → Bool
has_arc tails arcs p = list_any (has_key tails p) arcs

-- the tails of some arcs, each once
abbrev pub joined_to : List ℕ → List ℕ → ℕ → List ℕ
joined_to tails arcs n = those (has_arc tails arcs) n

abbrev pub neighbours_by : List ℕ → List ℕ → ℕ → ℕ → List ℕ
neighbours_by tails heads n q = joined_to tails (with_key heads q) n

-- a task is among some
abbrev pub is_task : ℕ → TaskNo → Bool
is_task t w = w.0 == t

abbrev pub is_among : List TaskNo → ℕ → Bool
is_among tasks t = list_any (is_task t) tasks

-- a task is a receiver of the message
unfoldable pub is_receiver : SpecValue → ℕ → ℕ → Bool
is_receiver s m t = list_any (is_number t) (message_at s m).receivers

-- an option is one of the message's receivers
unfoldable pub is_for : SpecValue → ℕ → ℕ → Bool
is_for s m o = list_any (is_number (option_at s o).task) (message_at s m).receivers
