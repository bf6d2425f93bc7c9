-- The lists of a specification, as the code's types hold them.
use Rattle.std.specs.Prelude.{ℕ, List, [], map, slice_index_or}
use Rattle.spec_model.specs.Spec.{Message, Arc as ArcValue, Choice as ChoiceValue, choice}
use Rattle.spec_graph.specs.declared.numbers.TaskNo.{TaskNo}
use Rattle.spec_graph.specs.declared.numbers.MsgNo.{MsgNo}
use Rattle.spec_graph.specs.declared.numbers.Arc.{Arc}
use Rattle.spec_graph.specs.declared.numbers.Choice.{Choice}

-- the number of a task
abbrev pub task_number : TaskNo → ℕ
task_number t = t.0

-- the number of a message
abbrev pub message_number : MsgNo → ℕ
message_number m = m.0

-- the message at a place of a list
abbrev pub message_in : List Message → ℕ → Message
message_in ms m = slice_index_or ms m (record { sender = 0; receivers = []; limit = 0; delay = 0; quantity = 0 })

abbrev pub arc_value : Arc → ArcValue
arc_value a = record { link = a.link.0; tail = a.tail.0; head = a.head.0 }

abbrev pub choice_value : Choice → ChoiceValue
choice_value c = choice c.task.0 c.resource.0 c.time

-- the pair of a task and a resource that an option is of
abbrev pub choice_pair : Choice → ℕ × ℕ
choice_pair c = (c.task.0, c.resource.0)

-- a message between tasks with these numbers
abbrev pub numbered_message : TaskNo → List TaskNo → ℕ → ℕ → ℕ → Message
numbered_message sender receivers hops delay quantity = record {
  sender = sender.0;
  receivers = map task_number receivers;
  limit = hops;
  delay = delay;
  quantity = quantity;
}
