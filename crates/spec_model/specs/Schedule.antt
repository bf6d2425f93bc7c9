-- When the tasks of a design start and end, and the four values that are measured of it.
use Rattle.std.specs.Prelude.{ℕ, zero, suc, ◌+◌, ◌-◌, ◌*◌, max, Bool, true, ◌==◌, if◌then◌else◌, nat_eq, List, [], ◌∷◌, length, map, sum_by, count_by, filter, find, unwrap_or}
use Rattle.std.specs.List.{fold, flat_map, list_any}
use Rattle.spec_model.specs.Spec.{Deadline, SpecValue, Bits, below, those, message_at, option_at}
use Rattle.spec_model.specs.Rules.{options_of, sender_of, arc_bit}
use Rattle.spec_model.specs.Walks.{walk_test}

-- the greatest of some numbers, 0 where there are none
abbrev pub greatest : List ℕ → ℕ
greatest [] = 0
greatest (x ∷ xs) = max x (greatest xs)

-- a message goes to a task
unfoldable pub goes_to : SpecValue → ℕ → ℕ → Bool
goes_to s t m = list_any (nat_eq t) (message_at s m).receivers

-- the messages that a task receives
abbrev pub received : SpecValue → ℕ → List ℕ
received s t = those (goes_to s t) (length s.messages)

-- a chain of so many messages ends at a task
abbrev pub ends_chain : SpecValue → ℕ → ℕ → Bool
ends_chain s t zero = true
ends_chain s t (suc n) = list_any (λ m. ends_chain s (sender_of s m) n) (received s t)

-- a task's depth: the greatest number of messages on a chain that ends at it
unfoldable pub depth : SpecValue → ℕ → ℕ
depth s t = greatest (those (ends_chain s t) (length s.tasks))

unfoldable pub has_depth : SpecValue → ℕ → ℕ → Bool
has_depth s d t = depth s t == d

abbrev pub tasks_of_depth : SpecValue → ℕ → List ℕ
tasks_of_depth s d = those (has_depth s d) (length s.tasks)

-- the tasks in the order in which they are placed: by rising depth, those of one depth by number
abbrev pub placing : SpecValue → List ℕ
placing s = flat_map (tasks_of_depth s) (below (length s.tasks))

-- the option that is chosen for a task
unfoldable pub chosen_option : SpecValue → Bits → ℕ → ℕ
chosen_option s f t = unwrap_or (find f (options_of s t)) 0

abbrev pub resource_of : SpecValue → Bits → ℕ → ℕ
resource_of s f t = (option_at s (chosen_option s f t)).resource

abbrev pub time_of : SpecValue → Bits → ℕ → ℕ
time_of s f t = (option_at s (chosen_option s f t)).time

-- a message has a walk of so many arcs to a resource
unfoldable pub has_walk_of : SpecValue → Bits → ℕ → ℕ → ℕ → Bool
has_walk_of s f m r n = walk_test s f m n r

-- the length of the walk of a message to a resource; of a valid design there is at most one
unfoldable pub walk_length : SpecValue → Bits → ℕ → ℕ → ℕ
walk_length s f m r = unwrap_or (find (has_walk_of s f m r) (below ((message_at s m).limit + 1))) 0

-- when a placed task runs, and where
pub record Slot : Type 0 where
  pub task : ℕ
  pub resource : ℕ
  pub start : ℕ
  pub finish : ℕ

-- when a task ends that is among those placed
abbrev pub end_of : List Slot → ℕ → ℕ
end_of [] t = 0
end_of (slot ∷ slots) t = if slot.task == t then slot.finish else end_of slots t

-- when the task ends that was placed last on a resource, of slots of which the last stands first
abbrev pub free_from : List Slot → ℕ → ℕ
free_from [] r = 0
free_from (slot ∷ slots) r = if slot.resource == r then slot.finish else free_from slots r

-- when a message arrives at a resource
unfoldable pub arrival : SpecValue → Bits → List Slot → ℕ → ℕ → ℕ
arrival s f slots r m = end_of slots (sender_of s m) + (message_at s m).delay * walk_length s f m r

-- when a task starts: once its resource is free and each message that it receives has arrived
unfoldable pub start_of : SpecValue → Bits → List Slot → ℕ → ℕ
start_of s f slots t = max (free_from slots (resource_of s f t)) (greatest (map (arrival s f slots (resource_of s f t)) (received s t)))

abbrev pub slot_of : SpecValue → Bits → List Slot → ℕ → Slot
slot_of s f slots t = record { task = t; resource = resource_of s f t; start = start_of s f slots t; finish = start_of s f slots t + time_of s f t }

-- one task more is placed
abbrev pub place : SpecValue → Bits → List Slot → ℕ → List Slot
place s f slots t = slot_of s f slots t ∷ slots

-- the schedule: the slots of all tasks, that of the task placed last first
unfoldable pub schedule : SpecValue → Bits → List Slot
schedule s f = fold (place s f) [] (placing s)

-- when the last task ends
unfoldable pub makespan : SpecValue → Bits → ℕ
makespan s f = greatest (map (λ slot. slot.finish) (schedule s f))

-- how late a task ends for a deadline, 0 where it is in time
abbrev pub lateness_for : SpecValue → Bits → Deadline → ℕ
lateness_for s f deadline = end_of (schedule s f) deadline.task - deadline.time

-- how late a task ends at most
unfoldable pub lateness : SpecValue → Bits → ℕ
lateness s f = greatest (map (lateness_for s f) s.deadlines)

-- what a message carries, for each arc that it uses
unfoldable pub message_traffic : SpecValue → Bits → ℕ → ℕ
message_traffic s f m = (message_at s m).quantity * count_by (arc_bit s f m) (below (length s.arcs))

-- what all messages carry over arcs
unfoldable pub hopsum : SpecValue → Bits → ℕ
hopsum s f = sum_by (message_traffic s f) (below (length s.messages))

unfoldable pub on_resource : SpecValue → ℕ → ℕ → Bool
on_resource s r o = (option_at s o).resource == r

abbrev pub option_time : SpecValue → ℕ → ℕ
option_time s o = (option_at s o).time

-- how long a resource is busy: the times of the options that are chosen on it
unfoldable pub busy_time : SpecValue → Bits → ℕ → ℕ
busy_time s f r = sum_by (option_time s) (filter f (those (on_resource s r) (length s.options)))

-- how long the busiest resource is busy
unfoldable pub peakload : SpecValue → Bits → ℕ
peakload s f = greatest (map (busy_time s f) (below (length s.resources)))
