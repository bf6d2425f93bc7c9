-- How large the encoding of a plan is, message by message.
use Rattle.std.specs.Prelude.{ℕ, Bool, ◌<◌, All, length, ◌+◌, ◌*◌, ◌==◌, List, min, sum_by, count_by, slice_index}
use Rattle.spec_model.specs.Spec.{Message}
use Rattle.spec_graph.specs.declared.numbers.TaskNo.{TaskNo}
use Rattle.spec_graph.specs.declared.numbers.Choice.{Choice}

-- how many further variables a message accounts for, among so many resources and with a hop limit of at most so much
abbrev pub kept_further : ℕ → ℕ → Message → ℕ
kept_further resources most m = resources * (min m.limit most + 2)

-- the option is the task's
abbrev pub is_of_task : ℕ → Choice → Bool
is_of_task t o = o.task.0 == t

-- how many options a task has
abbrev pub options_of_task : List Choice → ℕ → ℕ
options_of_task options t = count_by (is_of_task t) options

-- the count at a task's place
abbrev pub count_at : List ℕ → TaskNo → ℕ
count_at counts t = slice_index counts t.0

abbrev pub count_of : List ℕ → ℕ → ℕ
count_of counts t = slice_index counts t

-- how many terms a message accounts for, with so many options of each task
abbrev pub kept_terms : List ℕ → ℕ → ℕ → ℕ → Message → ℕ
kept_terms counts resources arcs most m =
    resources * (5 * min m.limit most + 11)
    + arcs * (4 * min m.limit most + 10)
    + 2 * count_of counts m.sender
    + 3 * sum_by (count_of counts) m.receivers

-- the tasks of a message are counted
pub record IsCounted (counts : List ℕ) (m : Message) : Type 0 where
  pub sender : m.sender < length counts
  pub receivers : All (λ w. w < length counts) m.receivers
