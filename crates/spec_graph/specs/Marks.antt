-- Marks at the messages that are listed, and tasks that are gathered.
use Rattle.std.specs.Prelude.{◌≡◌, ℕ, ◌<◌, Bool, false, not, List, All, slice_index_or}
use Rattle.std.specs.List.{list_any}
use Rattle.spec_model.specs.Limits.{most_tasks}
use Rattle.spec_model.specs.Spec.{Message}
use Rattle.task_order.specs.Order.{is_in}
use Rattle.spec_graph.specs.Merged.{is_number, is_unlisted}
use Rattle.spec_graph.specs.Refusals.{HasTwice}

-- the messages that are marked are those that are listed, and none is listed twice
pub record AreMarks (listed : List ℕ) (marks : List Bool) : Type 0 where
  pub marked : (m : ℕ) → is_unlisted listed m ≡ not (slice_index_or marks m false)
  pub once : ¬ HasTwice listed

-- the set has the tasks of the list
abbrev pub IsSetOf : List ℕ → List Bool → Type 0
IsSetOf tasks set = (t : ℕ) → is_in set t ≡ list_any (is_number t) tasks

-- the receivers of a message are among the most tasks that there may be
abbrev pub HasFewReceivers : Message → Type 0
HasFewReceivers m = All (λ w. w < most_tasks) m.receivers
