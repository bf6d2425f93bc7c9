-- Marks at the tasks at which a chain of so many messages ends.
use Rattle.std.specs.Prelude.{◌≡◌, ℕ, ◌<◌, List, Bool, false, length, slice_index_or}
use Rattle.std.specs.List.{list_any}
use Rattle.spec_model.specs.Spec.{SpecValue, those}
use Rattle.spec_model.specs.Rules.{sender_of}
use Rattle.spec_model.specs.Schedule.{greatest, goes_to, ends_chain, depth}

abbrev pub IsBelow : ℕ → ℕ → Type 0
IsBelow n t = t < n

abbrev pub is_marked : List Bool → ℕ → Bool
is_marked marks t = slice_index_or marks t false

-- exactly the tasks are marked at which a chain of n messages ends
pub record AreChainMarks (s : SpecValue) (n : ℕ) (marks : List Bool) : Type 0 where
  pub each : length marks ≡ length s.tasks
  pub marked : (t : ℕ) → t < length s.tasks → is_marked marks t ≡ ends_chain s t n

-- the sender of a message is marked
abbrev pub sender_marked : SpecValue → List Bool → ℕ → Bool
sender_marked s marks m = is_marked marks (sender_of s m)

-- one of the first n messages goes to the task, and its sender is marked
abbrev pub is_sent_to : SpecValue → List Bool → ℕ → ℕ → Bool
is_sent_to s marks n t = list_any (sender_marked s marks) (those (goes_to s t) n)

-- the greatest number of messages below n on a chain that ends at each task
abbrev pub depth_below : SpecValue → ℕ → ℕ → ℕ
depth_below s n t = greatest (those (ends_chain s t) n)

-- the depth of each task, of chains of fewer than n messages
pub record AreDepthsBelow (s : SpecValue) (n : ℕ) (depths : List ℕ) : Type 0 where
  pub each : length depths ≡ length s.tasks
  pub depths_are : (t : ℕ) → t < length s.tasks → slice_index_or depths t 0 ≡ depth_below s n t

-- the depth of each task
pub record AreDepths (s : SpecValue) (depths : List ℕ) : Type 0 where
  pub each : length depths ≡ length s.tasks
  pub depths_are : (t : ℕ) → t < length s.tasks → slice_index_or depths t 0 ≡ depth s t
