-- Which tasks come after which, by the messages that there are.
use Rattle.std.specs.Prelude.{◌≡◌, ℕ, ◌↔◌, Bool, true, false, ◌||◌, ◌&&◌, ◌==◌, List, [], slice_index_or}
use Rattle.spec_model.specs.Spec.{Message}
use Rattle.spec_model.specs.WellFormed.{Follows, Leads}

-- a task is in a set
abbrev pub is_in : List Bool → ℕ → Bool
is_in set t = slice_index_or set t false

-- task b comes after task a
abbrev pub comes_after : List (List Bool) → ℕ → ℕ → Bool
comes_after rows a b = is_in (slice_index_or rows a []) b

-- the rows tell, for each two tasks, whether a chain of at least one message leads from the one to the other
abbrev pub IsOrderOf : List (List Bool) → List Message → Type 0
IsOrderOf rows ms = (a b : ℕ) → (comes_after rows a b ≡ true) ↔ Follows ms a b

-- b is in the set, or it is the task or comes after it
abbrev pub is_gathered : List (List Bool) → List Bool → ℕ → ℕ → Bool
is_gathered rows set task b = is_in set b || ((b == task) || comes_after rows task b)

-- b comes after a, or a is the sender or leads to it, and b is in the set
abbrev pub is_joined : List (List Bool) → ℕ → List Bool → ℕ → ℕ → Bool
is_joined rows sender after a b = comes_after rows a b || (((a == sender) || comes_after rows a sender) && is_in after b)

-- the set has the tasks to which a chain of messages leads from one of some tasks
abbrev pub IsLed : List Bool → List Message → List ℕ → Type 0
IsLed set ms ws = (b : ℕ) → (is_in set b ≡ true) ↔ Leads ms ws b
