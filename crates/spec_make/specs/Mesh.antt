-- The shape of a made specification: a square mesh of resources, and tasks that send messages to later ones.
use Rattle.std.specs.Prelude.{ℕ, ◌+◌, ◌-◌, ◌*◌, ◌/◌, ◌%◌, ◌==◌, nat_lt, Bool, not, ◌&&◌, List, [], ◌∷◌, ◌++◌, filter, if◌then◌else◌}
use Rattle.std.specs.List.{flat_map, range_with_len}
use Rattle.spec_model.specs.Spec.{below}
use Rattle.spec_make.specs.declared.mesh.Ends.{Ends}

-- how many resources a side of the mesh has: 2 to 5
abbrev pub side_of : ℕ → ℕ
side_of number = 2 + number % 8 / 2

abbrev pub resources_of : ℕ → ℕ
resources_of side = side * side

abbrev pub tasks_of : ℕ → ℕ
tasks_of side = 2 * (side * side) - 4

abbrev pub ends : ℕ → ℕ → Ends
ends first second = record { first = first; second = second }

-- The links of resource i to its neighbours on the right and below, where it has them. It stands in column i % side and
-- in row i / side.
abbrev pub right_ends : ℕ → ℕ → List Ends
right_ends side i = if nat_lt (i % side + 1) side then ends i (i + 1) ∷ [] else []

abbrev pub down_ends : ℕ → ℕ → List Ends
down_ends side i = if nat_lt (i / side + 1) side then ends i (i + side) ∷ [] else []

abbrev pub ends_at : ℕ → ℕ → List Ends
ends_at side i = right_ends side i ++ down_ends side i

-- the links of the mesh, in the order of their numbers
abbrev pub all_ends : ℕ → List Ends
all_ends side = flat_map (ends_at side) (below (resources_of side))

-- A message goes to task i, and is named for it; where i is 3k + 1 it goes to the next task too, which has none of its own.
abbrev pub has_message : ℕ → Bool
has_message i = not (i % 3 == 2)

abbrev pub goes_to_two : ℕ → ℕ → Bool
goes_to_two tasks i = (i % 3 == 1) && nat_lt (i + 1) tasks

-- the tasks that messages are named for, from task 1 on
abbrev pub messages_of : ℕ → List ℕ
messages_of tasks = filter has_message (range_with_len 1 (tasks - 1))
