-- Which resources a message reaches in so many hops, as rows of bits.
use Rattle.std.specs.Prelude.{ℕ, Bool, false, ◌&&◌, ◌==◌, List, length, map, slice_index_or}
use Rattle.std.specs.List.{list_any}
use Rattle.spec_model.specs.Spec.{SpecValue, Bits, below, option_at, arc_at, arc_var}
use Rattle.spec_model.specs.Walks.{some_passes}
use Rattle.encode_laws.specs.ModelBits.{step_bit}

-- the option is the task's, and chosen
abbrev pub is_chosen_for : SpecValue → Bits → ℕ → ℕ → Bool
is_chosen_for s f t o = ((option_at s o).task == t) && f o

-- the message uses the arc, which leaves a resource of the row
abbrev pub leaves_from : SpecValue → Bits → ℕ → List Bool → ℕ → Bool
leaves_from s f m row a = slice_index_or row (arc_at s a).tail false && f (arc_var s m a)

-- a walk of t hops leads to the resource
abbrev pub reached_in : SpecValue → Bits → ℕ → ℕ → ℕ → Bool
reached_in s f m t r = step_bit s f m r t

-- the same for each resource
abbrev pub reached_row : SpecValue → Bits → ℕ → ℕ → List Bool
reached_row s f m t = map (reached_in s f m t) (below (length s.resources))

-- the arc goes into the resource from one of the row
abbrev pub comes_by : SpecValue → Bits → ℕ → List Bool → ℕ → ℕ → Bool
comes_by s f m row r a = leaves_from s f m row a && ((arc_at s a).head == r)

-- a used arc goes into the resource from one of the row
abbrev pub comes_from : SpecValue → Bits → ℕ → List Bool → ℕ → Bool
comes_from s f m row r = some_passes (comes_by s f m row r) (length s.arcs)

-- the same for each resource
abbrev pub next_row : SpecValue → Bits → ℕ → List Bool → List Bool
next_row s f m row = map (comes_from s f m row) (below (length s.resources))

-- the bit of a resource in a row
abbrev pub bit_at : ℕ → List Bool → Bool
bit_at r row = slice_index_or row r false

-- the bits of a resource in some rows
abbrev pub bits_at : List (List Bool) → ℕ → List Bool
bits_at rows r = map (bit_at r) rows

-- the resource is in one of some rows
abbrev pub is_in : List (List Bool) → ℕ → Bool
is_in rows r = list_any (bit_at r) rows
