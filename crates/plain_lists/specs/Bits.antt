-- Truth values by number.
use Rattle.std.specs.Prelude.{ℕ, Bool, false, List, slice_index_or}

-- an assignment of truth values to variables
abbrev pub Bits : Type 0
Bits = ℕ → Bool

-- the assignment that a list of bits states: false past its end
abbrev pub bits_of : List Bool → Bits
bits_of bits v = slice_index_or bits v false
