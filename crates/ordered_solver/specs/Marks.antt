-- The word of a trail: its entries read as the digits of a binary number.
use Rattle.std.specs.Prelude.{ℕ, Bool, ◌+◌, ◌^◌, List, [], ◌∷◌, map, not, if◌then◌else◌, zero, suc}
use Rattle.trail_state.specs.Trail.{Entry, is_decision}

-- marks read as a binary number of so many places, the first the highest; places past the end are 0
abbrev pub word : ℕ → List Bool → ℕ
word zero ms = 0
word (suc n) [] = 0
word (suc n) (m ∷ ms) = (if m then 2 ^ n else 0) + word n ms

-- a forced literal is 1, a decision 0
abbrev pub marks : List Entry → List Bool
marks es = map (λ e. not (is_decision e)) es
