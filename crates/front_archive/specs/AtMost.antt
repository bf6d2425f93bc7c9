-- Which vector is at most which in each place, as a test.
use Rattle.std.specs.Prelude.{ℕ, List, [], ◌∷◌, ◌&&◌, Bool, true, false, nat_le}

-- each number of the first is at most the second's in its place, and the second is no shorter
abbrev pub at_most : List ℕ → List ℕ → Bool
at_most [] v = true
at_most (x ∷ u) [] = false
at_most (x ∷ u) (y ∷ v) = nat_le x y && at_most u v
