-- A linear objective.
use Rattle.std.specs.Prelude.{ℕ, ◌+◌, ◌*◌, List, [], ◌∷◌}

-- each bit times its weight, added up
abbrev pub weighted : List ℕ → List ℕ → ℕ
weighted [] ws = 0
weighted (b ∷ bs) [] = 0
weighted (b ∷ bs) (w ∷ ws) = b * w + weighted bs ws
