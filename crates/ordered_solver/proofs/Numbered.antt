-- Constraints under ids.
use Rattle.std.proofs.Common.{◌≡◌, ℕ, ◌+◌, List, [], ◌∷◌, refl, ap}
use Rattle.pb_rules.specs.Linear.{Linear}
use Rattle.ordered_solver.specs.Solver.{constraints_of, numbered}

-- constraints that were numbered, without their numbers
pub numbered_back : (id : ℕ) (cs : List Linear) → constraints_of (numbered id cs) ≡ cs
numbered_back id [] = refl
numbered_back id (c ∷ cs) = ap (λ (ds : List Linear). c ∷ ds) (numbered_back (id + 1) cs)
