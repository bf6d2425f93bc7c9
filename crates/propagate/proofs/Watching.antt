-- What a pass over the terms of a clause finds.
use Rattle.std.proofs.Common.{◌≡◌, ◌∙◌, ℕ, ◌≤◌, List, length, take, subst}
use Rattle.std.specs.Prelude.{All}
use Rattle.std.proofs.lemmas.List.{take_all}

-- a pass over all elements met each of them
pub all_done : {X : Type 0} (P : X → Type 0) → (xs ys : List X) (i : ℕ) → length xs ≤ i → xs ≡ ys → All P (take i xs) → All P ys
all_done {X} P xs ys i h e a =
    let Q : List X → Type 0 = λ zs. All P zs in
    subst Q (take_all i xs h ∙ e) a
