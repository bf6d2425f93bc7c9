-- The best of a list, for a test that says of two entries whether the first covers the second.
use Rattle.std.specs.Prelude.{◌++◌, ◌&&◌, ◌||◌, not, List, [], ◌∷◌, Bool, if◌then◌else◌, filter}
use Rattle.std.specs.List.{list_any}

abbrev pub dominates : {X : Type 0} → (X → X → Bool) → X → X → Bool
dominates covers a b = covers a b && not (covers b a)

-- the two are alike: each covers the other
abbrev pub equals : {X : Type 0} → (X → X → Bool) → X → X → Bool
equals covers a b = covers a b && covers b a

-- some entry dominates x, or an earlier one equals it
abbrev pub is_beaten : {X : Type 0} → (X → X → Bool) → List X → List X → X → Bool
is_beaten covers all earlier x = list_any (λ y. dominates covers y x) all || list_any (λ y. equals covers y x) earlier

-- those of some entries that aren't beaten, with the entries earlier than these
abbrev pub best_from : {X : Type 0} → (X → X → Bool) → List X → List X → List X → List X
best_from covers all earlier [] = []
best_from covers all earlier (x ∷ xs) = if is_beaten covers all earlier x then best_from covers all (earlier ++ x ∷ []) xs else x ∷ best_from covers all (earlier ++ x ∷ []) xs

-- the entries of a history that no entry dominates and no earlier entry equals, in their order
abbrev pub best : {X : Type 0} → (X → X → Bool) → List X → List X
best covers history = best_from covers history [] history

-- what an offer makes of the members: nothing where one covers it; else those that it covers go, and it is the last
abbrev pub offered : {X : Type 0} → (X → X → Bool) → List X → X → List X
offered covers members m = if list_any (λ x. covers x m) members then members else filter (λ x. not (covers m x)) members ++ m ∷ []
