-- What a search of a list from the front finds.
use Rattle.std.proofs.Common.{◌≡◌, ℕ, ◌+◌, ◌-◌, ◌<◌, ◌≤◌, Bool, true, false, List, [], length, get_or, drop, Some, None, ap, ◌∙◌, arith}
use Rattle.std.specs.Prelude.{find, slice_get}
use Rattle.std.proofs.lemmas.List.{get_or-drop, length-drop}
use Rattle.std.proofs.lemmas.List.Folds.{find_at}
use Rattle.std.proofs.lemmas.List.Sums.{position_or_len_is}
use Rattle.std.proofs.lemmas.Option.{slice_get_past, slice_get-get_or}

-- the first place that passes
pub find_first : {X : Type 0} (p : X → Bool) (xs : List X) (d : X) (place : ℕ) → place < length xs → p (get_or xs place d) ≡ true
    → ((i : ℕ) → i < place → p (get_or xs i d) ≡ false) → find p xs ≡ Some (get_or xs place d)
find_first p xs d place lt passes below =
    find_at p xs ∙ ap (slice_get xs) (position_or_len_is p xs place d (omega (arith, lt)) below (λ _. passes)) ∙ slice_get-get_or xs place d lt

-- no place passes
pub find_none : {X : Type 0} (p : X → Bool) (xs : List X) (d : X) → ((i : ℕ) → i < length xs → p (get_or xs i d) ≡ false) → find p xs ≡ None
find_none p xs d none =
    find_at p xs ∙ ap (slice_get xs) (position_or_len_is p xs (length xs) d (omega arith) none (λ lt. absurd (omega (arith, lt)))) ∙ slice_get_past xs (length xs) (omega arith)

-- the first place that passes, from one on
pub find_first_from : {X : Type 0} (p : X → Bool) (xs : List X) (d : X) (from place : ℕ) → from ≤ place → place < length xs → p (get_or xs place d) ≡ true
    → ((i : ℕ) → from ≤ i → i < place → p (get_or xs i d) ≡ false) → find p (drop from xs) ≡ Some (get_or xs place d)
find_first_from {X} p xs d from place later lt passes between =
    let here : get_or (drop from xs) (place - from) d ≡ get_or xs place d = get_or-drop from xs (place - from) d ∙ ap (λ (i : ℕ). get_or xs i d) (omega (arith, later)) in
    find_first p (drop from xs) d (place - from) (omega (arith, length-drop from xs, later, lt)) (ap p here ∙ passes)
    (λ i low. ap p (get_or-drop from xs i d) ∙ between (from + i) (omega arith) (omega (arith, low, later)))
    ∙ ap (λ (x : X). Some x) here

-- no place passes from one on
pub find_none_from : {X : Type 0} (p : X → Bool) (xs : List X) (d : X) (from : ℕ) → ((i : ℕ) → from ≤ i → i < length xs → p (get_or xs i d) ≡ false) → find p (drop from xs) ≡ None
find_none_from p xs d from none =
    find_none p (drop from xs) d (λ i low. ap p (get_or-drop from xs i d) ∙ none (from + i) (omega arith) (omega (arith, low, length-drop from xs)))
