-- An element taken out of a list, the last of which takes its place, and one that is put at a place.
use Rattle.std.proofs.Common.{◌≡◌, ◌≢◌, ℕ, ◌+◌, ◌-◌, ◌<◌, ◌≤◌, List, length, get_or, set, take, drop, sym, ap, ◌∙◌, arith, inl, inr, get_or-set_same, get_or-set_other}
use Rattle.std.proofs.lemmas.Bool.{cases_eq}
use Rattle.std.proofs.lemmas.List.{length-set, length-take-le, length-drop, get_or-take, get_or-drop, get_or_default}
use Rattle.std.specs.List.{swap_remove}
use Rattle.std.specs.Prelude.{Contains}

-- there is one element less
pub length-swap_remove : {X : Type 0} → (xs : List X) (i : ℕ) (d : X) → i < length xs → length (swap_remove xs i d) + 1 ≡ length xs
length-swap_remove xs i d h =
    let n = length xs in
    let ys = set xs i (get_or xs (n - 1) d) in
    let len : length ys ≡ n = length-set xs i (get_or xs (n - 1) d) in
    let t : length (take (n - 1) ys) ≡ n - 1 = length-take-le (n - 1) ys (omega (arith, len)) in
    omega (arith, t)

-- what stands in each place then
at_removed : {X : Type 0} → (xs : List X) (i : ℕ) (d e : X) → i < length xs → i + 1 < length xs → get_or (swap_remove xs i d) i e ≡ get_or xs (length xs - 1) e
at_removed xs i d e h l =
    let n = length xs in
    get_or-take (n - 1) (set xs i (get_or xs (n - 1) d)) i e (omega arith) ∙ get_or-set_same xs i (get_or xs (n - 1) d) e h ∙ get_or_default xs (n - 1) d e (omega arith)

at_other : {X : Type 0} → (xs : List X) (i j : ℕ) (d e : X) → j ≢ i → j + 1 < length xs → get_or (swap_remove xs i d) j e ≡ get_or xs j e
at_other xs i j d e n l =
    let m = length xs in
    get_or-take (m - 1) (set xs i (get_or xs (m - 1) d)) j e (omega arith) ∙ get_or-set_other xs i j (get_or xs (m - 1) d) e n

-- each other element stands at a place from which it didn't go below i
stays_beyond : {X : Type 0} → (xs : List X) (i j k : ℕ) (d x : X) → i < length xs → d ≡ get_or xs i d → x ≢ d → k ≤ i → k ≤ j → j < length xs → get_or xs j x ≡ x
    → (m : ℕ) × (k ≤ m) × (m < length (swap_remove xs i d)) × (get_or (swap_remove xs i d) m x ≡ x)
stays_beyond xs i j k d x h at ne a b l e =
    let len = length-swap_remove xs i d h in
    let n : j ≢ i = λ z. ne (sym e ∙ ap (λ (y : ℕ). get_or xs y x) z ∙ get_or_default xs i x d h ∙ sym at) in
    elim (cases_eq (j + 1) (length xs)) [
      | inl q ↦ (
          let p : length xs - 1 ≡ j = omega (arith, q) in
          (i, a, omega (arith, len), at_removed xs i d x h (omega arith) ∙ ap (λ (y : ℕ). get_or xs y x) p ∙ e))
      | inr q ↦ (j, b, omega (arith, len), at_other xs i j d x n (omega arith) ∙ e)
    ]

-- each other element stays
pub Contains-swap_remove : {X : Type 0} → (xs : List X) (i : ℕ) (d x : X) → i < length xs → d ≡ get_or xs i d → x ≢ d → Contains xs x → Contains (swap_remove xs i d) x
Contains-swap_remove xs i d x h at ne c =
    let s = stays_beyond xs i c.0 0 d x h at ne (omega arith) (omega arith) c.1 c.2 in
    (s.0, s.2, s.3)

-- and beyond the place too
pub Contains-drop_removed : {X : Type 0} → (xs : List X) (i : ℕ) (d x : X) → i < length xs → d ≡ get_or xs i d → x ≢ d → Contains (drop i xs) x → Contains (drop i (swap_remove xs i d)) x
Contains-drop_removed xs i d x h at ne c =
    let a : length (drop i xs) ≡ length xs - i = length-drop i xs in
    let b : length (drop i (swap_remove xs i d)) ≡ length (swap_remove xs i d) - i = length-drop i (swap_remove xs i d) in
    let lt = c.1 in
    let e : get_or xs (i + c.0) x ≡ x = sym (get_or-drop i xs c.0 x) ∙ c.2 in
    let s = stays_beyond xs i (i + c.0) i d x h at ne (omega arith) (omega arith) (omega (arith, a, lt)) e in
    let le = s.1 in
    let lt' = s.2 in
    let back : i + (s.0 - i) ≡ s.0 = omega (arith, le) in
    (s.0 - i, omega (arith, b, le, lt'), get_or-drop i (swap_remove xs i d) (s.0 - i) x ∙ ap (λ (m : ℕ). get_or (swap_remove xs i d) m x) back ∙ s.3)
