-- Tests on numbers and lists, and what they say.
use Rattle.std.proofs.Common.{◌≡◌, ℕ, zero, suc, ◌<◌, Bool, true, false, cond, List, [], ◌∷◌, ◌++◌, refl, sym, subst, add-one, arith, inl, inr}
use Rattle.std.specs.Prelude.{◌||◌, Contains}
use Rattle.std.specs.List.{list_any}
use Rattle.std.proofs.lemmas.List.Elements.{Contains-append_left, Contains-append_right}
use Rattle.std.proofs.lemmas.Bool.{false≢true, or_left, or_right}
use Rattle.spec_model.specs.Spec.{those}
use Rattle.spec_model.proofs.Those.{those_more, cases_suc}

-- a member that passes
pub passing_member : (p : ℕ → Bool) (xs : List ℕ) → list_any p xs ≡ true → (x : ℕ) × Contains xs x × (p x ≡ true)
passing_member p [] e = absurd (false≢true e)
passing_member p (x ∷ xs) e = at (p x) refl e (passing_member p xs)
  where
    at : (b : Bool) → p x ≡ b → (b || list_any p xs) ≡ true → (list_any p xs ≡ true → (y : ℕ) × Contains xs y × (p y ≡ true)) → (y : ℕ) × Contains (x ∷ xs) y × (p y ≡ true)
    at true q e later = (x, (0, omega arith, refl), q)
    at false q e later = let y = later e in (y.0, Contains-append_right (x ∷ []) xs y.0 y.1, y.2)

-- a member that passes is found
pub member_passes : (p : ℕ → Bool) (xs : List ℕ) (x : ℕ) → Contains xs x → p x ≡ true → list_any p xs ≡ true
member_passes p [] x member e = absurd (omega (arith, member.1))
member_passes p (y ∷ ys) x (zero, l, same) e = or_left (p y) (list_any p ys) (subst (λ (z : ℕ). p z ≡ true) (sym same) e)
member_passes p (y ∷ ys) x (suc k, l, same) e = or_right (p y) (list_any p ys) (member_passes p ys x (k, omega (arith, l), same) e)

-- each one that passes is among those that do
pub Contains-those : (p : ℕ → Bool) (n i : ℕ) → i < n → p i ≡ true → Contains (those p n) i
Contains-those p zero i h e = absurd (omega (arith, h))
Contains-those p (suc n) i h e =
    let before : Contains (those p n ++ cond (p n) (n ∷ []) []) i = elim (cases_suc i n h) [
      | inl same ↦
          let pn : p n ≡ true = subst (λ (k : ℕ). p k ≡ true) same e in
          Contains-append_right (those p n) (cond (p n) (n ∷ []) []) i (subst (λ (b : Bool). Contains (cond b (n ∷ []) []) i) (sym pn) (0, omega arith, sym same))
      | inr l ↦ Contains-append_left (those p n) (cond (p n) (n ∷ []) []) i (Contains-those p n i l e)
    ] in
    subst (λ (k : ℕ). Contains (those p k) i) (add-one n) (subst (λ (xs : List ℕ). Contains xs i) (sym (those_more p n)) before)
