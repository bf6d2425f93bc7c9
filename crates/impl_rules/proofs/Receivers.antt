-- A search among the receivers of a message.
use Rattle.std.proofs.Common.{◌≡◌, ℕ, zero, suc, Bool, true, List, [], ◌∷◌, nat_eq, sym, ◌∙◌, arith, ◌⊎◌, inl, inr}
use Rattle.std.specs.Prelude.{Contains, map, ◌↔◌}
use Rattle.std.specs.List.{list_any}
use Rattle.std.proofs.lemmas.Bool.{false≢true, or_cases, or_right, or_left, eqb-true, eq-eqb}
use Rattle.spec_graph.specs.declared.numbers.TaskNo.{TaskNo}
use Rattle.spec_graph.specs.Lists.{task_number}

-- whether a task has a number
abbrev pub has_number : ℕ → TaskNo → Bool
has_number t y = nat_eq y.0 t

Contains-split : (x : ℕ) (xs : List ℕ) (y : ℕ) → Contains (x ∷ xs) y → (x ≡ y) ⊎ Contains xs y
Contains-split x xs y (zero, l, e) = inl e
Contains-split x xs y (suc k, l, e) = inr (k, omega (arith, l), e)

found : (t : ℕ) (ts : List TaskNo) → list_any (has_number t) ts ≡ true → Contains (map task_number ts) t
found t [] e = absurd (false≢true e)
found t (x ∷ ts) e =
    elim (or_cases (has_number t x) (list_any (has_number t) ts) e) [
      | inl here ↦ (0, omega arith, eqb-true x.0 t here)
      | inr later ↦ let c = found t ts later in (suc c.0, omega (arith, c.1), c.2)
    ]

passes : (t : ℕ) (ts : List TaskNo) → Contains (map task_number ts) t → list_any (has_number t) ts ≡ true
passes t [] c = absurd (omega (arith, c.1))
passes t (x ∷ ts) c =
    elim (Contains-split x.0 (map task_number ts) t c) [
      | inl here ↦ or_left (has_number t x) (list_any (has_number t) ts) (eq-eqb x.0 t here)
      | inr later ↦ or_right (has_number t x) (list_any (has_number t) ts) (passes t ts later)
    ]

pub is_receiver_found : (t : ℕ) (ts : List TaskNo) (numbers : List ℕ) (answer : Bool) → map task_number ts ≡ numbers → answer ≡ list_any (has_number t) ts → (answer ≡ true) ↔ Contains numbers t
is_receiver_found t ts numbers answer e is =
    (λ h. rw (← e) (found t ts (sym is ∙ h)), λ c. is ∙ passes t ts (rw (← e) at c))
