-- Truth values of `or` and `and`, and a set after a change.
use Rattle.std.proofs.Common.{◌≡◌, ℕ, ◌<◌, ◌≤◌, Bool, true, List, [], length, get_or, set, sym, ap, ◌∙◌, arith, inl, inr}
use Rattle.std.specs.Prelude.{◌||◌, ◌&&◌, ◌==◌}
use Rattle.std.proofs.lemmas.Bool.{false≢true}
use Rattle.std.proofs.lemmas.List.{get_or-set_same, get_or-set_other, get_or_default}
use Rattle.std.proofs.lemmas.Bool.Decides.{eqb_tells}
use Rattle.task_order.specs.Order.{is_in, comes_after, is_joined}

-- ---- the steps of a loop that puts the tasks of another set into a set

-- what is done of it, for the tasks below i
pub record Merging (old other now : List Bool) (i : ℕ) : Type 0 where
  pub long : length now ≡ length old
  pub done : (t : ℕ) → t < i → is_in now t ≡ (is_in old t || is_in other t)
  pub rest : (t : ℕ) → i ≤ t → is_in now t ≡ is_in old t

-- ---- the steps of a loop that joins row after row

-- what is done of it, for the rows below i
pub record Joining (old : List (List Bool)) (sender : ℕ) (after : List Bool) (now : List (List Bool)) (i : ℕ) : Type 0 where
  pub long : length now ≡ length old
  pub done : (a b : ℕ) → a < i → comes_after now a b ≡ is_joined old sender after a b
  pub rest : (a : ℕ) → i ≤ a → get_or now a [] ≡ get_or old a []

-- numbers that the test calls the same are
pub same_from : (x y : ℕ) → (x == y) ≡ true → x ≡ y
same_from x y e = elim (eqb_tells x y) [ inl h ↦ h.1 | inr h ↦ absurd (false≢true (sym h.0 ∙ e)) ]
