-- What the answers of tests say, over plain variables.
use Rattle.std.proofs.Common.{◌≡◌, ℕ, ◌≤◌, Bool, true, false, nat_eq, nat_lt, not, refl, arith}
use Rattle.std.specs.Bool.{OnFalse}
use Rattle.std.proofs.lemmas.Bool.Decides.{nat_tests}

pub unequal_number : (a b : ℕ) → not (nat_eq a b) ≡ true → ¬ (a ≡ b)
unequal_number a b e same = grind (arith, nat_tests, e, same)

pub more_than_one : (n : ℕ) → nat_lt 1 n ≡ true → 2 ≤ n
more_than_one n e = grind (arith, nat_tests, e)

pub OnFalse-not : (b : Bool) (P : Type 0) → (b ≡ true → P) → OnFalse (not b) P
OnFalse-not true P h = h refl
OnFalse-not false P h = tt
