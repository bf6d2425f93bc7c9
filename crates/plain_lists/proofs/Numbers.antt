-- Tests of numbers.
use Rattle.std.proofs.Common.{◌≡◌, ℕ, eqb, arith}
use Rattle.std.proofs.lemmas.Bool.Decides.{nat_tests}

-- a test of two numbers doesn't ask for their order
pub eqb_comm : (a b : ℕ) → eqb a b ≡ eqb b a
eqb_comm a b = grind (arith, nat_tests)
