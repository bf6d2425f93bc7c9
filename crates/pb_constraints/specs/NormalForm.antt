-- The normal form of a signed sum and a degree.
use Rattle.std.specs.Prelude.{◌≡◌, ℕ, Bool, ℤ, pos, negsuc, ◌+ℤ◌, ◌-ℤ◌, ◌<◌, ◌≤◌, ◌^◌, ◌⊎◌, List, map, All, length, slice_index_or}
use Rattle.pb_rules.specs.declared.Term.{Term}
use Rattle.pb_rules.specs.Linear.{Linear, Holds, total}
use Rattle.pb_constraints.specs.declared.parts.Part.{Part}
use Rattle.pb_constraints.specs.declared.normal.NormalFault.{NormalFault}
use Rattle.pb_constraints.specs.declared.normal.NormalFault.TheVariants.{TooLarge, NoMemory}
use Rattle.pb_constraints.specs.SignedSums.{signed_sum, negated_sum, as_part, SignedHolds}

-- a number, or 0 for one below 0
abbrev pub or_zero : ℤ → ℕ
or_zero (pos n) = n
or_zero (negsuc n) = 0

-- the given degree less the negated coefficients of the parts, plus those of the terms, and 0 where this is below 0
abbrev pub normal_degree : List Part → ℤ → List Term → ℕ
normal_degree ps d ts = or_zero ((d -ℤ negated_sum ps) +ℤ negated_sum (map as_part ts))

-- the normal form of parts and a degree: one term of a positive coefficient for each variable whose sum isn't 0, which has that sum, by rising variables
pub record IsNormalOf (ps : List Part) (d : ℤ) (c : Linear) : Type 0 where
  pub positive : All (λ t. 0 < t.coef) c.terms
  pub rising : (i j : ℕ) (e : Term) → i < j → j < length c.terms → (slice_index_or c.terms i e).lit.var < (slice_index_or c.terms j e).lit.var
  pub same : (x : ℕ) → signed_sum x (map as_part c.terms) ≡ signed_sum x ps
  pub degree : c.degree ≡ normal_degree ps d c.terms

-- the two hold under the same assignments
pub record KeepsMeaning (ps : List Part) (d : ℤ) (c : Linear) : Type 0 where
  pub forth : (v : ℕ → Bool) → SignedHolds v ps d → Holds v c
  pub back : (v : ℕ → Bool) → Holds v c → SignedHolds v ps d

-- coefficient sum and degree below 2^63
pub record IsSmall (c : Linear) : Type 0 where
  pub sum : total c.terms < 2 ^ 63
  pub degree : c.degree < 2 ^ 63

-- the normal form has a coefficient sum or a degree of 2^63 or more
pub record IsTooLarge (ps : List Part) (d : ℤ) : Type 0 where
  pub form : Linear
  pub normal : IsNormalOf ps d form
  pub large : (2 ^ 63 ≤ total form.terms) ⊎ (2 ^ 63 ≤ form.degree)

-- which fault may be answered where: want of memory is free
abbrev pub MayRefuse : List Part → ℤ → NormalFault → Type 0
MayRefuse ps d TooLarge = IsTooLarge ps d
MayRefuse ps d NoMemory = Unit {0}
