-- The sums of the variables on the way to the normal form.
use Rattle.std.specs.Prelude.{◌≡◌, ℕ, Bool, ℤ, pos, negsuc, ◌+ℤ◌, ◌+◌, ◌*◌, ◌<◌, ◌≤◌, ◌^◌, zero, suc, List, [], ◌∷◌, ◌++◌, All, sum_by, length, slice_index_or, if◌then◌else◌, true, false}
use Rattle.std.specs.Int.RustNames.{unsigned_abs}
use Rattle.pb_rules.specs.declared.Term.{Term}
use Rattle.pb_constraints.specs.declared.parts.Part.{Part}
use Rattle.pb_constraints.specs.declared.groups.Group.{Group}
use Rattle.pb_constraints.specs.SignedSums.{sum_z, share}

abbrev pub var_of : Part → ℕ
var_of p = p.lit.var

-- what a group adds to the sum over the variables of a set
abbrev pub group_share : (ℕ → Bool) → Group → ℤ
group_share q g = if q g.var then g.sum else pos 0

-- the coefficient of a group's term
abbrev pub magnitude : Group → ℕ
magnitude g = unsigned_abs g.sum

abbrev pub is_positive : ℤ → Bool
is_positive (pos n) = true
is_positive (negsuc n) = false

-- how far a number is below 0
abbrev pub below_zero : ℤ → ℕ
below_zero (pos n) = 0
below_zero (negsuc n) = n + 1

-- what a group adds to the degree: its term's coefficient where the literal is negated
abbrev pub flipped : Group → ℕ
flipped g = below_zero g.sum

-- the term that has the group's sum
abbrev pub term_of : Group → Term
term_of g = record { coef = unsigned_abs g.sum; lit = record { var = g.var; yes = is_positive g.sum } }

-- variables in rising order
abbrev pub Rises : List Group → Type 0
Rises gs = (i j : ℕ) (e : Group) → i < j → j < length gs → (slice_index_or gs i e).var < (slice_index_or gs j e).var

-- groups in order that have the sums of the parts
pub record AreGroupsOf (ps : List Part) (gs : List Group) : Type 0 where
  pub nonzero : All (λ g. 0 < unsigned_abs g.sum) gs
  pub small : All (λ g. g.var < 2 ^ 62) gs
  pub rising : Rises gs
  pub same : (q : ℕ → Bool) → sum_z (group_share q) gs ≡ sum_z (share q) ps
  pub bound : sum_by magnitude gs ≤ 2 ^ 63 * length ps

-- closed groups, and one of variable x whose sum is z so far
pub record IsGrouping (ps : List Part) (gs : List Group) (x : ℕ) (z : ℤ) : Type 0 where
  pub nonzero : All (λ g. 0 < unsigned_abs g.sum) gs
  pub small : All (λ g. g.var < 2 ^ 62) gs
  pub small_last : x < 2 ^ 62
  pub rising : Rises gs
  pub below : All (λ g. g.var < x) gs
  pub same : (q : ℕ → Bool) → sum_z (group_share q) gs +ℤ group_share q (record { var = x; sum = z }) ≡ sum_z (share q) ps
  pub bound : sum_by magnitude gs + unsigned_abs z ≤ 2 ^ 63 * length ps

-- the groups once the last one is closed: a sum of 0 is no group
abbrev pub closed : List Group → ℕ → ℤ → List Group
closed gs x (pos zero) = gs
closed gs x (pos (suc n)) = gs ++ record { var = x; sum = pos (suc n) } ∷ []
closed gs x (negsuc n) = gs ++ record { var = x; sum = negsuc n } ∷ []
