-- The sum of cutting planes and the normal form.
use Rattle.std.specs.Prelude.{pos, ◌+ℤ◌, ◌++◌, map}
use Rattle.pb_rules.specs.Linear.{Linear, IsNormal}
use Rattle.pb_rules.specs.CuttingPlanes.{add}
use Rattle.pb_constraints.specs.SignedSums.{as_part}
use Rattle.pb_constraints.specs.NormalForm.{IsNormalOf}

-- the sum of two constraints in normal form is the normal form of the parts of both and the sum of their degrees
abbrev pub SumsAreNormalForms : Type 0
SumsAreNormalForms = (a b : Linear) → IsNormal a.terms a.degree → IsNormal b.terms b.degree → IsNormalOf (map as_part a.terms ++ map as_part b.terms) (pos a.degree +ℤ pos b.degree) (add a b)
