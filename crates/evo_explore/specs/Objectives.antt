-- The weights of the linear objectives, laid out.
use Rattle.std.specs.Prelude.{ℕ, List, length, map}
use Rattle.spec_model.specs.Spec.{SpecValue, below, design_variables}
use Rattle.spec_model.specs.Vectors.{weight}

-- the weight that objective j gives each design variable, by the variable's number
abbrev pub laid_out : SpecValue → ℕ → List ℕ
laid_out s j = map (weight s j) (below (design_variables s))

-- the same of each objective
abbrev pub all_laid_out : SpecValue → List (List ℕ)
all_laid_out s = map (laid_out s) (below (length s.objectives))
