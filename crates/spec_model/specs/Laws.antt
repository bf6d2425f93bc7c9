-- What vectors of designs are like.
use Rattle.std.specs.Prelude.{◌≡◌, ℕ, ◌⊎◌, List, length}
use Rattle.spec_model.specs.Spec.{SpecValue, Bits}
use Rattle.spec_model.specs.Rules.{IsValid}
use Rattle.spec_model.specs.Vectors.{vector_of, IsAtMost}
use Rattle.spec_model.specs.Genotypes.{IsSameDesign}

-- the same design has the same vector
abbrev pub SameDesignSameVector : Type 0
SameDesignSameVector = (s : SpecValue) (f g : Bits) → IsSameDesign s f g → vector_of s f ≡ vector_of s g

-- and is valid too
abbrev pub SameDesignValid : Type 0
SameDesignValid = (s : SpecValue) (f g : Bits) → IsSameDesign s f g → IsValid s f → IsValid s g

-- a vector is at most itself,
abbrev pub AtMostItself : Type 0
AtMostItself = (u : List ℕ) → IsAtMost u u

-- at most what a greater one is at most,
abbrev pub AtMostThrough : Type 0
AtMostThrough = (u v w : List ℕ) → IsAtMost u v → IsAtMost v w → IsAtMost u w

-- and the same as one that is at most it too
abbrev pub AtMostBoth : Type 0
AtMostBoth = (u v : List ℕ) → length u ≡ length v → IsAtMost u v → IsAtMost v u → u ≡ v

-- it is at most another, or not
abbrev pub AtMostOrNot : Type 0
AtMostOrNot = (u v : List ℕ) → IsAtMost u v ⊎ (¬ IsAtMost u v)
