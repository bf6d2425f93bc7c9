-- The block of a cover: a design can be made a model of it exactly where the cover's vector doesn't cover the design's.
use Rattle.std.specs.Prelude.{ℕ, false, ◌+◌, ◌-◌, ◌*◌, ◌<◌, ◌≤◌, List, [], ◌∷◌, ◌++◌, length, map, sum_by, slice_index}
use Rattle.pb_rules.specs.declared.Term.{Term}
use Rattle.pb_rules.specs.Linear.{Linear}
use Rattle.pb_rules.specs.Frames.{Frame}
use Rattle.spec_model.specs.Spec.{SpecValue, below, those, design_variables, all_variables}
use Rattle.spec_model.specs.Vectors.{weight}
use Rattle.encode_model.specs.Encoding.{weighted, has_weight, positive, at_least, encoding}

-- the weights of an objective, added up
unfoldable pub total_weight : SpecValue → ℕ → ℕ
total_weight s j = sum_by (weight s j) (below (design_variables s))

-- no number of a vector is above its objective's weights, added up
abbrev pub IsWithinWeights : SpecValue → List ℕ → Type 0
IsWithinWeights s v = (j : ℕ) → j < length v → slice_index v j ≤ total_weight s j

-- variable j of the block of cover number b, from 1: where it is true, the design is below the cover in objective j
abbrev pub below_var : SpecValue → ℕ → ℕ → ℕ
below_var s b j = all_variables s + (b - 1) * length s.objectives + j

unfoldable pub is_below : SpecValue → ℕ → ℕ → Term
is_below s b j = positive (below_var s b j)

-- the design is below the cover in some objective; with no objective this is `0 >= 1`
abbrev pub below_somewhere : SpecValue → ℕ → Linear
below_somewhere s b = at_least 1 (map (is_below s b) (below (length s.objectives)))

-- the weights that a design doesn't use
abbrev pub unused_terms : SpecValue → ℕ → List Term
unused_terms s j = map (weighted (weight s j) false) (those (has_weight (weight s j)) (design_variables s))

-- how much of objective j a design below n leaves unused, at least
abbrev pub gap : SpecValue → ℕ → ℕ → ℕ
gap s j n = total_weight s j - n + 1

abbrev pub not_below : SpecValue → ℕ → ℕ → ℕ → Term
not_below s b j n = record { coef = gap s j n; lit = record { var = below_var s b j; yes = false } }

-- where variable j of the block is true, the design leaves so much of objective j unused that it is below n
abbrev pub below_number : SpecValue → ℕ → ℕ → ℕ → Linear
below_number s b j n = at_least (gap s j n) (unused_terms s j ++ not_below s b j n ∷ [])

unfoldable pub below_place : SpecValue → ℕ → List ℕ → ℕ → Linear
below_place s b v j = below_number s b j (slice_index v j)

-- the block of cover number b with vector v
unfoldable pub block_of : SpecValue → ℕ → List ℕ → List Linear
block_of s b v = below_somewhere s b ∷ map (below_place s b v) (below (length v))

-- a specification's frame: its encoding and the blocks of covers
abbrev pub cover_frame : SpecValue → Frame
cover_frame s = record { base = encoding s; block = block_of s }
