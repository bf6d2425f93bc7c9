-- The weights of the variables, the vector of a design, and which vectors dominate.
use Rattle.std.specs.Prelude.{◌≡◌, ◌≢◌, ℕ, ◌+◌, ◌*◌, ◌≤◌, Bool, cond, List, [], ◌++◌, length, map, sum_by, slice_index, slice_index_or}
use Rattle.std.specs.List.{flat_map}
use Rattle.spec_model.specs.Spec.{SpecValue, Bits, below, arc_at, message_at, design_variables}
use Rattle.spec_model.specs.Rules.{IsValid}

-- number j of row i, 0 where there is none
abbrev pub weight_in : List (List ℕ) → ℕ → ℕ → ℕ
weight_in rows j i = slice_index_or (slice_index_or rows i []) j 0

-- the weight of an arc for a message: its link's traffic weight times what the message carries
unfoldable pub arc_weight : SpecValue → ℕ → ℕ → ℕ → ℕ
arc_weight s j m a = weight_in s.traffic_weights j (arc_at s a).link * (message_at s m).quantity

abbrev pub arc_weights : SpecValue → ℕ → ℕ → List ℕ
arc_weights s j m = map (arc_weight s j m) (below (length s.arcs))

-- the weights of objective j, one for each design variable in the order of their numbers
unfoldable pub weights_of : SpecValue → ℕ → List ℕ
weights_of s j =
    map (weight_in s.option_weights j) (below (length s.options))
    ++ flat_map (arc_weights s j) (below (length s.messages))
    ++ map (weight_in s.resource_weights j) (below (length s.resources))
    ++ map (weight_in s.link_weights j) (below (length s.links))

-- the weight that objective j gives a variable
abbrev pub weight : SpecValue → ℕ → ℕ → ℕ
weight s j v = slice_index_or (weights_of s j) v 0

abbrev pub weight_if_true : SpecValue → Bits → ℕ → ℕ → ℕ
weight_if_true s f j v = cond (f v) (weight s j v) 0

-- number j of the vector of a design: the weights of its true variables, added up
unfoldable pub vector_at : SpecValue → Bits → ℕ → ℕ
vector_at s f j = sum_by (weight_if_true s f j) (below (design_variables s))

-- the vector of a design, a number for each objective
abbrev pub vector_of : SpecValue → Bits → List ℕ
vector_of s f = map (vector_at s f) (below (length s.objectives))

-- u is at most v in each place
abbrev pub IsAtMost : List ℕ → List ℕ → Type 0
IsAtMost u v = (j : ℕ) → slice_index u j ≤ slice_index v j

abbrev pub Dominates : List ℕ → List ℕ → Type 0
Dominates u v = IsAtMost u v × (u ≢ v)

-- v is the vector of a valid design, and no valid design's vector dominates it
pub record IsInFront (s : SpecValue) (v : List ℕ) : Type 0 where
  pub design : Bits
  pub valid : IsValid s design
  pub vector : vector_of s design ≡ v
  pub undominated : (g : Bits) → IsValid s g → ¬ Dominates (vector_of s g) v
