-- The weight of each kind of design variable, and that it is small.
use Rattle.std.proofs.Common.{◌≡◌, ℕ, ◌+◌, ◌*◌, ◌<◌, ◌≤◌, List, [], ◌++◌, length, get_or, map, refl, sym, ap, ◌∙◌, subst, arith, ◌⊎◌, inl, inr, All}
use Rattle.std.specs.List.{flat_map}
use Rattle.std.proofs.lemmas.List.{get_or_append_left, get_or-append-add, length-append, get_or_past}
use Rattle.std.proofs.lemmas.List.FromFn.{get_or-map-range_with_len, length-map-range_with_len}
use Rattle.std.proofs.lemmas.Nat.{mul-add-lt}
use Rattle.std.proofs.lemmas.Bool.{cases_lt}
use Rattle.spec_model.specs.Limits.{most_number}
use Rattle.spec_model.specs.Spec.{SpecValue, below, design_variables, arc_var, resource_var, link_var}
use Rattle.spec_model.specs.Vectors.{weight_in, arc_weight, arc_weights, weights_of, weight}
use Rattle.spec_model.specs.WellFormed.{IsWellFormed, IsRow, AreRows}
use Rattle.spec_model.proofs.Pieces.{width, piece_of_width}

abbrev option_part : SpecValue → ℕ → List ℕ
option_part s j = map (weight_in s.option_weights j) (below (length s.options))

abbrev arc_part : SpecValue → ℕ → List ℕ
arc_part s j = flat_map (arc_weights s j) (below (length s.messages))

abbrev resource_part : SpecValue → ℕ → List ℕ
resource_part s j = map (weight_in s.resource_weights j) (below (length s.resources))

abbrev link_part : SpecValue → ℕ → List ℕ
link_part s j = map (weight_in s.link_weights j) (below (length s.links))

long_options : (s : SpecValue) (j : ℕ) → length (option_part s j) ≡ length s.options
long_options s j = length-map-range_with_len (weight_in s.option_weights j) 0 (length s.options)

long_row : (s : SpecValue) (j m : ℕ) → length (arc_weights s j m) ≡ length s.arcs
long_row s j m = length-map-range_with_len (arc_weight s j m) 0 (length s.arcs)

long_arcs : (s : SpecValue) (j : ℕ) → length (option_part s j ++ arc_part s j) ≡ length s.options + length s.messages * length s.arcs
long_arcs s j = length-append (option_part s j) (arc_part s j) ∙ omega (arith, long_options s j, width (arc_weights s j) (length s.arcs) (length s.messages) (long_row s j))

long_resources : (s : SpecValue) (j : ℕ) → length (option_part s j ++ arc_part s j ++ resource_part s j) ≡ length s.options + length s.messages * length s.arcs + length s.resources
long_resources s j =
    length-append (option_part s j ++ arc_part s j) (resource_part s j) ∙ omega (arith, long_arcs s j, length-map-range_with_len (weight_in s.resource_weights j) 0 (length s.resources))

-- what stands before the links, the resources and the arcs is read there
first_three : (s : SpecValue) (j v : ℕ) → v < length s.options + length s.messages * length s.arcs + length s.resources
    → weight s j v ≡ get_or (option_part s j ++ arc_part s j ++ resource_part s j) v 0
unfolding weights_of
first_three s j v h = get_or_append_left (option_part s j ++ arc_part s j ++ resource_part s j) (link_part s j) 0 v (omega (arith, h, long_resources s j))

first_two : (s : SpecValue) (j v : ℕ) → v < length s.options + length s.messages * length s.arcs → weight s j v ≡ get_or (option_part s j ++ arc_part s j) v 0
first_two s j v h = first_three s j v (omega (arith, h)) ∙ get_or_append_left (option_part s j ++ arc_part s j) (resource_part s j) 0 v (omega (arith, h, long_arcs s j))

-- the weight of a variable is that of its option,
pub weight_option : (s : SpecValue) (j o : ℕ) → o < length s.options → weight s j o ≡ weight_in s.option_weights j o
weight_option s j o h =
    first_two s j o (omega (arith, h))
    ∙ (get_or_append_left (option_part s j) (arc_part s j) 0 o (omega (arith, h, long_options s j))
    ∙ get_or-map-range_with_len (weight_in s.option_weights j) 0 (length s.options) o o 0 h (omega arith))

-- of its arc,
pub weight_arc : (s : SpecValue) (j m a : ℕ) → m < length s.messages → a < length s.arcs → weight s j (arc_var s m a) ≡ arc_weight s j m a
weight_arc s j m a hm ha =
    let inside : m * length s.arcs + a < length s.messages * length s.arcs = omega (arith, mul-add-lt m (length s.arcs) a (length s.messages) hm ha) in
    let place : arc_var s m a ≡ length (option_part s j) + (m * length s.arcs + a) = omega (arith, long_options s j) in
    first_two s j (arc_var s m a) (omega (arith, inside))
    ∙ (ap (λ (k : ℕ). get_or (option_part s j ++ arc_part s j) k 0) place
    ∙ (get_or-append-add (option_part s j) (arc_part s j) (m * length s.arcs + a) 0
    ∙ (piece_of_width (arc_weights s j) (length s.arcs) (length s.messages) m a 0 (long_row s j) hm ha
    ∙ get_or-map-range_with_len (arc_weight s j m) 0 (length s.arcs) a a 0 ha (omega arith))))

-- of its resource,
pub weight_resource : (s : SpecValue) (j r : ℕ) → r < length s.resources → weight s j (resource_var s r) ≡ weight_in s.resource_weights j r
weight_resource s j r h =
    let place : resource_var s r ≡ length (option_part s j ++ arc_part s j) + r = omega (arith, long_arcs s j) in
    first_three s j (resource_var s r) (omega (arith, h))
    ∙ (ap (λ (k : ℕ). get_or (option_part s j ++ arc_part s j ++ resource_part s j) k 0) place
    ∙ (get_or-append-add (option_part s j ++ arc_part s j) (resource_part s j) r 0
    ∙ get_or-map-range_with_len (weight_in s.resource_weights j) 0 (length s.resources) r r 0 h (omega arith)))

-- or of its link
pub weight_link : (s : SpecValue) (j l : ℕ) → l < length s.links → weight s j (link_var s l) ≡ weight_in s.link_weights j l
unfolding weights_of
weight_link s j l h =
    let place : link_var s l ≡ length (option_part s j ++ arc_part s j ++ resource_part s j) + l = omega (arith, long_resources s j) in
    ap (λ (k : ℕ). get_or (option_part s j ++ arc_part s j ++ resource_part s j ++ link_part s j) k 0) place
    ∙ (get_or-append-add (option_part s j ++ arc_part s j ++ resource_part s j) (link_part s j) l 0
    ∙ get_or-map-range_with_len (weight_in s.link_weights j) 0 (length s.links) l l 0 h (omega arith))

-- a number of the rows is small
pub weight_in_small : (k n : ℕ) (rows : List (List ℕ)) (j i : ℕ) → AreRows k n rows → weight_in rows j i ≤ most_number
weight_in_small k n rows j i h = row_at (cases_lt i (length rows))
  where
    number_at : (row : List ℕ) → All (λ w. w ≤ most_number) row → (j < length row) ⊎ (length row ≤ j) → get_or row j 0 ≤ most_number
    number_at row small (inl l) = small j 0 l
    number_at row small (inr l) = let e = get_or_past row j 0 l in omega (arith, e)

    row_at : (i < length rows) ⊎ (length rows ≤ i) → weight_in rows j i ≤ most_number
    row_at (inl l) = number_at (get_or rows i []) (h.each i [] l).small (cases_lt j (length (get_or rows i [])))
    row_at (inr l) = subst (λ (row : List ℕ). get_or row j 0 ≤ most_number) (sym (get_or_past rows i [] l)) (omega arith)

-- the weight of an arc is at most the greatest number
pub arc_weight_small : (s : SpecValue) (j m a : ℕ) → IsWellFormed s → m < length s.messages → a < length s.arcs → arc_weight s j m a ≤ most_number
unfolding arc_weight
arc_weight_small s j m a w hm ha = w.products m a j hm ha
