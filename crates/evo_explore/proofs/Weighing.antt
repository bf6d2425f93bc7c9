-- The weights of a design's true variables, added up by bytes.
use Rattle.std.proofs.Common.{◌≡◌, ℕ, ◌+◌, ◌*◌, ◌<◌, ◌≤◌, ◌^◌, Bool, false, cond, List, [], ◌∷◌, ◌++◌, All, zero, suc, add-one, length, map, take, get_or, sum, refl, ap, ap₂, sym, ◌∙◌, subst, arith}
use Rattle.std.specs.List.{sum_by}
use Rattle.std.proofs.lemmas.List.{take_more, take_all, length-take-le, length-map, get_or-map}
use Rattle.std.proofs.lemmas.List.FromFn.{length-map-range_with_len, get_or-map-range_with_len}
use Rattle.std.proofs.lemmas.List.Sums.{sum_by-append}
use Rattle.spec_model.specs.Spec.{SpecValue, bits_of, below, design_variables}
use Rattle.spec_model.specs.Vectors.{weight, vector_at}
use Rattle.spec_model.proofs.Those.{map-below_more, sum_by-below_more}
use Rattle.impl_rules.specs.Bytes.{IsBit, bit_in, bits_in}
use Rattle.dominance_lanes.specs.Weighted.{weighted}
use Rattle.dominance_lanes.proofs.WeightedSums.{weighted-append}
use Rattle.evo_explore.specs.Objectives.{laid_out, all_laid_out}

pub length-map_below : {A : Type 0} (g : ℕ → A) (n : ℕ) → length (map g (below n)) ≡ n
length-map_below g n = length-map-range_with_len g 0 n

-- a byte times a weight
byte_times : (b w : ℕ) → b < 2 → cond (bit_in b) w 0 ≡ b * w
byte_times zero w h = omega arith
byte_times (suc zero) w h = omega arith
byte_times (suc (suc b)) w h = absurd (omega (arith, h))

weighted_more : (bytes : List ℕ) (g : ℕ → ℕ) (v : ℕ) → v < length bytes → get_or bytes v 0 < 2
    → weighted (take v bytes) (map g (below v)) ≡ sum_by (λ i. cond (bits_of (bits_in bytes) i) (g i) 0) (below v)
    → weighted (take (v + 1) bytes) (map g (below (v + 1))) ≡ sum_by (λ i. cond (bits_of (bits_in bytes) i) (g i) 0) (below (v + 1))
weighted_more bytes g v h bit before =
    let b = get_or bytes v 0 in
    let bit_is : cond (bits_of (bits_in bytes) v) (g v) 0 ≡ b * g v = ap (λ (x : Bool). cond x (g v) 0) (get_or-map bit_in bytes v 0 false h) ∙ byte_times b (g v) bit in
    let left = ap₂ weighted (take_more bytes v 0 h) (map-below_more g v)
    ∙ weighted-append (take v bytes) (b ∷ []) (map g (below v)) (g v ∷ []) (length-take-le v bytes (omega (arith, h)) ∙ sym (length-map_below g v)) in
    omega (arith, left, bit_is, before, sum_by-below_more (λ i. cond (bits_of (bits_in bytes) i) (g i) 0) v)

weighted_below : (bytes : List ℕ) (g : ℕ → ℕ) (v : ℕ) → v ≤ length bytes → All IsBit bytes
    → weighted (take v bytes) (map g (below v)) ≡ sum_by (λ i. cond (bits_of (bits_in bytes) i) (g i) 0) (below v)
weighted_below bytes g zero h all = refl
weighted_below bytes g (suc v) h all =
    subst (λ n. weighted (take n bytes) (map g (below n)) ≡ sum_by (λ i. cond (bits_of (bits_in bytes) i) (g i) 0) (below n)) (add-one v)
    (weighted_more bytes g v h (all v 0 h) (weighted_below bytes g v (omega (arith, h)) all))

-- bytes and laid out weights give a number of the vector
pub number_is : (s : SpecValue) (j : ℕ) (bytes ws : List ℕ) (bits : List Bool) → bits ≡ bits_in bytes → All IsBit bytes → length bits ≡ length ws → ws ≡ laid_out s j
    → weighted bytes ws ≡ vector_at s (bits_of bits) j
unfolding vector_at
number_is s j bytes ws bits view all same laid =
    let n = design_variables s in
    let long : length bytes ≡ n = sym (length-map bytes bit_in) ∙ ap length (sym view) ∙ same ∙ ap length laid ∙ length-map_below (weight s j) n in
    let whole : take n bytes ≡ bytes = take_all n bytes (omega (arith, long)) in
    ap₂ weighted (sym whole) laid ∙ weighted_below bytes (weight s j) n (omega (arith, long)) all
    ∙ ap (λ (bs : List Bool). vector_at s (bits_of bs) j) (sym view)

-- one weight more
pub sum_more : (ws next : List ℕ) (w v : ℕ) → sum ws ≤ v * 2 ^ 40 → w ≤ 2 ^ 40 → next ≡ ws ++ w ∷ [] → sum next ≤ (v + 1) * 2 ^ 40
sum_more ws next w v before small e = omega (arith, before, small, ap sum e, sum_by-append (λ x. x) ws (w ∷ []))

-- how many objectives are laid out
pub rows_are : (s : SpecValue) (rows : List (List ℕ)) → rows ≡ all_laid_out s → length rows ≡ length s.objectives
rows_are s rows e = ap length e ∙ length-map_below (laid_out s) (length s.objectives)

-- the weights of one objective, read among all
pub row_is : (s : SpecValue) (rows : List (List ℕ)) (j : ℕ) (row : List ℕ) → rows ≡ all_laid_out s → j < length s.objectives → row ≡ get_or rows j row → row ≡ laid_out s j
row_is s rows j row e h read = read ∙ ap (λ (r : List (List ℕ)). get_or r j row) e ∙ get_or-map-range_with_len (laid_out s) 0 (length s.objectives) j j row h (omega arith)
