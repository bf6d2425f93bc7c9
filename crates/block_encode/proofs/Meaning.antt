-- What a block says of designs.
use Rattle.std.proofs.Common.{◌≡◌, ℕ, zero, suc, ◌+◌, ◌-◌, ◌<◌, ◌≤◌, Bool, true, false, not, cond, ltb, List, [], ◌∷◌, ◌++◌, length, map, refl, sym, ap, ◌∙◌, subst, arith, add-one, ◌⊎◌, inl, inr}
use Rattle.std.specs.Prelude.{slice_index}
use Rattle.std.specs.List.{sum_by, count_by}
use Rattle.std.proofs.lemmas.Bool.{cases_lt, lt-ltb, le-ltb, ltb-true}
use Rattle.std.proofs.lemmas.List.{get_or_past}
use Rattle.std.proofs.lemmas.List.Elements.{All-cons, All-head, All-tail}
use Rattle.std.proofs.lemmas.List.FromFn.{get_or-map-range_with_len}
use Rattle.std.proofs.lemmas.List.Sums.{sum_by-append, sum_by-cons}
use Rattle.pb_rules.specs.declared.Term.{Term}
use Rattle.pb_rules.specs.Literal.{lit_true}
use Rattle.pb_rules.specs.Linear.{Holds, true_weight}
use Rattle.pb_rules.proofs.Sums.{true_weight-cons}
use Rattle.spec_model.specs.Spec.{SpecValue, Bits, below, design_variables, all_variables}
use Rattle.spec_model.specs.Vectors.{weight, weight_if_true, vector_at, vector_of, IsAtMost}
use Rattle.spec_model.proofs.Counts.{some_below, counted_below}
use Rattle.spec_model.proofs.Joined.{All-one, All-ones}
use Rattle.spec_model.proofs.Sums.{sum_by_map}
use Rattle.spec_model.proofs.Those.{sum_by-below_more}
use Rattle.spec_model.specs.Genotypes.{IsSameDesign}
use Rattle.spec_model.proofs.Vectors.{same_number, same_vector}
use Rattle.encode_model.specs.Encoding.{weighted, has_weight}
use Rattle.encode_model.proofs.Weights.{true_weight-append, at_least-holds, holds-at_least}
use Rattle.encode_model.specs.Block.{total_weight, IsWithinWeights, below_var, is_below, below_somewhere, unused_terms, gap, not_below, below_number, below_place, block_of}
use Rattle.block_encode.specs.Laws.{AgreeOutside, Extends, UncoveredExtend, ModelsAreUncovered}
use Rattle.block_encode.proofs.Adding.{unused_below, unused_more}

abbrev counts : Bits → Term → ℕ
counts f t = cond (lit_true f t.lit) t.coef 0

-- what a variable adds to the weights that a design leaves unused, and to the design's own
one_variable : (s : SpecValue) (f : Bits) (j x : ℕ) → true_weight f (map (weighted (weight s j) false) (cond (has_weight (weight s j) x) (x ∷ []) [])) + weight_if_true s f j x ≡ weight s j x
unfolding has_weight weighted
one_variable s f j x = at (cases_lt 0 (weight s j x))
  where
    split : (b : Bool) (w : ℕ) → cond (not b) w 0 + cond b w 0 ≡ w
    split true w = omega arith
    split false w = omega arith

    none : (b : Bool) (w : ℕ) → w ≡ 0 → cond b w 0 ≡ w
    none true w e = refl
    none false w e = sym e

    at : (0 < weight s j x) ⊎ (weight s j x ≤ 0) → true_weight f (map (weighted (weight s j) false) (cond (ltb 0 (weight s j x)) (x ∷ []) [])) + weight_if_true s f j x ≡ weight s j x
    at (inl l) = subst (λ (b : Bool). true_weight f (map (weighted (weight s j) false) (cond b (x ∷ []) [])) + weight_if_true s f j x ≡ weight s j x) (sym (lt-ltb 0 (weight s j x) l))
        (omega (arith, sum_by-cons (counts f) (weighted (weight s j) false x) [], split (f x) (weight s j x)))
    at (inr l) =
        let no_weight : weight s j x ≡ 0 = omega (arith, l) in
        subst (λ (b : Bool). true_weight f (map (weighted (weight s j) false) (cond b (x ∷ []) [])) + weight_if_true s f j x ≡ weight s j x) (sym (le-ltb 0 (weight s j x) l))
        (omega (arith, no_weight, none (f x) (weight s j x) no_weight))

-- the weights that a design leaves unused and its own are all weights
unused_and_used : (s : SpecValue) (f : Bits) (j n : ℕ) → true_weight f (unused_below s j n) + sum_by (weight_if_true s f j) (below n) ≡ sum_by (weight s j) (below n)
unused_and_used s f j zero = refl
unused_and_used s f j (suc n) =
    subst (λ (k : ℕ). true_weight f (unused_below s j k) + sum_by (weight_if_true s f j) (below k) ≡ sum_by (weight s j) (below k)) (add-one n)
    (omega (
      arith,
      ap (true_weight f) (unused_more s j n),
      sum_by-append (counts f) (unused_below s j n) (map (weighted (weight s j) false) (cond (has_weight (weight s j) n) (n ∷ []) [])),
      sum_by-below_more (weight_if_true s f j) n,
      sum_by-below_more (weight s j) n,
      one_variable s f j n,
      unused_and_used s f j n,
    ))

used : (s : SpecValue) (f : Bits) (j : ℕ) → true_weight f (unused_terms s j) + vector_at s f j ≡ total_weight s j
unfolding vector_at total_weight
used s f j = unused_and_used s f j (design_variables s)

-- one constraint: where its own variable is true, the design is below the number
number_weight : (s : SpecValue) (f : Bits) (b j n : ℕ) → true_weight f (unused_terms s j ++ not_below s b j n ∷ []) ≡ true_weight f (unused_terms s j) + cond (not (f (below_var s b j))) (gap s j n) 0
number_weight s f b j n =
    true_weight-append f (unused_terms s j) (not_below s b j n ∷ []) ∙ ap (λ (k : ℕ). true_weight f (unused_terms s j) + k) (true_weight-cons f (not_below s b j n) [] ∙ omega arith)

below_of_true : (s : SpecValue) (f : Bits) (b j n : ℕ) → Holds f (below_number s b j n) → f (below_var s b j) ≡ true → vector_at s f j < n
below_of_true s f b j n h t =
    let own : cond (not (f (below_var s b j))) (gap s j n) 0 ≡ 0 = ap (λ (x : Bool). cond (not x) (gap s j n) 0) t in
    omega (arith, holds-at_least f (gap s j n) (unused_terms s j ++ not_below s b j n ∷ []) h, number_weight s f b j n, own, used s f j)

true_of_below : (s : SpecValue) (f : Bits) (b j n : ℕ) → n ≤ total_weight s j → (f (below_var s b j) ≡ true → vector_at s f j < n) → Holds f (below_number s b j n)
true_of_below s f b j n l h = at_least-holds f (gap s j n) (unused_terms s j ++ not_below s b j n ∷ []) (at (f (below_var s b j)) refl)
  where
    at : (x : Bool) → f (below_var s b j) ≡ x → gap s j n ≤ true_weight f (unused_terms s j ++ not_below s b j n ∷ [])
    at true e = omega (arith, l, h e, number_weight s f b j n, used s f j)
    at false e =
        let own : cond (not (f (below_var s b j))) (gap s j n) 0 ≡ gap s j n = ap (λ (x : Bool). cond (not x) (gap s j n) 0) e in
        omega (arith, number_weight s f b j n, own)

-- some variable of the block is true
abbrev own_bit : SpecValue → Bits → ℕ → ℕ → Bool
own_bit s f b j = f (below_var s b j)

somewhere_weight : (s : SpecValue) (f : Bits) (b : ℕ) → true_weight f (map (is_below s b) (below (length s.objectives))) ≡ count_by (own_bit s f b) (below (length s.objectives))
unfolding is_below
somewhere_weight s f b = sum_by_map (counts f) (is_below s b) (below (length s.objectives))

-- a number of a design's vector is its number in that objective
pub number_of_vector : (s : SpecValue) (f : Bits) (j : ℕ) → j < length s.objectives → slice_index (vector_of s f) j ≡ vector_at s f j
number_of_vector s f j l = get_or-map-range_with_len (vector_at s f) 0 (length s.objectives) j j 0 l (omega arith)

-- a model of a block isn't covered
pub models_are_uncovered : ModelsAreUncovered
unfolding block_of below_place
models_are_uncovered s b v f long model covers =
    let first = All-head (Holds f) (below_somewhere s b) (map (below_place s b v) (below (length v))) model in
    let rest = All-tail (Holds f) (below_somewhere s b) (map (below_place s b v) (below (length v))) model in
    let x = some_below (own_bit s f b) (length s.objectives) (omega (arith, holds-at_least f 1 (map (is_below s b) (below (length s.objectives))) first, somewhere_weight s f b)) in
    let place : Holds f (below_number s b x.0 (slice_index v x.0)) = All-one (Holds f) (below_place s b v) (length v) x.0 rest (omega (arith, x.1, long)) in
    omega (arith, below_of_true s f b x.0 (slice_index v x.0) place x.2, covers x.0, number_of_vector s f x.0 x.1)

-- Assignments that differ in the block's own variables alone have one vector.
pub same_design : (s : SpecValue) (b : ℕ) (f g : Bits) → AgreeOutside s b f g → IsSameDesign s f g
unfolding all_variables
same_design s b f g h x l = h x (λ j k e. absurd (omega (arith, l, e)))

-- From a design that isn't covered to a model.
module _ (s : SpecValue) (b : ℕ) (v : List ℕ) (f : Bits) (long : length v ≡ length s.objectives) where
  abbrev is_less : ℕ → Bool
  is_less j = ltb (vector_at s f j) (slice_index v j)

  abbrev start : ℕ
  start = below_var s b 0

  -- the block's own variables are true where the design is below the cover
  abbrev extended : Bits
  extended x = cond (ltb x start) (f x) (cond (ltb (x - start) (length s.objectives)) (is_less (x - start)) (f x))

  at_own : (j : ℕ) → j < length s.objectives → extended (below_var s b j) ≡ is_less j
  at_own j l =
      let place : below_var s b j - start ≡ j = omega arith in
      ap (λ (t : Bool). cond t (f (below_var s b j)) (cond (ltb (below_var s b j - start) (length s.objectives)) (is_less (below_var s b j - start)) (f (below_var s b j))))
      (le-ltb (below_var s b j) start (omega arith))
      ∙ (ap (λ (i : ℕ). cond (ltb i (length s.objectives)) (is_less i) (f (below_var s b j))) place ∙ ap (λ (t : Bool). cond t (is_less j) (f (below_var s b j))) (lt-ltb j (length s.objectives) l))

  elsewhere : AgreeOutside s b extended f
  elsewhere x h = at (cases_lt x start) (cases_lt (x - start) (length s.objectives))
    where
      at : (x < start) ⊎ (start ≤ x) → (x - start < length s.objectives) ⊎ (length s.objectives ≤ x - start) → extended x ≡ f x
      at (inl l) k = ap (λ (t : Bool). cond t (f x) (cond (ltb (x - start) (length s.objectives)) (is_less (x - start)) (f x))) (lt-ltb x start l)
      at (inr l) (inl k) = absurd (h (x - start) k (omega (arith, l)))
      at (inr l) (inr k) =
          ap (λ (t : Bool). cond t (f x) (cond (ltb (x - start) (length s.objectives)) (is_less (x - start)) (f x))) (le-ltb x start l)
          ∙ ap (λ (t : Bool). cond t (is_less (x - start)) (f x)) (le-ltb (x - start) (length s.objectives) k)

  -- no number below: covered
  covered_of_none : count_by is_less (below (length s.objectives)) ≡ 0 → IsAtMost v (vector_of s f)
  covered_of_none e j = at (cases_lt j (length s.objectives))
    where
      at : (j < length s.objectives) ⊎ (length s.objectives ≤ j) → slice_index v j ≤ slice_index (vector_of s f) j
      at (inl l) =
          elim (cases_lt (vector_at s f j) (slice_index v j)) [
            | inl less ↦ absurd (omega (arith, e, counted_below is_less (length s.objectives) j l (lt-ltb (vector_at s f j) (slice_index v j) less)))
            | inr more ↦ omega (arith, more, number_of_vector s f j l)
          ]
      at (inr l) = omega (arith, get_or_past v j 0 (omega (arith, l, long)))

  some_less : ¬ IsAtMost v (vector_of s f) → 1 ≤ count_by is_less (below (length s.objectives))
  some_less h =
      elim (cases_lt 0 (count_by is_less (below (length s.objectives)))) [
        | inl l ↦ omega (arith, l)
        | inr l ↦ absurd (h (covered_of_none (omega (arith, l))))
      ]

  place_holds : IsWithinWeights s v → (j : ℕ) → j < length v → Holds extended (below_place s b v j)
  unfolding below_place
  place_holds within j l =
      let there : j < length s.objectives = omega (arith, l, long) in
      true_of_below s extended b j (slice_index v j) (within j l) (λ e. (let less = ltb-true (vector_at s f j) (slice_index v j) (sym (at_own j there) ∙ e) in
      omega (arith, less, same_number s extended f (same_design s b extended f elsewhere) j)))

  somewhere_holds : ¬ IsAtMost v (vector_of s f) → Holds extended (below_somewhere s b)
  somewhere_holds h =
      let x = some_below is_less (length s.objectives) (some_less h) in
      at_least-holds extended 1 (map (is_below s b) (below (length s.objectives))) (omega (
        arith,
        somewhere_weight s extended b,
        counted_below (own_bit s extended b) (length s.objectives) x.0 x.1 (at_own x.0 x.1 ∙ x.2),
      ))

  pub extends : IsWithinWeights s v → ¬ IsAtMost v (vector_of s f) → Extends s b v f
  unfolding block_of
  extends within h = record {
    values = extended;
    agree = elsewhere;
    model =
        All-cons (Holds extended) (below_somewhere s b) (map (below_place s b v) (below (length v))) (somewhere_holds h)
        (All-ones (Holds extended) (below_place s b v) (length v) (place_holds within));
  }

pub uncovered_extend : UncoveredExtend
uncovered_extend s b v f long within = (
  λ x covers. models_are_uncovered s b v x.values long x.model (subst (λ (u : List ℕ). IsAtMost v u) (sym (same_vector s x.values f (same_design s b x.values f x.agree))) covers),
  λ h. extends s b v f long within h,
)
