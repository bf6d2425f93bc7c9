-- The constraints of a block are in normal form.
use Rattle.std.proofs.Common.{◌≡◌, ℕ, zero, suc, ◌+◌, ◌-◌, ◌*◌, ◌<◌, ◌≤◌, ◌^◌, Bool, true, false, cond, List, [], ◌∷◌, ◌++◌, length, map, refl, sym, ap, ◌∙◌, subst, arith, add-one}
use Rattle.std.specs.Prelude.{All, slice_index}
use Rattle.std.specs.List.{sum_by, range_with_len}
use Rattle.std.proofs.lemmas.Bool.{ltb-true}
use Rattle.std.proofs.lemmas.List.Elements.{All-append, All-cons, All-from_recursion, All-map}
use Rattle.std.proofs.lemmas.List.Sums.{sum_by-cons, sum_by-append}
use Rattle.pb_rules.specs.declared.Term.{Term}
use Rattle.pb_rules.specs.Linear.{Linear, IsNormal, VarsBelow, total}
use Rattle.pb_constraints.specs.Sets.{IsBelow}
use Rattle.spec_model.specs.Spec.{SpecValue, below, those, design_variables, all_variables}
use Rattle.spec_model.specs.Vectors.{weight}
use Rattle.spec_model.specs.WellFormed.{IsWellFormed}
use Rattle.spec_model.proofs.Joined.{All-ones, All-those}
use Rattle.spec_model.proofs.Sums.{sum_by_map}
use Rattle.spec_model.proofs.Those.{sum_by-those_more, sum_by-below_more}
use Rattle.encode_model.specs.Rising.{TermsWithin}
use Rattle.encode_model.proofs.Rising.{literal_from, terms_wider, terms_then, weights_rise, normal_within, below_within, at_least_within, at_least_each}
use Rattle.encode_model.specs.Encoding.{weighted, has_weight, at_least}
use Rattle.encode_model.specs.Block.{total_weight, below_var, is_below, below_somewhere, unused_terms, gap, not_below, below_number, below_place, block_of}
use Rattle.block_encode.specs.Laws.{variables_to, BlocksAreInRange}
use Rattle.block_encode.proofs.Adding.{weight_small, total_small}

-- the variables of a block
own_within : (s : SpecValue) (b a n : ℕ) → TermsWithin (2 ^ 40) (below_var s b a) (below_var s b (a + n)) (map (is_below s b) (range_with_len a n))
unfolding is_below
own_within s b a zero = omega arith
own_within s b a (suc n) = (
  literal_from (below_var s b a) (below_var s b a) true (omega arith),
  terms_wider (2 ^ 40) (2 ^ 40) (below_var s b (a + 1)) (below_var s b ((a + 1) + n)) (below_var s b a + 1)
      (below_var s b (a + suc n)) (map (is_below s b) (range_with_len (a + 1) n)) (omega arith) (omega arith) (omega arith) (own_within s b (a + 1) n),
)

own_total : (s : SpecValue) (b a n : ℕ) → total (map (is_below s b) (range_with_len a n)) ≡ n
unfolding is_below
own_total s b a zero = refl
own_total s b a (suc n) = sum_by-cons (λ (t : Term). t.coef) (is_below s b a) (map (is_below s b) (range_with_len (a + 1) n)) ∙ omega (arith, own_total s b (a + 1) n)

pub somewhere_normal : (s : SpecValue) (b : ℕ) (ts : List Term) → IsWellFormed s → ts ≡ map (is_below s b) (below (length s.objectives)) → IsNormal ts 1
somewhere_normal s b ts wf e =
    let k : ℕ = length s.objectives in
    subst (λ (us : List Term). IsNormal us 1) (sym e)
    (normal_within (2 ^ 40) (below_var s b 0) (below_var s b (0 + k)) 1 (map (is_below s b) (below k)) (own_within s b 0 k) (omega (arith, own_total s b 0 k, wf.plan.few_objectives)) (omega arith))

-- the constraint that the code makes of the terms
pub made : (degree m : ℕ) (ts us : List Term) (c : Linear) → c ≡ record { terms = us; degree = m } → m ≡ degree → us ≡ ts → at_least degree ts ≡ record { terms = ts; degree = degree }
    → c ≡ at_least degree ts
made degree m ts us c h em et is = h ∙ (ap (λ (k : ℕ). make us k) em ∙ (ap (λ (ws : List Term). make ws degree) et ∙ sym is))
  where
    make : List Term → ℕ → Linear
    make ws k = record { terms = ws; degree = k }

pub somewhere_is : (s : SpecValue) (b : ℕ) → below_somewhere s b ≡ record { terms = map (is_below s b) (below (length s.objectives)); degree = 1 }
somewhere_is s b = let k : ℕ = length s.objectives in at_least_within (2 ^ 40) (below_var s b 0) (below_var s b (0 + k)) 1 (map (is_below s b) (below k)) (own_within s b 0 k)

-- the weights
some_of_sum : (g : ℕ → ℕ) (p : ℕ → Bool) (n : ℕ) → sum_by g (those p n) ≤ sum_by g (below n)
some_of_sum g p zero = omega arith
some_of_sum g p (suc n) =
    subst (λ (k : ℕ). sum_by g (those p k) ≤ sum_by g (below k)) (add-one n) (omega (arith, sum_by-those_more g p n, sum_by-below_more g n, some_of_sum g p n, at_most (p n)))
  where
    at_most : (b : Bool) → cond b (g n) 0 ≤ g n
    at_most true = omega arith
    at_most false = omega arith

unused_total : (s : SpecValue) (j : ℕ) → total (unused_terms s j) ≤ total_weight s j
unfolding weighted total_weight
unused_total s j =
    omega (
      arith,
      sum_by_map (λ (t : Term). t.coef) (weighted (weight s j) false) (those (has_weight (weight s j)) (design_variables s)),
      some_of_sum (weight s j) (has_weight (weight s j)) (design_variables s),
    )

number_within : (s : SpecValue) (b j n : ℕ) → IsWellFormed s → TermsWithin (2 ^ 60 + 1) 0 (below_var s b j + 1) (unused_terms s j ++ not_below s b j n ∷ [])
unfolding all_variables
number_within s b j n wf =
    terms_then (2 ^ 60 + 1) 0 (design_variables s) (unused_terms s j) (not_below s b j n)
    (terms_wider (2 ^ 40) (2 ^ 60 + 1) 0 (design_variables s) 0 (design_variables s) (unused_terms s j) (omega arith) (omega arith) (omega arith)
    (weights_rise (weight s j) false (design_variables s) (λ x. weight_small s j x wf)))
    (record { from = omega arith; some = omega arith; small = omega (arith, total_small s j wf) })

pub number_normal : (s : SpecValue) (b j n g : ℕ) (ts : List Term) → IsWellFormed s → g ≡ gap s j n → ts ≡ unused_terms s j ++ not_below s b j n ∷ [] → IsNormal ts g
number_normal s b j n g ts wf eg et =
    let own : Term = not_below s b j n in
    subst (λ (x : ℕ). IsNormal ts x) (sym eg) (subst (λ (us : List Term). IsNormal us (gap s j n)) (sym et)
    (normal_within (2 ^ 60 + 1) 0 (below_var s b j + 1) (gap s j n) (unused_terms s j ++ own ∷ []) (number_within s b j n wf)
    (omega (arith, sum_by-append (λ (t : Term). t.coef) (unused_terms s j) (own ∷ []), sum_by-cons (λ (t : Term). t.coef) own [], unused_total s j, total_small s j wf))
    (omega (arith, total_small s j wf))))

pub number_is : (s : SpecValue) (b j n : ℕ) → IsWellFormed s → below_number s b j n ≡ record { terms = unused_terms s j ++ not_below s b j n ∷ []; degree = gap s j n }
number_is s b j n wf = at_least_within (2 ^ 60 + 1) 0 (below_var s b j + 1) (gap s j n) (unused_terms s j ++ not_below s b j n ∷ []) (number_within s b j n wf)

-- the whole block
pub block_normal : (s : SpecValue) (b : ℕ) (v : List ℕ) → IsWellFormed s → All (λ c. IsNormal c.terms c.degree) (block_of s b v)
unfolding block_of below_place
block_normal s b v wf =
    All-cons (λ (c : Linear). IsNormal c.terms c.degree) (below_somewhere s b) (map (below_place s b v) (below (length v)))
    (subst (λ (c : Linear). IsNormal c.terms c.degree) (sym (somewhere_is s b)) (somewhere_normal s b (map (is_below s b) (below (length s.objectives))) wf refl))
    (All-ones (λ (c : Linear). IsNormal c.terms c.degree) (below_place s b v) (length v)
    (λ j l. subst (λ (c : Linear). IsNormal c.terms c.degree) (sym (number_is s b j (slice_index v j) wf))
    (number_normal s b j (slice_index v j) (gap s j (slice_index v j)) (unused_terms s j ++ not_below s b j (slice_index v j) ∷ []) wf refl refl)))

-- the variables of the block
abbrev IsUpTo : ℕ → Term → Type 0
IsUpTo n t = t.lit.var < n

own_up_to : (s : SpecValue) (b n : ℕ) → below_var s b (0 + length s.objectives) ≤ n → All (IsUpTo n) (below_somewhere s b).terms
own_up_to s b n l =
    let k : ℕ = length s.objectives in
    at_least_each (IsUpTo n) 1 (map (is_below s b) (below k)) (λ i d h. omega (
      arith,
      l,
      below_within (2 ^ 40) (below_var s b 0) (below_var s b (0 + k)) (map (is_below s b) (below k))
          (own_within s b 0 k) i d h,
    ))

number_up_to : (s : SpecValue) (b j m n : ℕ) → below_var s b j + 1 ≤ n → All (IsUpTo n) (below_number s b j m).terms
unfolding weighted all_variables
number_up_to s b j m n l =
    at_least_each (IsUpTo n) (gap s j m) (unused_terms s j ++ not_below s b j m ∷ [])
    (All-append (IsUpTo n) (unused_terms s j) (not_below s b j m ∷ [])
    (All-map (IsUpTo n) (weighted (weight s j) false) (those (has_weight (weight s j)) (design_variables s))
    (All-those (λ (x : ℕ). x < n) (has_weight (weight s j)) (design_variables s) (λ x h e. omega (arith, l, h))))
    (All-from_recursion (IsUpTo n) (not_below s b j m ∷ []) (omega (arith, l), tt)))

-- one block more
to_next : (b k n : ℕ) → 0 < b → n + (b - 1) * k + k ≡ n + b * k
to_next zero k n h = absurd (omega (arith, h))
to_next (suc b) k n h = grind arith

pub block_in_range : BlocksAreInRange
unfolding block_of below_place
block_in_range s b v from long =
    let k : ℕ = length s.objectives in
    let next = to_next b k (all_variables s) from in
    All-cons (IsBelow (variables_to s b)) (below_somewhere s b) (map (below_place s b v) (below (length v))) (own_up_to s b (variables_to s b) (omega (arith, next)))
    (All-ones (IsBelow (variables_to s b)) (below_place s b v) (length v) (λ j l. number_up_to s b j (slice_index v j) (variables_to s b) (omega (arith, next, l, long))))
