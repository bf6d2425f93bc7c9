-- The weights of an objective, added up and listed variable by variable, and the variables of a block.
use Rattle.std.proofs.Common.{◌≡◌, ℕ, ◌+◌, ◌*◌, ◌<◌, ◌≤◌, ◌^◌, Bool, true, false, cond, ltb, zero, suc, add-one, List, [], ◌∷◌, ◌++◌, length, get_or, map, sym, ap, ◌∙◌, subst, arith, ◌⊎◌, inl, inr}
use Rattle.std.specs.Prelude.{All, slice_index}
use Rattle.std.specs.List.{sum_by, flat_map}
use Rattle.std.proofs.lemmas.Bool.{cases_lt, lt-ltb}
use Rattle.std.proofs.lemmas.List.{get_or_past, map-append, append-nil}
use Rattle.std.proofs.lemmas.List.Elements.{All-append}
use Rattle.pb_rules.specs.declared.Term.{Term}
use Rattle.pb_rules.specs.Literal.{Literal}
use Rattle.pb_rules.specs.Linear.{Linear}
use Rattle.spec_model.specs.Spec.{SpecValue, below, those, design_variables, all_variables}
use Rattle.spec_model.specs.Vectors.{weight_in, arc_weight, arc_weights, weights_of, weight}
use Rattle.spec_model.specs.WellFormed.{IsWellFormed}
use Rattle.spec_model.proofs.Joined.{All-ones, All-pieces}
use Rattle.spec_model.proofs.Those.{those_more, sum_by-below_more, map-below_more}
use Rattle.spec_model.proofs.VariableWeights.{weight_in_small, arc_weight_small}
use Rattle.encode_model.specs.Encoding.{weighted, has_weight, positive}
use Rattle.encode_model.specs.Block.{total_weight, below_var, is_below, below_somewhere, unused_terms, gap, not_below, below_number, below_place, block_of}

-- every weight is small
abbrev IsSmall : ℕ → Type 0
IsSmall w = w ≤ 2 ^ 40

all_small : (s : SpecValue) (j : ℕ) → IsWellFormed s → All IsSmall (weights_of s j)
unfolding weights_of
all_small s j wf =
    let k : ℕ = length s.objectives in
    All-append IsSmall (map (weight_in s.option_weights j) (below (length s.options)) ++ flat_map (arc_weights s j) (below (length s.messages))
    ++ map (weight_in s.resource_weights j) (below (length s.resources))) (map (weight_in s.link_weights j) (below (length s.links)))
    (All-append IsSmall (map (weight_in s.option_weights j) (below (length s.options)) ++ flat_map (arc_weights s j) (below (length s.messages)))
    (map (weight_in s.resource_weights j) (below (length s.resources)))
    (All-append IsSmall (map (weight_in s.option_weights j) (below (length s.options))) (flat_map (arc_weights s j) (below (length s.messages)))
    (All-ones IsSmall (weight_in s.option_weights j) (length s.options) (λ i l. weight_in_small k (length s.options) s.option_weights j i wf.plan.option_rows))
    (All-pieces IsSmall (arc_weights s j) (length s.messages) (λ m hm. All-ones IsSmall (arc_weight s j m) (length s.arcs) (λ a ha. arc_weight_small s j m a wf hm ha))))
    (All-ones IsSmall (weight_in s.resource_weights j) (length s.resources) (λ i l. weight_in_small k (length s.resources) s.resource_weights j i wf.plan.resource_rows)))
    (All-ones IsSmall (weight_in s.link_weights j) (length s.links) (λ i l. weight_in_small k (length s.links) s.link_weights j i wf.plan.link_rows))

pub weight_small : (s : SpecValue) (j x : ℕ) → IsWellFormed s → weight s j x ≤ 2 ^ 40
weight_small s j x wf = at (weights_of s j) (all_small s j wf) (cases_lt x (length (weights_of s j)))
  where
    at : (ws : List ℕ) → All IsSmall ws → (x < length ws) ⊎ (length ws ≤ x) → get_or ws x 0 ≤ 2 ^ 40
    at ws h (inl l) = h x 0 l
    at ws h (inr l) = let e = get_or_past ws x 0 l in omega (arith, e)

sum_small : (s : SpecValue) (j : ℕ) → IsWellFormed s → (n : ℕ) → sum_by (weight s j) (below n) ≤ n * 2 ^ 40
sum_small s j wf zero = omega arith
sum_small s j wf (suc n) =
    subst (λ (k : ℕ). sum_by (weight s j) (below k) ≤ k * 2 ^ 40) (add-one n) (omega (arith, sum_by-below_more (weight s j) n, sum_small s j wf n, weight_small s j n wf))

-- the weights of an objective come to at most 2^60
pub total_small : (s : SpecValue) (j : ℕ) → IsWellFormed s → total_weight s j ≤ 2 ^ 60
unfolding total_weight all_variables
total_small s j wf = omega (arith, sum_small s j wf (design_variables s), wf.few_variables)

-- what a loop over the variables has added up
pub record IsSum (s : SpecValue) (j n sum : ℕ) : Type 0 where
  pub value : sum ≡ sum_by (weight s j) (below n)
  pub small : sum ≤ n * 2 ^ 40

pub IsSum-more : (s : SpecValue) (j n sum next w : ℕ) → IsSum s j n sum → w ≡ weight s j n → w ≤ 2 ^ 40 → next ≡ sum + w → IsSum s j (n + 1) next
IsSum-more s j n sum next w h e small k = record {
  value = omega (arith, h.value, e, k, sum_by-below_more (weight s j) n);
  small = omega (arith, h.small, small, k);
}

-- the terms of the variables below n
abbrev pub unused_below : SpecValue → ℕ → ℕ → List Term
unused_below s j n = map (weighted (weight s j) false) (those (has_weight (weight s j)) n)

pub unused_more : (s : SpecValue) (j n : ℕ) → unused_below s j (n + 1) ≡ unused_below s j n ++ map (weighted (weight s j) false) (cond (has_weight (weight s j) n) (n ∷ []) [])
unused_more s j n =
    ap (map (weighted (weight s j) false)) (those_more (has_weight (weight s j)) n) ∙ map-append (weighted (weight s j) false) (those (has_weight (weight s j)) n)
    (cond (has_weight (weight s j) n) (n ∷ []) [])

pub unused_more_some : (s : SpecValue) (j n w : ℕ) (t : Term) (ts now : List Term) → ts ≡ unused_below s j n → w ≡ weight s j n → 0 < w
    → t ≡ record { coef = w; lit = record { var = n; yes = false } } → now ≡ ts ++ t ∷ [] → now ≡ unused_below s j (n + 1)
unfolding has_weight weighted
unused_more_some s j n w t ts now h e l k p =
    let is : has_weight (weight s j) n ≡ true = lt-ltb 0 (weight s j n) (omega (arith, e, l)) in
    let term : t ≡ weighted (weight s j) false n = k ∙ ap (λ (c : ℕ). make c) e in
    p ∙ (ap (λ (us : List Term). us ++ t ∷ []) h ∙ (ap (λ (u : Term). unused_below s j n ++ u ∷ []) term
    ∙ sym (unused_more s j n ∙ ap (λ (b : Bool). unused_below s j n ++ map (weighted (weight s j) false) (cond b (n ∷ []) [])) is)))
  where
    make : ℕ → Term
    make c = record { coef = c; lit = record { var = n; yes = false } }

pub unused_more_none : (s : SpecValue) (j n w : ℕ) (ts now : List Term) → ts ≡ unused_below s j n → w ≡ weight s j n → w ≤ 0 → now ≡ ts → now ≡ unused_below s j (n + 1)
unfolding has_weight
unused_more_none s j n w ts now h e l p =
    let zero_weight : weight s j n ≡ 0 = omega (arith, e, l) in
    let is : has_weight (weight s j) n ≡ false = ap (λ (k : ℕ). ltb 0 k) zero_weight in
    p ∙ (h ∙ sym (unused_more s j n ∙ (ap (λ (b : Bool). unused_below s j n ++ map (weighted (weight s j) false) (cond b (n ∷ []) [])) is ∙ append-nil (unused_below s j n))))

-- one of the block's variables more
pub own_more : (s : SpecValue) (b j x : ℕ) (l : Literal) (ts now : List Term) → ts ≡ map (is_below s b) (below j) → x ≡ below_var s b j → l ≡ record { var = x; yes = true }
    → now ≡ ts ++ record { coef = 1; lit = l } ∷ [] → now ≡ map (is_below s b) (below (j + 1))
unfolding is_below
own_more s b j x l ts now h e k p =
    let term : record { coef = 1; lit = l } ≡ positive (below_var s b j) = ap (λ (m : Literal). make m) k ∙ ap (λ (y : ℕ). positive y) e in
    p ∙ (ap (λ (us : List Term). us ++ make l ∷ []) h ∙ (ap (λ (t : Term). map (is_below s b) (below j) ++ t ∷ []) term ∙ sym (map-below_more (is_below s b) j)))
  where
    make : Literal → Term
    make m = record { coef = 1; lit = m }

-- one constraint more
pub place_more : (s : SpecValue) (b j n : ℕ) (v : List ℕ) (c : Linear) (cs now : List Linear) → cs ≡ below_somewhere s b ∷ map (below_place s b v) (below j) → c ≡ below_number s b j n
    → n ≡ slice_index v j → now ≡ cs ++ c ∷ [] → now ≡ below_somewhere s b ∷ map (below_place s b v) (below (j + 1))
unfolding below_place
place_more s b j n v c cs now h e k p =
    let one : c ≡ below_place s b v j = e ∙ ap (below_number s b j) k in
    p ∙ (ap (λ (ds : List Linear). ds ++ c ∷ []) h ∙ (ap (λ (d : Linear). below_somewhere s b ∷ (map (below_place s b v) (below j) ++ d ∷ [])) one
    ∙ ap (λ (ds : List Linear). below_somewhere s b ∷ ds) (sym (map-below_more (below_place s b v) j))))

pub place_all : (s : SpecValue) (b n : ℕ) (v : List ℕ) (cs : List Linear) → cs ≡ below_somewhere s b ∷ map (below_place s b v) (below n) → n ≡ length v → cs ≡ block_of s b v
unfolding block_of
place_all s b n v cs h e = h ∙ ap (λ (k : ℕ). below_somewhere s b ∷ map (below_place s b v) (below k)) e

-- the terms of one constraint
pub number_terms : (s : SpecValue) (b j n g x : ℕ) (l : Literal) (ts now : List Term) → ts ≡ unused_terms s j → g ≡ gap s j n → x ≡ below_var s b j → l ≡ record { var = x; yes = false }
    → now ≡ ts ++ record { coef = g; lit = l } ∷ [] → now ≡ unused_terms s j ++ not_below s b j n ∷ []
number_terms s b j n g x l ts now h e k p q =
    q
    ∙ (ap (λ (us : List Term). us ++ record { coef = g; lit = l } ∷ []) h
    ∙ (ap (λ (c : ℕ). unused_terms s j ++ record { coef = c; lit = l } ∷ []) e
    ∙ ap (λ (m : Literal). unused_terms s j ++ record { coef = gap s j n; lit = m } ∷ []) (p ∙ ap (λ (y : ℕ). false_at y) k)))
  where
    false_at : ℕ → Literal
    false_at y = record { var = y; yes = false }
