-- Along a genotype's order stands first what the genotype says.
use Rattle.std.proofs.Common.{◌≡◌, ◌≢◌, ℕ, ◌+◌, ◌<◌, ◌≤◌, ◌⊎◌, Bool, true, false, cond, not, List, [], ◌∷◌, length, map, get_or, refl, sym, ap, subst, ◌∙◌, arith, inl, inr}
use Rattle.std.specs.List.{Contains}
use Rattle.std.proofs.lemmas.Bool.{cases_lt}
use Rattle.std.proofs.lemmas.List.{get_or-map}
use Rattle.std.proofs.lemmas.List.FromFn.{length-range_with_len, get_or-range_with_len}
use Rattle.std.proofs.lemmas.List.Sorted.{Contains-permutation}
use Rattle.pb_rules.specs.Literal.{Literal, lit_true}
use Rattle.pb_rules.specs.Order.{AgreeOn}
use Rattle.pb_rules.specs.Order as along
use Rattle.spec_model.specs.Spec.{below}
use Rattle.spec_model.specs.Genotypes.{GeneValue, gene_at, StandsBefore, IsBefore}
use Rattle.variable_order.specs.Order.{var_of, IsOrder}
use Rattle.genotype.specs.Order.{IsOrderOf}
use Rattle.genotype.proofs.Placing.{stands_trans}

-- ---- literals

true_value : (v : ℕ → Bool) (l : Literal) (b : Bool) → l.yes ≡ b → lit_true v l ≡ true → v l.var ≡ b
true_value v l true e h = subst (λ (b : Bool). lit_true v (record { var = l.var; yes = b }) ≡ true) e h
true_value v l false e h = flipped (v l.var) (subst (λ (b : Bool). lit_true v (record { var = l.var; yes = b }) ≡ true) e h)
  where
    flipped : (b : Bool) → not b ≡ true → b ≡ false
    flipped true h = absurd cc
    flipped false h = refl

other_value : (v w : ℕ → Bool) (l : Literal) → lit_true v l ≡ true → lit_true w l ≡ false → w l.var ≢ v l.var
other_value v w l h g e =
    let same : lit_true w l ≡ lit_true v l = ap (λ (b : Bool). cond l.yes b (not b)) e in
    absurd (let c : true ≡ false = sym h ∙ sym same ∙ g in cc)

-- ---- places

irreflexive : (genes : List GeneValue) (u : ℕ) → StandsBefore genes u u → ⊥
irreflexive genes u (inl a) = omega (arith, a)
irreflexive genes u (inr a) = omega (arith, a.1)

-- each variable has its place
place_of : (order : List Literal) (u : ℕ) → IsOrder order → u < length order → (j : ℕ) × (j < length order) × ((d : Literal) → var_of (get_or order j d) ≡ u)
place_of order u once lt =
    let first : 0 + u ≡ u = omega arith in
    let start : Contains (below (length order)) u = (u, omega (arith, length-range_with_len 0 (length order), lt), get_or-range_with_len 0 (length order) u u lt ∙ first) in
    let there = Contains-permutation (below (length order)) (map var_of order) u once start in
    let within : there.0 < length order = omega (arith, there.1, map_len order) in
    (there.0, within, λ d. sym (get_or-map var_of order there.0 d u within) ∙ there.2)
  where
    map_len : (xs : List Literal) → length (map var_of xs) ≡ length xs
    map_len [] = refl
    map_len (x ∷ xs) = omega (arith, map_len xs)

-- a variable with a gene has its place among the first
own_place : (genes : List GeneValue) (variables : ℕ) (order : List Literal) (j u : ℕ) (d : Literal) → IsOrderOf genes variables order → j < length order → var_of (get_or order j d) ≡ u
    → u < length genes → j < length genes
own_place genes variables order j u d o within is lt =
    elim (cases_lt j (length genes)) [
      | inl low ↦ low
      | inr high ↦
          let at : var_of (get_or order j d) ≡ j = ap var_of (o.rest j d high (omega (arith, o.len, within))) in
          absurd (omega (arith, at, is, lt, high))
    ]

pub first_along : (genes : List GeneValue) (variables : ℕ) (order : List Literal) (v w : ℕ → Bool) → IsOrderOf genes variables order → length genes ≤ variables
    → AgreeOn order v w ⊎ along.IsBeforeAlong order v w → ((k : ℕ) → k < length genes → v k ≡ w k) ⊎ IsBefore genes v w
first_along genes variables order v w o fits (inl agree) = inl (λ k lt.
    let p = place_of order k o.each_once (omega (arith, o.len, lt, fits)) in
    let d : Literal = record { var = 0; yes = false } in
    subst (λ (x : ℕ). v x ≡ w x) (p.2 d) (agree p.0 d p.1))
first_along genes variables order v w o fits (inr b) =
    let d : Literal = record { var = 0; yes = false } in
    elim (cases_lt b.place (length genes)) [
      | inr high ↦ inl (λ k lt.
          let p = place_of order k o.each_once (omega (arith, o.len, lt, fits)) in
          let low : p.0 < b.place = omega (arith, own_place genes variables order p.0 k d o p.1 (p.2 d) lt, high) in
          subst (λ (x : ℕ). v x ≡ w x) (p.2 d) (b.same_before p.0 d low))
      | inl low ↦
          let l = get_or order b.place d in
          inr (record {
            variable = l.var;
            in_range = o.leads b.place d low;
            phase = true_value v l (gene_at genes l.var).phase (o.phases b.place d low) (b.has d);
            differ = other_value v w l (b.has d) (b.has_not d);
            same = λ u lt stands.
                let p = place_of order u o.each_once (omega (arith, o.len, lt, fits)) in
                let own = own_place genes variables order p.0 u d o p.1 (p.2 d) lt in
                elim (cases_lt p.0 b.place) [
                  | inl before ↦ subst (λ (x : ℕ). v x ≡ w x) (p.2 d) (b.same_before p.0 d before)
                  | inr later ↦ absurd (elim (cases_lt b.place p.0) [
                    | inl after ↦ irreflexive genes u (stands_trans genes u l.var u stands (subst (StandsBefore genes l.var) (p.2 d) (o.stands b.place p.0 d after own)))
                    | inr same ↦
                        let here : b.place ≡ p.0 = omega (arith, later, same) in
                        let is : l.var ≡ u = ap (λ (k : ℕ). var_of (get_or order k d)) here ∙ p.2 d in
                        irreflexive genes u (subst (StandsBefore genes u) is stands)
                  ])
                ];
          })
    ]
