-- A normal form holds under the same assignments as the parts and the degree.
use Rattle.std.proofs.Common.{◌≡◌, ◌≢◌, ℕ, ◌+◌, ◌<◌, ◌≤◌, Bool, true, false, ℤ, pos, negsuc, neg_ℤ, ◌+ℤ◌, ◌-ℤ◌, ◌≤ℤ◌, List, [], ◌∷◌, cond, not, map, arith, refl, sym, ◌∙◌, ap, subst, zero, suc, eqb, inl, inr}
use Rattle.std.proofs.lemmas.Bool.{cases_eq}
use Rattle.std.proofs.lemmas.Bool.Decides.{nat_tests}
use Rattle.std.proofs.lemmas.Int.{ints}
use Rattle.std.proofs.lemmas.List.Sums.{sum_by-cons}
use Rattle.pb_rules.specs.declared.Term.{Term}
use Rattle.pb_rules.specs.Literal.{lit_true}
use Rattle.pb_rules.specs.Linear.{Linear, true_weight}
use Rattle.pb_constraints.specs.declared.parts.Part.{Part}
use Rattle.pb_constraints.specs.SignedSums.{sum_z, share, signed, is_var, signed_sum, on_negated, negated_sum, when_true, as_part}
use Rattle.pb_constraints.specs.NormalForm.{or_zero, normal_degree, IsNormalOf, KeepsMeaning}
use Rattle.pb_constraints.proofs.IntegerSums.{sum_z_plus}

-- a part's true coefficient is that of its negation and its share
when_true_is : (v : ℕ → Bool) (p : Part) → when_true v p ≡ on_negated p +ℤ share v p
when_true_is v p = go p.lit.yes (v p.lit.var) p.coef
  where
    go : (yes at : Bool) (z : ℤ) → (cond (cond yes at (not at)) z (pos 0)) ≡ cond yes (pos 0) z +ℤ cond at (cond yes z (neg_ℤ z)) (pos 0)
    go true true z = omega (arith, ints)
    go true false z = refl
    go false true z = omega (arith, ints)
    go false false z = omega (arith, ints)

-- the parts hold where the shares of the true variables reach the degree less the negated coefficients
true_sum_is : (v : ℕ → Bool) (ps : List Part) → sum_z (when_true v) ps ≡ negated_sum ps +ℤ sum_z (share v) ps
true_sum_is v ps = sum_z_plus (when_true v) on_negated (share v) (when_true_is v) ps

-- a term's coefficient is that of its part
pub true_weight_is : (v : ℕ → Bool) (ts : List Term) → pos (true_weight v ts) ≡ sum_z (when_true v) (map as_part ts)
true_weight_is v [] = refl
true_weight_is v (t ∷ ts) = omega (arith, ints, sum_by-cons (λ (u : Term). cond (lit_true v u.lit) u.coef 0) t ts, true_weight_is v ts, one (lit_true v t.lit) t.coef)
  where
    one : (b : Bool) (n : ℕ) → pos (cond b n 0) ≡ cond b (pos n) (pos 0)
    one true n = refl
    one false n = refl

-- a number below 0 becomes 0, which every sum reaches
or_zero-le : (z : ℤ) (n : ℕ) → or_zero z ≤ n → z ≤ℤ pos n
or_zero-le (pos m) n h = omega (arith, ints)
or_zero-le (negsuc m) n h = omega (arith, ints)

le-or_zero : (z : ℤ) (n : ℕ) → z ≤ℤ pos n → or_zero z ≤ n
le-or_zero (pos m) n h = omega (arith, ints)
le-or_zero (negsuc m) n h = omega arith

-- the sums of the variables below n that a test picks
abbrev sums_below : (ℕ → Bool) → ℕ → List Part → ℤ
sums_below q zero ps = pos 0
sums_below q (suc n) ps = sums_below q n ps +ℤ cond (q n) (signed_sum n ps) (pos 0)

none_below : (q : ℕ → Bool) (n : ℕ) → sums_below q n [] ≡ pos 0
none_below q zero = refl
none_below q (suc n) = omega (arith, ints, none_below q n, zero_at (q n))
  where
    zero_at : (b : Bool) → cond b (pos 0) (pos 0) ≡ pos 0
    zero_at true = refl
    zero_at false = refl

-- a part of another variable adds nothing to the sum of a variable
pub other_share : (x : ℕ) (p : Part) → p.lit.var ≢ x → share (is_var x) p ≡ pos 0
other_share x p n = let miss : eqb p.lit.var x ≡ false = grind (arith, nat_tests) in rw miss refl

own_share : (x : ℕ) (p : Part) → p.lit.var ≡ x → share (is_var x) p ≡ signed p
own_share x p e = let hit : eqb p.lit.var x ≡ true = grind (arith, nat_tests) in rw hit refl

picked : (b : Bool) (y z : ℤ) → y ≡ pos 0 → cond b (y +ℤ z) (pos 0) ≡ cond b z (pos 0)
picked true y z e = omega (arith, ints)
picked false y z e = refl

-- a part from n on adds nothing to the sums below n
sums_above : (q : ℕ → Bool) (n : ℕ) (p : Part) (ps : List Part) → n ≤ p.lit.var → sums_below q n (p ∷ ps) ≡ sums_below q n ps
sums_above q zero p ps h = refl
sums_above q (suc n) p ps h =
    omega (arith, ints, sums_above q n p ps (omega arith), picked (q n) (share (is_var n) p) (signed_sum n ps) (other_share n p (omega arith)))

-- a part below n adds its share
sums_with : (q : ℕ → Bool) (n : ℕ) (p : Part) (ps : List Part) → p.lit.var < n → sums_below q n (p ∷ ps) ≡ share q p +ℤ sums_below q n ps
sums_with q zero p ps h = absurd (omega arith)
sums_with q (suc n) p ps h = elim (cases_eq p.lit.var n) [
  | inl e ↦ omega (arith, ints, sums_above q n p ps (omega arith), here (q n) (share (is_var n) p) (signed_sum n ps) (own_share n p e), at e)
  | inr ne ↦ omega (arith, ints, sums_with q n p ps (omega arith), picked (q n) (share (is_var n) p) (signed_sum n ps) (other_share n p ne))
]
  where
    here : (b : Bool) (y z : ℤ) → y ≡ signed p → cond b (y +ℤ z) (pos 0) ≡ cond b (signed p) (pos 0) +ℤ cond b z (pos 0)
    here true y z e = omega (arith, ints)
    here false y z e = omega (arith, ints)

    at : p.lit.var ≡ n → share q p ≡ cond (q n) (signed p) (pos 0)
    at e = ap (λ (x : ℕ). cond (q x) (signed p) (pos 0)) e

-- a number above each variable
abbrev above_all : List Part → ℕ
above_all [] = 0
above_all (p ∷ ps) = p.lit.var + 1 + above_all ps

all_sums : (q : ℕ → Bool) (n : ℕ) (ps : List Part) → above_all ps ≤ n → sums_below q n ps ≡ sum_z (share q) ps
all_sums q n [] h = none_below q n
all_sums q n (p ∷ ps) h = omega (arith, ints, sums_with q n p ps (omega arith), all_sums q n ps (omega arith))

same_below : (q : ℕ → Bool) (n : ℕ) (ps qs : List Part) → ((x : ℕ) → signed_sum x ps ≡ signed_sum x qs) → sums_below q n ps ≡ sums_below q n qs
same_below q zero ps qs same = refl
same_below q (suc n) ps qs same = omega (arith, ints, same_below q n ps qs same, ap (λ (z : ℤ). cond (q n) z (pos 0)) (same n))

-- lists with the same sum for each variable have the same sum over each set of variables
pub same_shares : (q : ℕ → Bool) (ps qs : List Part) → ((x : ℕ) → signed_sum x ps ≡ signed_sum x qs) → sum_z (share q) ps ≡ sum_z (share q) qs
same_shares q ps qs same =
    let n = above_all ps + above_all qs in
    sym (all_sums q n ps (omega arith)) ∙ same_below q n ps qs same ∙ all_sums q n qs (omega arith)

-- the same shares and the degree that goes with them keep the meaning
keeps : (ps : List Part) (d : ℤ) (c : Linear) → ((q : ℕ → Bool) → sum_z (share q) (map as_part c.terms) ≡ sum_z (share q) ps) → c.degree ≡ normal_degree ps d c.terms → KeepsMeaning ps d c
keeps ps d c same degree = record {
  forth = λ v h. subst (λ (n : ℕ). n ≤ true_weight v c.terms) (sym degree) (le-or_zero ((d -ℤ negated_sum ps) +ℤ negated_sum (map as_part c.terms)) (true_weight v c.terms)
      (omega (arith, ints, h, true_sum_is v ps, true_sum_is v (map as_part c.terms), true_weight_is v c.terms, same v)));
  back = λ v h.
      let l = or_zero-le ((d -ℤ negated_sum ps) +ℤ negated_sum (map as_part c.terms)) (true_weight v c.terms) (subst (λ (n : ℕ). n ≤ true_weight v c.terms) degree h) in
      omega (arith, ints, l, true_sum_is v ps, true_sum_is v (map as_part c.terms), true_weight_is v c.terms, same v);
}

-- a normal form keeps the meaning
pub keeps_meaning : (ps : List Part) (d : ℤ) (c : Linear) → IsNormalOf ps d c → KeepsMeaning ps d c
keeps_meaning ps d c n = keeps ps d c (λ q. same_shares q (map as_part c.terms) ps n.same) n.degree
