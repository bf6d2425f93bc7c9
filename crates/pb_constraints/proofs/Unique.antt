-- Parts and a degree have one normal form.
use Rattle.std.proofs.Common.{◌≡◌, ℕ, zero, suc, ◌+◌, ◌<◌, ◌≤◌, Bool, true, false, ℤ, pos, neg_ℤ, List, [], ◌∷◌, length, get_or, cond, map, arith, refl, sym, ◌∙◌, ap, All, subst, eq-eqb, ◌⊎◌, inl, inr}
use Rattle.std.proofs.lemmas.Int.{ints}
use Rattle.std.proofs.lemmas.Bool.{cases_lt, ne_eqb}
use Rattle.pb_rules.specs.declared.Term.{Term}
use Rattle.pb_rules.specs.Linear.{Linear, IsNormal, total}
use Rattle.pb_constraints.specs.declared.parts.Part.{Part}
use Rattle.pb_constraints.specs.SignedSums.{share, is_var, signed, signed_sum, as_part}
use Rattle.pb_constraints.specs.NormalForm.{IsNormalOf, normal_degree, IsSmall, IsTooLarge}

-- terms of positive coefficients by rising variables, none of which is below x
pub record Ordered (x : ℕ) (ts : List Term) : Type 0 where
  pub positive : All (λ t. 0 < t.coef) ts
  pub above : All (λ t. x ≤ t.lit.var) ts
  pub rising : (i j : ℕ) (e : Term) → i < j → j < length ts → (get_or ts i e).lit.var < (get_or ts j e).lit.var

-- the rest of them is above the first one
pub tail : (x : ℕ) (t : Term) (ts : List Term) → Ordered x (t ∷ ts) → Ordered (t.lit.var + 1) ts
tail x t ts o = record {
  positive = λ k d h. o.positive (suc k) d (omega arith);
  above = λ k d h. omega (arith, o.rising 0 (suc k) d (omega arith) (omega arith));
  rising = λ i j e h l. o.rising (suc i) (suc j) e (omega arith) (omega arith);
}

hit : (t : Term) → share (is_var t.lit.var) (as_part t) ≡ signed (as_part t)
hit t = ap (λ (b : Bool). cond b (signed (as_part t)) (pos 0)) (eq-eqb t.lit.var t.lit.var refl)

miss : (y : ℕ) (t : Term) → ¬ (t.lit.var ≡ y) → share (is_var y) (as_part t) ≡ pos 0
miss y t ne = ap (λ (b : Bool). cond b (signed (as_part t)) (pos 0)) (ne_eqb t.lit.var y ne)

-- the signed sum of a variable below all
no_share : (x y : ℕ) (ts : List Term) → Ordered x ts → y < x → signed_sum y (map as_part ts) ≡ pos 0
no_share x y [] o h = refl
no_share x y (t ∷ ts) o h =
    let a : x ≤ t.lit.var = o.above 0 t (omega arith) in
    omega (arith, ints, miss y t (omega arith), no_share (t.lit.var + 1) y ts (tail x t ts o) (omega arith))

-- that of the first one's variable
pub first_share : (x : ℕ) (t : Term) (ts : List Term) → Ordered x (t ∷ ts) → signed_sum t.lit.var (map as_part (t ∷ ts)) ≡ signed (as_part t)
first_share x t ts o = omega (arith, ints, hit t, no_share (t.lit.var + 1) t.lit.var ts (tail x t ts o) (omega arith))

-- a positive coefficient counts
pub not_zero : (t : Term) → 0 < t.coef → ¬ (signed (as_part t) ≡ pos 0)
not_zero t h = go t.lit.yes t.coef h
  where
    go : (b : Bool) (n : ℕ) → 0 < n → ¬ (cond b (pos n) (neg_ℤ (pos n)) ≡ pos 0)
    go true n h e = absurd (omega (arith, ints))
    go false n h e = absurd (omega (arith, ints))

same_term : (t u : Term) → t.lit.var ≡ u.lit.var → 0 < t.coef → 0 < u.coef → signed (as_part t) ≡ signed (as_part u) → t ≡ u
same_term t u ev ht hu e = go t.lit.yes u.lit.yes t.coef u.coef t.lit.var u.lit.var ev ht hu e
  where
    make : ℕ → Bool → ℕ → Term
    make n b x = record { coef = n; lit = record { var = x; yes = b } }

    go : (b c : Bool) (n m x y : ℕ) → x ≡ y → 0 < n → 0 < m → cond b (pos n) (neg_ℤ (pos n)) ≡ cond c (pos m) (neg_ℤ (pos m)) → make n b x ≡ make m c y
    go true true n m x y ev hn hm e = let en : n ≡ m = omega (arith, ints) in cc
    go true false n m x y ev hn hm e = absurd (omega (arith, ints))
    go false true n m x y ev hn hm e = absurd (omega (arith, ints))
    go false false n m x y ev hn hm e = let en : n ≡ m = omega (arith, ints) in cc

again : (t : Term) (x : ℕ) (ts : List Term) → Ordered x (t ∷ ts) → Ordered t.lit.var (t ∷ ts)
again t x ts o = record {
  positive = o.positive;
  above = λ k d h. least k d h;
  rising = o.rising;
}
  where
    least : (k : ℕ) (d : Term) → k < length (t ∷ ts) → t.lit.var ≤ (get_or (t ∷ ts) k d).lit.var
    least zero d h = omega arith
    least (suc k) d h = omega (arith, o.rising 0 (suc k) d (omega arith) h)

-- ordered terms are determined by their signed sums
pub same_terms : (x : ℕ) (ts us : List Term) → Ordered x ts → Ordered x us → ((y : ℕ) → signed_sum y (map as_part ts) ≡ signed_sum y (map as_part us)) → ts ≡ us
same_terms x [] [] o p same = refl
same_terms x [] (u ∷ us) o p same = absurd (not_zero u (p.positive 0 u (omega arith)) (sym (first_share x u us p) ∙ sym (same u.lit.var)))
same_terms x (t ∷ ts) [] o p same = absurd (not_zero t (o.positive 0 t (omega arith)) (sym (first_share x t ts o) ∙ same t.lit.var))
same_terms x (t ∷ ts) (u ∷ us) o p same =
    split (cases_lt t.lit.var u.lit.var) (cases_lt u.lit.var t.lit.var) (λ a s. same_terms (t.lit.var + 1) ts us (tail x t ts o) a s)
  where
    ht : 0 < t.coef
    ht = o.positive 0 t (omega arith)

    hu : 0 < u.coef
    hu = p.positive 0 u (omega arith)

    split : ((t.lit.var < u.lit.var) ⊎ (u.lit.var ≤ t.lit.var)) → ((u.lit.var < t.lit.var) ⊎ (t.lit.var ≤ u.lit.var))
        → (Ordered (t.lit.var + 1) us → ((y : ℕ) → signed_sum y (map as_part ts) ≡ signed_sum y (map as_part us)) → ts ≡ us) → (t ∷ ts) ≡ (u ∷ us)
    split (inl l) m ih = absurd (not_zero t ht (sym (first_share x t ts o) ∙ same t.lit.var ∙ no_share u.lit.var t.lit.var (u ∷ us) (again u x us p) l))
    split (inr l) (inl m) ih = absurd (not_zero u hu (sym (first_share x u us p) ∙ sym (same u.lit.var) ∙ no_share t.lit.var u.lit.var (t ∷ ts) (again t x ts o) m))
    split (inr l) (inr m) ih =
        let ev : t.lit.var ≡ u.lit.var = omega arith in
        let es : signed (as_part t) ≡ signed (as_part u) = sym (first_share x t ts o) ∙ same t.lit.var ∙ ap (λ (y : ℕ). signed_sum y (map as_part (u ∷ us))) ev ∙ first_share x u us p in
        let et : t ≡ u = same_term t u ev ht hu es in
        let below : Ordered (t.lit.var + 1) us = subst (λ (y : ℕ). Ordered (y + 1) us) (sym ev) (tail x u us p) in
        let rest : ts ≡ us = ih below (λ y. omega (arith, ints, same y, ap (λ (s : Term). share (is_var y) (as_part s)) et)) in
        cc

-- parts and a degree have one normal form
pub one_normal : (ps : List Part) (d : ℤ) (c e : Linear) → IsNormalOf ps d c → IsNormalOf ps d e → c ≡ e
one_normal ps d c e n m =
    let et : c.terms ≡ e.terms = same_terms 0 c.terms e.terms (record { positive = n.positive; above = λ k t h. omega arith; rising = n.rising })
    (record { positive = m.positive; above = λ k t h. omega arith; rising = m.rising }) (λ y. n.same y ∙ sym (m.same y)) in
    let ed : c.degree ≡ e.degree = n.degree ∙ ap (normal_degree ps d) et ∙ sym m.degree in
    ap (λ (ts : List Term). make ts c.degree) et ∙ ap (make e.terms) ed
  where
    make : List Term → ℕ → Linear
    make ts n = record { terms = ts; degree = n }

-- what has a small normal form is not too large
pub not_too_large : (ps : List Part) (d : ℤ) (c : Linear) → IsNormalOf ps d c → IsSmall c → ¬ IsTooLarge ps d
not_too_large ps d c n s t =
    let e = one_normal ps d c t.form n t.normal in
    elim t.large [
      | inl h ↦ absurd (omega (arith, h, s.sum, ap (λ (x : Linear). total x.terms) e))
      | inr h ↦ absurd (omega (arith, h, s.degree, ap (λ (x : Linear). x.degree) e))
    ]

-- so neither is what has one in the type's form
pub not_too_large_in : (ps : List Part) (d : ℤ) (c : Linear) (ts : List Term) (k : ℕ) → IsNormalOf ps d c → c ≡ record { terms = ts; degree = k } → IsNormal ts k → ¬ IsTooLarge ps d
not_too_large_in ps d c ts k n e f =
    not_too_large ps d c n (record {
      sum = omega (arith, f.small, ap (λ (x : Linear). total x.terms) e);
      degree = omega (arith, f.small_degree, ap (λ (x : Linear). x.degree) e);
    })
