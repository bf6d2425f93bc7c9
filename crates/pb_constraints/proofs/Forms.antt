-- The terms of the groups are a normal form.
use Rattle.std.proofs.Common.{◌≡◌, ℕ, ◌^◌, ◌<◌, ◌≤◌, Bool, true, false, ℤ, pos, negsuc, neg_ℤ, ◌+ℤ◌, ◌-ℤ◌, List, [], ◌∷◌, length, cond, map, arith, refl, sym, ◌∙◌, ap, sum_by, subst, inl, inr}
use Rattle.std.specs.Int.RustNames.{unsigned_abs}
use Rattle.std.specs.List.{AllPairs}
use Rattle.std.proofs.lemmas.Int.{ints}
use Rattle.std.proofs.lemmas.List.{get_or-map, length-map}
use Rattle.std.proofs.lemmas.List.Sums.{sum_by-cons}
use Rattle.std.proofs.lemmas.List.Elements.{All-map}
use Rattle.pb_rules.specs.declared.Term.{Term}
use Rattle.pb_rules.specs.Linear.{Linear, IsNormal, total}
use Rattle.pb_constraints.specs.declared.parts.Part.{Part}
use Rattle.pb_constraints.specs.declared.groups.Group.{Group}
use Rattle.pb_constraints.specs.SignedSums.{sum_z, share, is_var, negated_sum, as_part}
use Rattle.pb_constraints.specs.NormalForm.{or_zero, normal_degree, IsNormalOf, IsTooLarge}
use Rattle.pb_constraints.specs.Groups.{AreGroupsOf, Rises, group_share, magnitude, flipped, term_of, is_positive, below_zero}
use Rattle.pb_constraints.proofs.IntegerSums.{sum_z-map}

-- the terms of groups have their shares
term_share : (q : ℕ → Bool) (g : Group) → share q (as_part (term_of g)) ≡ group_share q g
term_share q g = go (q g.var) g.sum
  where
    go : (b : Bool) (z : ℤ) → cond b (cond (is_positive z) (pos (unsigned_abs z)) (neg_ℤ (pos (unsigned_abs z)))) (pos 0) ≡ cond b z (pos 0)
    go true (pos n) = refl
    go true (negsuc n) = omega (arith, ints)
    go false z = refl

shares_of_terms : (q : ℕ → Bool) (gs : List Group) → sum_z (share q) (map as_part (map term_of gs)) ≡ sum_z (group_share q) gs
shares_of_terms q gs =
    sum_z-map (share q) as_part (λ (t : Term). share q (as_part t)) (λ t. refl) (map term_of gs) ∙ sum_z-map (λ (t : Term). share q (as_part t)) term_of (group_share q) (term_share q) gs

total_of_terms : (gs : List Group) → total (map term_of gs) ≡ sum_by magnitude gs
total_of_terms [] = refl
total_of_terms (g ∷ gs) = omega (arith, sum_by-cons (λ (t : Term). t.coef) (term_of g) (map term_of gs), sum_by-cons magnitude g gs, total_of_terms gs)

negated_of_terms : (gs : List Group) → negated_sum (map as_part (map term_of gs)) ≡ pos (sum_by flipped gs)
negated_of_terms [] = refl
negated_of_terms (g ∷ gs) = omega (arith, ints, sum_by-cons flipped g gs, negated_of_terms gs, one g.sum)
  where
    one : (z : ℤ) → cond (is_positive z) (pos 0) (pos (unsigned_abs z)) ≡ pos (below_zero z)
    one (pos n) = refl
    one (negsuc n) = ap pos (omega arith)

abbrev TermEarlier : Term → Term → Type 0
TermEarlier t u = t.lit.var < u.lit.var

-- places of a mapped list
rises_mapped : (gs : List Group) → Rises gs → AllPairs TermEarlier (map term_of gs)
rises_mapped gs r i j e h l =
    let n = length-map gs term_of in
    let m : j < length gs = omega arith in
    let none : Group = record { var = 0; sum = pos 0 } in
    let a = get_or-map term_of gs i none e (omega arith) in
    let b = get_or-map term_of gs j none e m in
    omega (arith, ap (λ (t : Term). t.lit.var) a, ap (λ (t : Term). t.lit.var) b, r i j none h m)

-- what the groups of parts give
abbrev pub form_of : List Part → ℤ → List Group → Linear
form_of ps d gs = record { terms = map term_of gs; degree = normal_degree ps d (map term_of gs) }

normal_of_groups : (ps : List Part) (d : ℤ) (gs : List Group) → AreGroupsOf ps gs → IsNormalOf ps d (form_of ps d gs)
normal_of_groups ps d gs a = record {
  positive = All-map (λ (t : Term). 0 < t.coef) term_of gs a.nonzero;
  rising = rises_mapped gs a.rising;
  same = λ x. shares_of_terms (is_var x) gs ∙ a.same (is_var x);
  degree = refl;
}

-- the degree that the code has
pub degree_is : (ps : List Part) (d m : ℤ) (n k : ℕ) (gs : List Group) → m ≡ negated_sum ps → n ≡ sum_by flipped gs → k ≡ or_zero ((d -ℤ m) +ℤ pos n) → k ≡ normal_degree ps d (map term_of gs)
degree_is ps d m n k gs em en ek =
    ek ∙ ap (λ (z : ℤ). or_zero ((d -ℤ m) +ℤ z)) (ap pos en ∙ sym (negated_of_terms gs)) ∙ ap (λ (z : ℤ). or_zero ((d -ℤ z) +ℤ negated_sum (map as_part (map term_of gs)))) em

pub too_large_sum : (ps : List Part) (d : ℤ) (gs : List Group) (n : ℕ) → AreGroupsOf ps gs → n ≡ sum_by magnitude gs → 2 ^ 63 ≤ n → IsTooLarge ps d
too_large_sum ps d gs n a e h = record {
  form = form_of ps d gs;
  normal = normal_of_groups ps d gs a;
  large = inl (omega (arith, total_of_terms gs, e, h));
}

pub too_large_degree : (ps : List Part) (d e : ℤ) (gs : List Group) (k : ℕ) → AreGroupsOf ps gs → e ≡ d → k ≡ normal_degree ps e (map term_of gs) → 2 ^ 63 ≤ k → IsTooLarge ps d
too_large_degree ps d e gs k a ed ek h = record {
  form = form_of ps d gs;
  normal = normal_of_groups ps d gs a;
  large = inr (omega (arith, ek, ap (λ (z : ℤ). normal_degree ps z (map term_of gs)) ed, h));
}

-- what the code makes is in normal form
pub is_normal : (ps : List Part) (gs : List Group) (ts : List Term) (n k : ℕ) → AreGroupsOf ps gs → ts ≡ map term_of gs → n ≡ sum_by magnitude gs → n < 2 ^ 63 → k < 2 ^ 63 → IsNormal ts k
is_normal ps gs ts n k g et en hn hk =
    let a = normal_of_groups ps (pos 0) gs g in
    subst (λ (us : List Term). IsNormal us k) (sym et) (record {
      positive = a.positive;
      rising = a.rising;
      small = omega (arith, total_of_terms gs, en, hn);
      small_degree = hk;
    })

-- and the normal form of the parts
pub is_normal_of : (ps : List Part) (d e : ℤ) (gs : List Group) (ts : List Term) (k : ℕ) (c : Linear) → AreGroupsOf ps gs → e ≡ d → ts ≡ map term_of gs → k ≡ normal_degree ps e (map term_of gs)
    → c ≡ record { terms = ts; degree = k } → IsNormalOf ps d c
is_normal_of ps d e gs ts k c a ed et ek ec = subst (IsNormalOf ps d) (sym same) (normal_of_groups ps d gs a)
  where
    make : List Term → ℕ → Linear
    make us i = record { terms = us; degree = i }

    same : c ≡ form_of ps d gs
    same = ec ∙ ap (λ (us : List Term). make us k) et ∙ ap (make (map term_of gs)) (ek ∙ ap (λ (z : ℤ). normal_degree ps z (map term_of gs)) ed)
