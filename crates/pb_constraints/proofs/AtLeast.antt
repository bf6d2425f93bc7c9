-- Constraints that ask for at least so much of given terms.
use Rattle.std.proofs.Common.{◌≡◌, ℕ, ◌≤◌, Bool, true, false, ℤ, pos, ◌+ℤ◌, ◌-ℤ◌, List, [], ◌∷◌, cond, map, All, arith, refl, sym, ap, suc}
use Rattle.std.specs.Prelude.{count_by, ◌↔◌}
use Rattle.std.specs.List.Sorted.{IsPermutation}
use Rattle.std.proofs.lemmas.Int.{ints}
use Rattle.std.proofs.lemmas.List.Sums.{sum_by-cons}
use Rattle.std.proofs.lemmas.List.Sorted.{IsPermutation-map}
use Rattle.pb_rules.specs.declared.Term.{Term}
use Rattle.pb_rules.specs.Literal.{lit_true}
use Rattle.pb_rules.specs.Linear.{Linear, Holds, IsNormal, true_weight}
use Rattle.pb_constraints.specs.declared.parts.Part.{Part}
use Rattle.pb_constraints.specs.SignedSums.{sum_z, share, is_var, negated_sum, on_negated, when_true, as_part}
use Rattle.pb_constraints.specs.NormalForm.{or_zero, IsNormalOf}
use Rattle.pb_constraints.proofs.IntegerSums.{sum_z-IsPermutation}
use Rattle.pb_constraints.proofs.Meaning.{keeps_meaning, true_weight_is}
use Rattle.pb_constraints.proofs.Unique.{one_normal}

-- a part's literal is true
abbrev pub part_true : (ℕ → Bool) → Part → Bool
part_true v p = lit_true v p.lit

-- with coefficients 1 the sum over the true literals is their number
true_count : (v : ℕ → Bool) (ps : List Part) → All (λ p. p.coef ≡ pos 1) ps → sum_z (when_true v) ps ≡ pos (count_by (part_true v) ps)
true_count v [] u = refl
true_count v (p ∷ ps) u =
    omega (
      arith,
      ints,
      sum_by-cons (λ (q : Part). cond (part_true v q) 1 0) p ps,
      true_count v ps (λ k d h. u (suc k) d (omega arith)),
      one (part_true v p),
      ap (λ (z : ℤ). cond (part_true v p) z (pos 0)) (u 0 p (omega arith)),
    )
  where
    one : (b : Bool) → cond b (pos 1) (pos 0) ≡ pos (cond b 1 0)
    one true = refl
    one false = refl

-- A law for callers: at least n of the literals holds exactly where n of them are true.
pub at_least : (v : ℕ → Bool) (ps : List Part) (n : ℕ) (c : Linear) → All (λ p. p.coef ≡ pos 1) ps → IsNormalOf ps (pos n) c → Holds v c ↔ (n ≤ count_by (part_true v) ps)
at_least v ps n c u f =
    let m = keeps_meaning ps (pos n) c f in
    let e = true_count v ps u in (
      λ h. omega (arith, ints, m.back v h, e),
      λ h. m.forth v (omega (arith, ints, h, e)),
    )

-- A law for callers: at least n of the coefficients holds exactly where those of the true literals come to n.
pub at_least_weight : (v : ℕ → Bool) (ts : List Term) (n : ℕ) (c : Linear) → IsNormalOf (map as_part ts) (pos n) c → Holds v c ↔ (n ≤ true_weight v ts)
at_least_weight v ts n c f =
    let m = keeps_meaning (map as_part ts) (pos n) c f in
    let e = true_weight_is v ts in (
      λ h. omega (arith, ints, m.back v h, e),
      λ h. m.forth v (omega (arith, ints, h, e)),
    )

-- terms in normal form are the normal form of themselves in any order
pub normal_of_terms : (ts us : List Term) (n : ℕ) → IsPermutation ts us → IsNormal us n → IsNormalOf (map as_part ts) (pos n) (record { terms = us; degree = n })
normal_of_terms ts us n perm h = record {
  positive = h.positive;
  rising = h.rising;
  same = λ x. sum_z-IsPermutation (share (is_var x)) (map as_part ts) (map as_part us) moved;
  degree = sym (ap or_zero (cancels (negated_sum (map as_part ts)) (negated_sum (map as_part us)) (sum_z-IsPermutation on_negated (map as_part ts) (map as_part us) moved)));
}
  where
    moved : IsPermutation (map as_part ts) (map as_part us)
    moved = IsPermutation-map as_part ts us perm

    cancels : (y z : ℤ) → z ≡ y → (pos n -ℤ y) +ℤ z ≡ pos n
    cancels y z e = omega (arith, ints)

-- A law for callers: what has terms as its normal form has them by rising variables.
pub form_of_terms : (ts us : List Term) (n : ℕ) (c : Linear) → IsPermutation ts us → IsNormal us n → IsNormalOf (map as_part ts) (pos n) c → c ≡ record { terms = us; degree = n }
form_of_terms ts us n c perm h f = one_normal (map as_part ts) (pos n) c (record { terms = us; degree = n }) f (normal_of_terms ts us n perm h)
