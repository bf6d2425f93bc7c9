-- The sum of two constraints is the normal form of the parts of both.
use Rattle.std.proofs.Common.{◌≡◌, ℕ, ◌+◌, ◌-◌, ◌<◌, Bool, true, false, ℤ, pos, negsuc, neg_ℤ, ◌+ℤ◌, ◌-ℤ◌, List, [], ◌∷◌, ◌++◌, cond, eqb, ltb, map, arith, refl, sym, ◌∙◌, ap, subst, inl, inr}
use Rattle.std.proofs.lemmas.Bool.{cases_eq, cases_lt}
use Rattle.std.proofs.lemmas.Bool.Decides.{nat_tests}
use Rattle.std.proofs.lemmas.Int.{ints}
use Rattle.pb_rules.specs.declared.Term.{Term}
use Rattle.pb_rules.specs.Linear.{Linear, IsNormal}
use Rattle.pb_rules.specs.CuttingPlanes.{Sum, same_sign, joined, merge, add}
use Rattle.pb_rules.proofs.Sums.{alike}
use Rattle.pb_rules.proofs.Rising.{from_pairs}
use Rattle.pb_rules.proofs.Normal.{Merged, done, first, second, both, merged, add_rising, add_positive}
use Rattle.pb_constraints.specs.declared.parts.Part.{Part}
use Rattle.pb_constraints.specs.SignedSums.{share, is_var, signed_sum, on_negated, negated_sum, as_part}
use Rattle.pb_constraints.specs.NormalForm.{or_zero, IsNormalOf}
use Rattle.pb_constraints.proofs.IntegerSums.{sum_z-append}

-- what two parts of one variable give together, in what is left of them and what is cancelled
pub record Joins (t u : Term) (s j : Sum) : Type 0 where
  pub same : (x : ℕ) → signed_sum x (map as_part j.terms) ≡ share (is_var x) (as_part t) +ℤ (share (is_var x) (as_part u) +ℤ signed_sum x (map as_part s.terms))
  pub negated : negated_sum (map as_part j.terms) +ℤ pos j.cancelled ≡ on_negated (as_part t) +ℤ (on_negated (as_part u) +ℤ (negated_sum (map as_part s.terms) +ℤ pos s.cancelled))

-- the share of a signed coefficient in a variable that is picked or not
abbrev shared : Bool → Bool → ℕ → ℤ
shared picked is_yes k = cond picked (cond is_yes (pos k) (neg_ℤ (pos k))) (pos 0)

abbrev against : Bool → ℕ → ℤ
against is_yes k = cond is_yes (pos 0) (pos k)

add_up : (picked is_yes : Bool) (m n : ℕ) → shared picked is_yes (m + n) ≡ shared picked is_yes m +ℤ shared picked is_yes n
add_up true true m n = omega (arith, ints)
add_up true false m n = omega (arith, ints)
add_up false is_yes m n = refl

against_up : (is_yes : Bool) (m n : ℕ) → against is_yes (m + n) ≡ against is_yes m +ℤ against is_yes n
against_up true m n = refl
against_up false m n = omega (arith, ints)

-- of opposite literals the greater coefficient less the other is left
cancel : (picked is_yes other : Bool) (m n : ℕ) → same_sign is_yes other ≡ false → n < m + 1 → shared picked is_yes m +ℤ shared picked other n ≡ shared picked is_yes (m - n)
cancel true true true m n e l = absurd (cc)
cancel true true false m n e l = omega (arith, ints)
cancel true false true m n e l = omega (arith, ints)
cancel true false false m n e l = absurd (cc)
cancel false is_yes other m n e l = refl

against_cancel : (is_yes other : Bool) (m n : ℕ) → same_sign is_yes other ≡ false → n < m + 1 → against is_yes m +ℤ against other n ≡ against is_yes (m - n) +ℤ pos n
against_cancel true true m n e l = absurd (cc)
against_cancel true false m n e l = omega (arith, ints)
against_cancel false true m n e l = omega (arith, ints)
against_cancel false false m n e l = absurd (cc)

turned : (y z : Bool) → same_sign y z ≡ false → same_sign z y ≡ false
turned true true h = h
turned true false h = refl
turned false true h = refl
turned false false h = h

empty : (picked is_yes : Bool) → shared picked is_yes 0 ≡ pos 0
empty true true = refl
empty true false = refl
empty false is_yes = refl

none_against : (is_yes : Bool) → against is_yes 0 ≡ pos 0
none_against true = refl
none_against false = refl

joins : (t u : Term) (s : Sum) → t.lit.var ≡ u.lit.var → Joins t u s (joined t u s)
joins t u s e = go (same_sign t.lit.yes u.lit.yes) refl
  where
    G : Sum → Type 0
    G j = Joins t u s j

    picked : ℕ → Bool
    picked x = eqb u.lit.var x

    at_t : (x : ℕ) → share (is_var x) (as_part t) ≡ shared (picked x) t.lit.yes t.coef
    at_t x = ap (λ (y : ℕ). shared (eqb y x) t.lit.yes t.coef) e

    go : (b : Bool) → same_sign t.lit.yes u.lit.yes ≡ b → G (joined t u s)
    go true q =
        let y = alike t.lit.yes u.lit.yes q in
        let j : joined t u s ≡ record { terms = record { coef = t.coef + u.coef; lit = u.lit } ∷ s.terms; cancelled = s.cancelled } = rw q refl in
        subst G (sym j) (record {
          same = λ x. omega (arith, ints, at_t x, add_up (picked x) u.lit.yes t.coef u.coef, ap (λ (b : Bool). shared (picked x) b t.coef) y);
          negated = omega (arith, ints, against_up u.lit.yes t.coef u.coef, ap (λ (b : Bool). against b t.coef) y);
        })
    go false q = elim (cases_eq t.coef u.coef) [
      | inl c ↦ (
          let test : eqb t.coef u.coef ≡ true = grind (arith, nat_tests) in
          let j : joined t u s ≡ record { terms = s.terms; cancelled = s.cancelled + t.coef } = rw (q, test) refl in
          let none : t.coef - u.coef ≡ 0 = omega arith in
          subst G (sym j) (record {
            same = λ x. omega (arith, ints, at_t x, cancel (picked x) t.lit.yes u.lit.yes t.coef u.coef q (omega arith), ap (shared (picked x) t.lit.yes) none, empty (picked x) t.lit.yes);
            negated = omega (arith, ints, c, against_cancel t.lit.yes u.lit.yes t.coef u.coef q (omega arith), ap (against t.lit.yes) none, none_against t.lit.yes);
          }))
      | inr n ↦ (
          let test : eqb t.coef u.coef ≡ false = grind (arith, nat_tests) in
          elim (cases_lt t.coef u.coef) [
            | inl l ↦ (
                let test2 : ltb t.coef u.coef ≡ true = grind (arith, nat_tests) in
                let j : joined t u s ≡ record { terms = record { coef = u.coef - t.coef; lit = u.lit } ∷ s.terms; cancelled = s.cancelled + t.coef } = rw (q, test, test2) refl in
                let o = turned t.lit.yes u.lit.yes q in
                subst G (sym j) (record {
                  same = λ x. omega (arith, ints, at_t x, cancel (picked x) u.lit.yes t.lit.yes u.coef t.coef o (omega arith));
                  negated = omega (arith, ints, against_cancel u.lit.yes t.lit.yes u.coef t.coef o (omega arith));
                }))
            | inr g ↦ (
                let test2 : ltb t.coef u.coef ≡ false = grind (arith, nat_tests) in
                let j : joined t u s ≡ record { terms = record { coef = t.coef - u.coef; lit = t.lit } ∷ s.terms; cancelled = s.cancelled + u.coef } = rw (q, test, test2) refl in
                subst G (sym j) (record {
                  same = λ x. omega (arith, ints, at_t x, cancel (picked x) t.lit.yes u.lit.yes t.coef u.coef q (omega arith), ap (λ (y : ℕ). shared (eqb y x) t.lit.yes (t.coef - u.coef)) e);
                  negated = omega (arith, ints, against_cancel t.lit.yes u.lit.yes t.coef u.coef q (omega arith));
                }))
          ])
    ]

-- a merge keeps the sum of each variable
merged_same : (x : ℕ) (ts us : List Term) (s : Sum) → Merged ts us s → signed_sum x (map as_part s.terms) ≡ signed_sum x (map as_part ts) +ℤ signed_sum x (map as_part us)
merged_same x [] us _ done = omega (arith, ints)
merged_same x (t ∷ ts) us _ (first s b m) = omega (arith, ints, merged_same x ts us s m)
merged_same x (t ∷ ts) (u ∷ us) _ (second s l m) = omega (arith, ints, merged_same x (t ∷ ts) us s m)
merged_same x (t ∷ ts) (u ∷ us) _ (both s e m) = omega (arith, ints, merged_same x ts us s m, (joins t u s e).same x)

-- and cancels what its negated coefficients lose
merged_negated : (ts us : List Term) (s : Sum) → Merged ts us s → negated_sum (map as_part s.terms) +ℤ pos s.cancelled ≡ negated_sum (map as_part ts) +ℤ negated_sum (map as_part us)
merged_negated [] us _ done = omega (arith, ints)
merged_negated (t ∷ ts) us _ (first s b m) = omega (arith, ints, merged_negated ts us s m)
merged_negated (t ∷ ts) (u ∷ us) _ (second s l m) = omega (arith, ints, merged_negated (t ∷ ts) us s m)
merged_negated (t ∷ ts) (u ∷ us) _ (both s e m) = omega (arith, ints, merged_negated ts us s m, (joins t u s e).negated)

-- a difference, or 0 where it is below 0
difference : (z : ℤ) (m n : ℕ) → z +ℤ pos n ≡ pos m → m - n ≡ or_zero z
difference (pos k) m n e = omega (arith, ints)
difference (negsuc k) m n e = omega (arith, ints)

pub sum_is_normal : (a b : Linear) → IsNormal a.terms a.degree → IsNormal b.terms b.degree → IsNormalOf (map as_part a.terms ++ map as_part b.terms) (pos a.degree +ℤ pos b.degree) (add a b)
sum_is_normal a b p q = record {
  positive = add_positive a b p q;
  rising = from_pairs 0 (add a b).terms (add_rising a b p q);
  same = λ x. merged_same x a.terms b.terms s m ∙ sym (sum_z-append (share (is_var x)) (map as_part a.terms) (map as_part b.terms));
  degree = difference (((pos a.degree +ℤ pos b.degree) -ℤ negated_sum ps) +ℤ negated_sum (map as_part s.terms)) (a.degree + b.degree) s.cancelled
      (omega (arith, ints, merged_negated a.terms b.terms s m, sum_z-append on_negated (map as_part a.terms) (map as_part b.terms)));
}
  where
    s : Sum
    s = merge a.terms b.terms

    m : Merged a.terms b.terms (merge a.terms b.terms)
    m = merged a.terms b.terms

    ps : List Part
    ps = map as_part a.terms ++ map as_part b.terms
