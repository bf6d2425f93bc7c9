use Rattle.std.proofs.Common.{◌≡◌, ℕ, ◌+◌, ◌-◌, Bool, true, false, not, cond, eqb, ltb, List, [], ◌∷◌, refl, sym, ap, ◌∙◌, subst, arith, inl, inr, ◌⊎◌}
use Rattle.std.proofs.lemmas.Bool.{cases_eq, cases_lt}
use Rattle.std.proofs.lemmas.Bool.Decides.{nat_tests}
use Rattle.std.proofs.lemmas.List.Sums.{sum_by-cons}
use Rattle.pb_rules.specs.declared.Term.{Term}
use Rattle.pb_rules.specs.Literal.{lit_true}
use Rattle.pb_rules.specs.Linear.{Linear, Holds, true_weight}
use Rattle.pb_rules.specs.CuttingPlanes.{Sum, same_sign, onto, joined, merge_one, merge, add}

abbrev part : (ℕ → Bool) → Term → ℕ
part v t = cond (lit_true v t.lit) t.coef 0

-- the true weight with one term more
pub true_weight-cons : (v : ℕ → Bool) (t : Term) (ts : List Term) → true_weight v (t ∷ ts) ≡ part v t + true_weight v ts
true_weight-cons v t ts = sum_by-cons (part v) t ts

-- opposite literals: exactly one is true
opposite : (b y z : Bool) → same_sign y z ≡ false → (((k : ℕ) → cond (cond y b (not b)) k 0 ≡ k) × ((k : ℕ) → cond (cond z b (not b)) k 0 ≡ 0))
    ⊎ (((k : ℕ) → cond (cond y b (not b)) k 0 ≡ 0) × ((k : ℕ) → cond (cond z b (not b)) k 0 ≡ k))
opposite b true true h = absurd (cc)
opposite true true false h = inl (λ k. refl, λ k. refl)
opposite false true false h = inr (λ k. refl, λ k. refl)
opposite true false true h = inr (λ k. refl, λ k. refl)
opposite false false true h = inl (λ k. refl, λ k. refl)
opposite b false false h = absurd (cc)

-- signs that the test calls the same are
pub alike : (y z : Bool) → same_sign y z ≡ true → y ≡ z
alike true true h = refl
alike true false h = sym h
alike false true h = h
alike false false h = refl

joined-weight : (v : ℕ → Bool) (t u : Term) (s : Sum) → t.lit.var ≡ u.lit.var → true_weight v (joined t u s).terms + (joined t u s).cancelled ≡ part v t
    + (part v u + (true_weight v s.terms + s.cancelled))
joined-weight v t u sum e = go (same_sign t.lit.yes u.lit.yes) refl
  where
    G : Sum → Type 0
    G s = true_weight v s.terms + s.cancelled ≡ part v t + (part v u + (true_weight v sum.terms + sum.cancelled))

    go : (b : Bool) → same_sign t.lit.yes u.lit.yes ≡ b → G (joined t u sum)
    go true s =
        let y = alike t.lit.yes u.lit.yes s in
        let r : Term = record { coef = t.coef + u.coef; lit = u.lit } in
        let c = true_weight-cons v r sum.terms in
        let same : lit_true v t.lit ≡ lit_true v u.lit = ap (λ (x : ℕ). cond t.lit.yes (v x) (not (v x))) e ∙ ap (λ (w : Bool). cond w (v u.lit.var) (not (v u.lit.var))) y in
        let a : part v t ≡ cond (lit_true v u.lit) t.coef 0 = ap (λ b. cond b t.coef 0) same in
        let d : part v r ≡ cond (lit_true v u.lit) t.coef 0 + part v u = both (lit_true v u.lit) in
        let j : joined t u sum ≡ record { terms = r ∷ sum.terms; cancelled = sum.cancelled } = rw s refl in
        subst G (sym j) (omega arith)
      where
        both : (b : Bool) → cond b (t.coef + u.coef) 0 ≡ cond b t.coef 0 + cond b u.coef 0
        both true = refl
        both false = refl
    go false s =
        let w : Bool = v u.lit.var in
        let at-t : part v t ≡ cond (cond t.lit.yes w (not w)) t.coef 0 = ap (λ (x : ℕ). cond (cond t.lit.yes (v x) (not (v x))) t.coef 0) e in
        elim (cases_eq t.coef u.coef) [
          | inl q ↦ (
              let test : eqb t.coef u.coef ≡ true = grind (arith, nat_tests) in
              let j : joined t u sum ≡ record { terms = sum.terms; cancelled = sum.cancelled + t.coef } = rw (s, test) refl in
              subst G (sym j) (elim (opposite w t.lit.yes u.lit.yes s) [
                | inl o ↦ omega (arith, o.0 t.coef, o.0 u.coef, o.1 t.coef, o.1 u.coef)
                | inr o ↦
                    omega (arith, o.0 t.coef, o.0 u.coef, o.1 t.coef, o.1 u.coef)
              ]))
          | inr n ↦ (
              let test : eqb t.coef u.coef ≡ false = grind (arith, nat_tests) in
              elim (cases_lt t.coef u.coef) [
                | inl l ↦ (
                    let test2 : ltb t.coef u.coef ≡ true = grind (arith, nat_tests) in
                    let r : Term = record { coef = u.coef - t.coef; lit = u.lit } in
                    let j : joined t u sum ≡ record { terms = r ∷ sum.terms; cancelled = sum.cancelled + t.coef } = rw (s, test, test2) refl in
                    let c = true_weight-cons v r sum.terms in
                    let m = minus (lit_true v u.lit) u.coef t.coef in
                    subst G (sym j) (elim (opposite w t.lit.yes u.lit.yes s) [
                      | inl o ↦ omega (arith, o.0 t.coef, o.0 u.coef, o.1 t.coef, o.1 u.coef)
                      | inr o ↦
                          omega (arith, o.0 t.coef, o.0 u.coef, o.1 t.coef, o.1 u.coef)
                    ]))
                | inr g ↦ (
                    let test2 : ltb t.coef u.coef ≡ false = grind (arith, nat_tests) in
                    let r : Term = record { coef = t.coef - u.coef; lit = t.lit } in
                    let j : joined t u sum ≡ record { terms = r ∷ sum.terms; cancelled = sum.cancelled + u.coef } = rw (s, test, test2) refl in
                    let c = true_weight-cons v r sum.terms in
                    let m = minus (lit_true v t.lit) t.coef u.coef in
                    let at-r : part v r ≡ cond (cond t.lit.yes w (not w)) (t.coef - u.coef) 0 = ap (λ (x : ℕ). cond (cond t.lit.yes (v x) (not (v x))) (t.coef - u.coef) 0) e in
                    let m' = minus (cond t.lit.yes w (not w)) t.coef u.coef in
                    subst G (sym j) (elim (opposite w t.lit.yes u.lit.yes s) [
                      | inl o ↦ omega (arith, o.0 t.coef, o.0 u.coef, o.1 t.coef, o.1 u.coef)
                      | inr o ↦
                          omega (arith, o.0 t.coef, o.0 u.coef, o.1 t.coef, o.1 u.coef)
                    ]))
              ])
        ]
      where
        minus : (b : Bool) (m n : ℕ) → cond b (m - n) 0 ≡ cond b m 0 - cond b n 0
        minus true m n = refl
        minus false m n = refl

merge_one-weight : (v : ℕ → Bool) (t : Term) (f : List Term → Sum) (m : ℕ) → ((us : List Term) → true_weight v (f us).terms + (f us).cancelled ≡ m + true_weight v us) → (us : List Term)
    → true_weight v (merge_one t f us).terms + (merge_one t f us).cancelled ≡ part v t + m + true_weight v us
merge_one-weight v t f m h [] = let c = true_weight-cons v t (f []).terms in let g = h [] in omega arith
merge_one-weight v t f m h (u ∷ us) =
    let ih = merge_one-weight v t f m h us in
    let c = true_weight-cons v u us in
    let G : Sum → Type 0 = λ s. true_weight v s.terms + s.cancelled ≡ part v t + m + true_weight v (u ∷ us) in
    elim (cases_lt t.lit.var u.lit.var) [
      | inl l ↦ (
          let test : ltb t.lit.var u.lit.var ≡ true = grind (arith, nat_tests) in
          let j : merge_one t f (u ∷ us) ≡ onto t (f (u ∷ us)) = rw test refl in
          let d = true_weight-cons v t (f (u ∷ us)).terms in
          let g = h (u ∷ us) in
          subst G (sym j) (omega arith))
      | inr g ↦ (
          let test : ltb t.lit.var u.lit.var ≡ false = grind (arith, nat_tests) in
          elim (cases_eq t.lit.var u.lit.var) [
            | inl q ↦ (
                let test2 : eqb t.lit.var u.lit.var ≡ true = grind (arith, nat_tests) in
                let j : merge_one t f (u ∷ us) ≡ joined t u (f us) = rw (test, test2) refl in
                let w = joined-weight v t u (f us) q in
                let i = h us in
                subst G (sym j) (omega arith))
            | inr n ↦ (
                let test2 : eqb t.lit.var u.lit.var ≡ false = grind (arith, nat_tests) in
                let j : merge_one t f (u ∷ us) ≡ onto u (merge_one t f us) = rw (test, test2) refl in
                let d = true_weight-cons v u (merge_one t f us).terms in
                subst G (sym j) (omega arith))
          ])
    ]

pub merge-weight : (v : ℕ → Bool) (ts us : List Term) → true_weight v (merge ts us).terms + (merge ts us).cancelled ≡ true_weight v ts + true_weight v us
merge-weight v [] us = omega arith
merge-weight v (t ∷ ts) us =
    let c = true_weight-cons v t ts in
    let w = merge_one-weight v t (merge ts) (true_weight v ts) (merge-weight v ts) us in
    omega arith

-- a sum holds where both parts do
pub add-holds : (v : ℕ → Bool) (a b : Linear) → Holds v a → Holds v b → Holds v (add a b)
add-holds v a b h k = let s = merge-weight v a.terms b.terms in omega arith
