-- Where at most one passes, two that pass are the same.
use Rattle.std.proofs.Common.{◌≡◌, ℕ, zero, suc, ◌+◌, ◌<◌, ◌≤◌, Bool, true, false, cond, nat_eq, refl, sym, ap, ◌∙◌, subst, arith, add-one, ◌⊎◌, inl, inr}
use Rattle.std.specs.List.{count_by}
use Rattle.std.proofs.lemmas.Bool.Decides.{nat_tests}
use Rattle.spec_model.specs.Spec.{SpecValue, Bits, those, option_at, arc_at, arc_var}
use Rattle.spec_model.specs.Rules.{IsOn, Uses, BoundOnce, options_of, arcs_into, uses_into, of_task, goes_into, arc_bit}
use Rattle.spec_model.proofs.Those.{count_by-those_suc as more, cases_suc}

-- each one that passes counts
pub counted : (f p : ℕ → Bool) (n i : ℕ) → i < n → p i ≡ true → f i ≡ true → 1 ≤ count_by f (those p n)
counted f p zero i h pi fi = absurd (omega arith)
counted f p (suc n) i h pi fi =
    let split = cases_suc i n h in
    elim split [
      | inl e ↦
          let pn : p n ≡ true = subst (λ (x : ℕ). p x ≡ true) e pi in
          let fn' : f n ≡ true = subst (λ (x : ℕ). f x ≡ true) e fi in
          rw (more f p n, pn, fn') (omega arith)
      | inr l ↦ omega (arith, counted f p n i l pi fi, more f p n)
    ]

-- two that pass are one
pub same_of_one : (f p : ℕ → Bool) (n i j : ℕ) → i < n → j < n → p i ≡ true → f i ≡ true → p j ≡ true → f j ≡ true → count_by f (those p n) ≤ 1 → i ≡ j
same_of_one f p zero i j hi hj pi fi pj fj one = absurd (omega arith)
same_of_one f p (suc n) i j hi hj pi fi pj fj one =
    let split_i = cases_suc i n hi in
    let split_j = cases_suc j n hj in
    elim split_i [
      | inl ei ↦ elim split_j [
        | inl ej ↦ ei ∙ sym ej
        | inr lj ↦ absurd (clash f p n i j ei pi fi lj pj fj one)
      ]
      | inr li ↦ elim split_j [
        | inl ej ↦ absurd (clash f p n j i ej pj fj li pi fi one)
        | inr lj ↦ same_of_one f p n i j li lj pi fi pj fj (omega (arith, one, more f p n))
      ]
    ]
  where
    clash : (f p : ℕ → Bool) (n i j : ℕ) → i ≡ n → p i ≡ true → f i ≡ true → j < n → p j ≡ true → f j ≡ true → count_by f (those p (suc n)) ≤ 1 → ⊥
    clash f p n i j e pi fi l pj fj one =
        let pn : p n ≡ true = subst (λ (x : ℕ). p x ≡ true) e pi in
        let fn' : f n ≡ true = subst (λ (x : ℕ). f x ≡ true) e fi in
        let whole : count_by f (those p (suc n)) ≡ count_by f (those p n) + 1 = rw (more f p n, pn, fn') in
        omega (arith, whole, counted f p n j l pj fj)

-- a task that is bound once is on one resource
pub IsOn-same : (s : SpecValue) (f : Bits) (t r q : ℕ) → BoundOnce s f t → IsOn s f t r → IsOn s f t q → r ≡ q
unfolding of_task
IsOn-same s f t r q once x y =
    let p = of_task s t in
    let e : x.choice ≡ y.choice = same_of_one f p _ x.choice y.choice x.in_range y.in_range (test x.of_task) x.chosen (test y.of_task) y.chosen (omega (arith, once)) in
    sym x.on_resource ∙ (ap (λ (o : ℕ). (option_at s o).resource) e ∙ y.on_resource)
  where
    test : {a b : ℕ} → a ≡ b → nat_eq a b ≡ true
    test e = grind (arith, nat_tests, e)

-- a task that is bound once is on no other resource
pub IsOn-elsewhere : (s : SpecValue) (f : Bits) (t source now : ℕ) → BoundOnce s f t → IsOn s f t source → (now ≡ source → ⊥) → ¬ IsOn s f t now
IsOn-elsewhere s f t source now once on ne x = ne (IsOn-same s f t now source once x on)

-- at most one used arc goes into a resource
pub Uses-same : (s : SpecValue) (f : Bits) (m r a b : ℕ) → uses_into s f m r ≤ 1 → Uses s f m a → (arc_at s a).head ≡ r → Uses s f m b → (arc_at s b).head ≡ r → a ≡ b
unfolding goes_into arc_bit uses_into
Uses-same s f m r a b one x hx y hy =
    same_of_one (arc_bit s f m) (goes_into s r) _ a b x.in_range y.in_range (test hx) x.bit (test hy) y.bit one
  where
    test : {a b : ℕ} → a ≡ b → nat_eq a b ≡ true
    test e = grind (arith, nat_tests, e)
