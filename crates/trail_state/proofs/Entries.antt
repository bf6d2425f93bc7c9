use Rattle.std.proofs.Common.{◌≡◌, ◌≢◌, ℕ, ◌+◌, ◌<◌, ◌≤◌, Bool, true, false, cond, eqb, Option, Some, None, List, [], ◌∷◌, ◌++◌, length, get_or, take, refl, sym, ap, ◌∙◌, arith, is_some, zero, suc, inl, inr}
use Rattle.std.proofs.lemmas.List.{take_more, take-take}
use Rattle.std.proofs.lemmas.Bool.{cases_eq}
use Rattle.std.proofs.lemmas.Bool.Decides.{nat_tests}
use Rattle.pb_rules.specs.Partial.{GoesOn}
use Rattle.pb_constraints.specs.declared.ConId.{ConId}
use Rattle.trail_state.specs.Trail.{Entry, value_in, reason_in, IsDistinct, with_reason}

-- a variable that no entry has, has no value
pub value_in-none : (es : List Entry) (x : ℕ) → ((k : ℕ) (d : Entry) → k < length es → (get_or es k d).lit.var ≢ x) → value_in es x ≡ None
value_in-none [] x h = refl
value_in-none (e ∷ es) x h =
    let a : e.lit.var ≢ x = h 0 e (omega arith) in
    let b : value_in es x ≡ None = value_in-none es x (λ k d l. h (suc k) d (omega arith)) in
    grind (arith, nat_tests)

-- a variable that one entry has, has the value and the reason there
pub value_in_at : (es : List Entry) (x k : ℕ) (d : Entry) → k < length es → (get_or es k d).lit.var ≡ x → ((j : ℕ) (f : Entry) → j < length es → (get_or es j f).lit.var ≡ x → j ≡ k)
    → (value_in es x ≡ Some (get_or es k d).lit.yes) × (reason_in es x ≡ (get_or es k d).reason)
value_in_at [] x k d h e u = absurd (omega arith)
value_in_at (f ∷ es) x zero d h e u = (grind (arith, nat_tests), grind (arith, nat_tests))
value_in_at (f ∷ es) x (suc k) d h e u =
    let ne : f.lit.var ≢ x = λ q. absurd (omega (arith, u 0 f (omega arith) q)) in
    let w = value_in_at es x k d (omega arith) e (λ j g l q. omega (arith, u (suc j) g (omega arith) q)) in
    (grind (arith, nat_tests), grind (arith, nat_tests))

pub reason_none : (es : List Entry) (x : ℕ) → value_in es x ≡ None → reason_in es x ≡ None
reason_none [] x h = refl
reason_none (e ∷ es) x h =
    let ih : value_in es x ≡ None → reason_in es x ≡ None = reason_none es x in
    elim (cases_eq e.lit.var x) [
      | inl q ↦ (let a : value_in (e ∷ es) x ≡ Some e.lit.yes = grind (arith, nat_tests) in absurd (cc))
      | inr q ↦ (let a : value_in (e ∷ es) x ≡ value_in es x = grind (arith, nat_tests) in
          let b : reason_in (e ∷ es) x ≡ reason_in es x = grind (arith, nat_tests) in
          b ∙ ih (sym a ∙ h))
    ]

-- an entry of a variable without a value before it gives the variable its value
pub push_same : (es : List Entry) (e : Entry) (x : ℕ) → value_in es x ≡ None → e.lit.var ≡ x → value_in (es ++ e ∷ []) x ≡ Some e.lit.yes
push_same [] e x h q = grind (arith, nat_tests)
push_same (f ∷ es) e x h q =
    elim (cases_eq f.lit.var x) [
      | inl s ↦ (let a : value_in (f ∷ es) x ≡ Some f.lit.yes = grind (arith, nat_tests) in absurd (cc))
      | inr n ↦ (let a : value_in (f ∷ es) x ≡ value_in es x = grind (arith, nat_tests) in
          let b : value_in (f ∷ es ++ e ∷ []) x ≡ value_in (es ++ e ∷ []) x = grind (arith, nat_tests) in
          b ∙ push_same es e x (sym a ∙ h) q)
    ]

-- and changes nothing of the others
pub push_other : (es : List Entry) (e : Entry) (x : ℕ) → e.lit.var ≢ x → value_in (es ++ e ∷ []) x ≡ value_in es x
push_other [] e x n = grind (arith, nat_tests)
push_other (f ∷ es) e x n =
    let ih = push_other es e x n in
    ap (λ o. cond (eqb f.lit.var x) (Some f.lit.yes) o) ih

-- the values one place on, at the variable of the entry there
pub value_more_same : (es : List Entry) (p : ℕ) (d : Entry) → p < length es → IsDistinct es → value_in (take (p + 1) es) (get_or es p d).lit.var ≡ Some (get_or es p d).lit.yes
value_more_same es p d h distinct = rw (take_more es p d h) (push_same (take p es) (get_or es p d) (get_or es p d).lit.var (distinct p d h) refl)

-- and at the others
pub value_more_other : (es : List Entry) (p : ℕ) (d : Entry) (x : ℕ) → p < length es → (get_or es p d).lit.var ≢ x → value_in (take (p + 1) es) x ≡ value_in (take p es) x
value_more_other es p d x h n = rw (take_more es p d h) (push_other (take p es) (get_or es p d) x n)

-- longer entries go on from their first ones
pub GoesOn-append : (es fs : List Entry) → GoesOn (value_in es) (value_in (es ++ fs))
GoesOn-append [] fs x b h = absurd (cc)
GoesOn-append (e ∷ es) fs x b h = go (eqb e.lit.var x) refl (GoesOn-append es fs x b)
  where
    go : (o : Bool) → eqb e.lit.var x ≡ o → (value_in es x ≡ Some b → value_in (es ++ fs) x ≡ Some b) → value_in ((e ∷ es) ++ fs) x ≡ Some b
    go true q ih = (let v : value_in (e ∷ es) x ≡ Some e.lit.yes = rw q refl in rw q (sym v ∙ h))
    go false q ih = (let v : value_in (e ∷ es) x ≡ value_in es x = rw q refl in rw q (ih (sym v ∙ h)))

pub GoesOn-take : (es : List Entry) (k : ℕ) → GoesOn (value_in (take k es)) (value_in es)
GoesOn-take es zero x b h = absurd (cc)
GoesOn-take [] (suc k) x b h = absurd (cc)
GoesOn-take (e ∷ es) (suc k) x b h = go (eqb e.lit.var x) refl (GoesOn-take es k x b)
  where
    go : (o : Bool) → eqb e.lit.var x ≡ o → (value_in (take k es) x ≡ Some b → value_in es x ≡ Some b) → value_in (e ∷ es) x ≡ Some b
    go true q ih = (let v : value_in (e ∷ take k es) x ≡ Some e.lit.yes = rw q refl in rw q (sym v ∙ h))
    go false q ih = (let v : value_in (e ∷ take k es) x ≡ value_in (take k es) x = rw q refl in rw q (ih (sym v ∙ h)))

-- a variable without a value has none before either
pub none-take : (es : List Entry) (j x : ℕ) → value_in es x ≡ None → value_in (take j es) x ≡ None
none-take es j x h = go (value_in (take j es) x) refl
  where
    go : (o : Option Bool) → value_in (take j es) x ≡ o → value_in (take j es) x ≡ None
    go None q = q
    go (Some b) q = (let s = GoesOn-take es j x b q in absurd (cc))

-- a variable without a value had none before
pub none_below : (es : List Entry) (j k x : ℕ) → j ≤ k → value_in (take k es) x ≡ None → value_in (take j es) x ≡ None
none_below es j k x l h = ap (λ (fs : List Entry). value_in fs x) (sym (take-take j k es l)) ∙ none-take (take k es) j x h

-- a variable without a value is that of no entry
pub none_apart : (es : List Entry) (x k : ℕ) (d : Entry) → value_in es x ≡ None → k < length es → (get_or es k d).lit.var ≢ x
none_apart [] x k d h l e = absurd (omega arith)
none_apart (f ∷ es) x zero d h l e =
    let a : value_in (f ∷ es) x ≡ Some f.lit.yes = grind (arith, nat_tests) in absurd (cc)
none_apart (f ∷ es) x (suc k) d h l e =
    elim (cases_eq f.lit.var x) [
      | inl q ↦ (let a : value_in (f ∷ es) x ≡ Some f.lit.yes = grind (arith, nat_tests) in absurd (cc))
      | inr n ↦ (let a : value_in (f ∷ es) x ≡ value_in es x = grind (arith, nat_tests) in
          none_apart es x k d (sym a ∙ h) (omega arith) e)
    ]

-- a variable with a value is that of some entry
pub place_of : (es : List Entry) (x : ℕ) (b : Bool) → value_in es x ≡ Some b → (k : ℕ) × (k < length es) × ((d : Entry) → (get_or es k d).lit.var ≡ x)
place_of [] x b h = absurd (cc)
place_of (e ∷ es) x b h =
    elim (cases_eq e.lit.var x) [
      | inl q ↦ (0, omega arith, λ d. q)
      | inr n ↦ (let a : value_in (e ∷ es) x ≡ value_in es x = grind (arith, nat_tests) in
          let r = place_of es x b (sym a ∙ h) in
          (suc r.0, omega (arith, r.1), λ d. r.2 d))
    ]

-- another reason leaves the values
pub value_in-with_reason : (x : ℕ) (reason : ConId) (es : List Entry) (y : ℕ) → value_in (with_reason x reason es) y ≡ value_in es y
value_in-with_reason x reason [] y = refl
value_in-with_reason x reason (e ∷ es) y = go (eqb e.lit.var x) refl (value_in-with_reason x reason es y)
  where
    go : (b : Bool) → eqb e.lit.var x ≡ b → value_in (with_reason x reason es) y ≡ value_in es y → value_in (with_reason x reason (e ∷ es)) y ≡ value_in (e ∷ es) y
    go true q ih = rw (q, ih) refl
    go false q ih = rw (q, ih) refl

-- a value among the first entries is the value
pub take_known : (es : List Entry) (k x : ℕ) → is_some (value_in (take k es) x) ≡ true → value_in es x ≡ value_in (take k es) x
take_known es k x h = go (value_in (take k es) x) refl h
  where
    go : (o : Option Bool) → value_in (take k es) x ≡ o → is_some o ≡ true → value_in es x ≡ o
    go None e h = absurd (cc)
    go (Some b) e h = GoesOn-take es k x b e

pub take_unknown : (es : List Entry) (k x : ℕ) → is_some (value_in (take k es) x) ≡ false → value_in (take k es) x ≡ None
take_unknown es k x h = go (value_in (take k es) x) h
  where
    go : (o : Option Bool) → is_some o ≡ false → o ≡ None
    go None h = refl
    go (Some b) h = absurd (cc)
