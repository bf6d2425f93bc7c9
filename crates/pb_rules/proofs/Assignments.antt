use Rattle.std.proofs.Common.{◌≡◌, ◌≢◌, ℕ, ◌+◌, ◌<◌, ◌≤◌, Bool, true, false, not, cond, eqb, Option, Some, None, List, [], ◌∷◌, length, get_or, refl, sym, ap, ◌∙◌, subst, arith, inl, inr, ◌⊎◌, zero, suc}
use Rattle.std.proofs.lemmas.Bool.{cases_eq}
use Rattle.std.proofs.lemmas.Bool.Decides.{nat_tests}
use Rattle.std.proofs.lemmas.List.Sums.{sum_by-cons}
use Rattle.pb_rules.specs.declared.Term.{Term}
use Rattle.pb_rules.specs.Literal.{Literal}
use Rattle.pb_rules.specs.Linear.{Linear}
use Rattle.pb_rules.specs.Partial.{falsifies, is_false, open_weight, Forces, InConflict, IsClosed}
use Rattle.pb_rules.specs.Partial.{flipped}

-- the room of one term more
pub open-cons : (a : ℕ → Option Bool) (t : Term) (ts : List Term) → open_weight a (t ∷ ts) ≡ cond (is_false a t.lit) 0 t.coef + open_weight a ts
open-cons a t ts = sum_by-cons (λ (t : Term). cond (is_false a t.lit) 0 t.coef) t ts

-- each literal of the terms that is false in p is false in q
abbrev pub FalseToo : (ℕ → Option Bool) → (ℕ → Option Bool) → List Term → Type 0
FalseToo p q ts = (i : ℕ) (d : Term) → i < length ts → is_false p (get_or ts i d).lit ≡ true → is_false q (get_or ts i d).lit ≡ true

open-head : (x y : Bool) (k : ℕ) → (x ≡ true → y ≡ true) → cond y 0 k ≤ cond x 0 k
open-head x true k h = omega arith
open-head false false k h = omega arith
open-head true false k h = absurd (let e = h refl in cc)

-- with more false literals there is less room
pub room_falls : (p q : ℕ → Option Bool) (ts : List Term) → FalseToo p q ts → open_weight q ts ≤ open_weight p ts
room_falls p q [] h = omega arith
room_falls p q (t ∷ ts) h =
    let a = open-cons p t ts in
    let b = open-cons q t ts in
    let here = open-head (is_false p t.lit) (is_false q t.lit) t.coef (h 0 t (omega arith)) in
    let ih = room_falls p q ts (λ i d l. h (suc i) d (omega arith)) in
    omega arith

flipped_other : (p : ℕ → Option Bool) (l m : Literal) → m.var ≢ l.var → is_false (flipped p l) m ≡ is_false p m
flipped_other p l m n = let t : eqb m.var l.var ≡ false = grind (arith, nat_tests) in rw t refl

flipped_same : (p : ℕ → Option Bool) (l m : Literal) → m.var ≡ l.var → is_false (flipped p l) m ≡ falsifies (Some (not l.yes)) m.yes
flipped_same p l m e = let t : eqb m.var l.var ≡ true = grind (arith, nat_tests) in rw t refl

falsifies-not : (b : Bool) → falsifies (Some (not b)) b ≡ true
falsifies-not true = refl
falsifies-not false = refl

-- a variable without a value falsifies no literal
pub falsifies-none : (o : Option Bool) (b : Bool) → o ≡ None → falsifies o b ≡ false
falsifies-none o b e = rw e refl

flip_false : (p : ℕ → Option Bool) (l : Literal) (ts : List Term) → p l.var ≡ None → FalseToo p (flipped p l) ts
flip_false p l ts free i d h f =
    let m : Literal = (get_or ts i d).lit in
    elim (cases_eq m.var l.var) [
      | inl e ↦ absurd (let n = falsifies-none (p m.var) m.yes (ap p e ∙ free) in cc)
      | inr n ↦ flipped_other p l m n ∙ f
    ]

-- making a literal of the terms false takes its coefficient
pub room_flip : (p : ℕ → Option Bool) (l : Literal) (t : Term) (ts : List Term) (k : ℕ) → p l.var ≡ None → t.lit ≡ l → k < length ts → get_or ts k t ≡ t
    → open_weight (flipped p l) ts + t.coef ≤ open_weight p ts
room_flip p l t [] k free e h at = absurd (omega arith)
room_flip p l t (u ∷ ts) zero free e h at =
    let a = open-cons p u ts in
    let b = open-cons (flipped p l) u ts in
    let rest = room_falls p (flipped p l) ts (flip_false p l ts free) in
    let same : u.lit ≡ l = ap (λ (v : Term). v.lit) at ∙ e in
    let coef : u.coef ≡ t.coef = ap (λ (v : Term). v.coef) at in
    let x : is_false (flipped p l) u.lit ≡ true = flipped_same p l u.lit (ap (λ (m : Literal). m.var) same) ∙ ap (λ (m : Literal). falsifies (Some (not l.yes)) m.yes) same ∙ falsifies-not l.yes in
    let y : is_false p u.lit ≡ false = falsifies-none (p u.lit.var) u.lit.yes (ap (λ (m : Literal). p m.var) same ∙ free) in
    let x' : cond (is_false (flipped p l) u.lit) 0 u.coef ≡ 0 = rw x refl in
    let y' : cond (is_false p u.lit) 0 u.coef ≡ u.coef = rw y refl in
    omega arith
room_flip p l t (u ∷ ts) (suc k) free e h at =
    let a = open-cons p u ts in
    let b = open-cons (flipped p l) u ts in
    let ih = room_flip p l t ts k free e (omega arith) at in
    let here = open-head (is_false p u.lit) (is_false (flipped p l) u.lit) u.coef (flip_false p l (u ∷ ts) free 0 u (omega arith)) in
    omega arith

-- a constraint that forces a literal is in conflict once it is made false
pub forced_flip : (p : ℕ → Option Bool) (c : Linear) (l : Literal) → Forces p c l → InConflict (flipped p l) c
forced_flip p c l f =
    let t : Term = record { coef = f.coef; lit = l } in
    let r = room_flip p l t c.terms (f.there).0 f.unassigned refl (f.there).1 (f.there).2 in
    let b = f.beyond in
    omega arith

-- a closed assignment has no conflict that a smaller one has
pub closed_conflict : (p a : ℕ → Option Bool) (c : Linear) → InConflict p c → FalseToo p a c.terms → IsClosed a c → ⊥
closed_conflict p a c h f closed =
    let r = room_falls p a c.terms f in
    let n = closed.no_conflict in
    omega arith

-- a closed assignment takes what a smaller one forces
pub closed_takes : (p a : ℕ → Option Bool) (c : Linear) (l : Literal) → Forces p c l → FalseToo p a c.terms → IsClosed a c → a l.var ≡ Some l.yes
closed_takes p a c l f false_too closed = go (a l.var) refl
  where
    t : Term
    t = record { coef = f.coef; lit = l }

    same : (b y : Bool) → b ≢ y → b ≡ not y
    same true true n = absurd (n refl)
    same true false n = refl
    same false true n = refl
    same false false n = absurd (n refl)

    bool_cases : (b y : Bool) → (b ≡ y) ⊎ (b ≡ not y)
    bool_cases true true = inl refl
    bool_cases true false = inr refl
    bool_cases false true = inr refl
    bool_cases false false = inl refl

    go : (o : Option Bool) → a l.var ≡ o → a l.var ≡ Some l.yes
    go None e =
        let P : Term → Type 0 = λ u. a u.lit.var ≡ None → c.degree + u.coef ≤ open_weight a c.terms in
        let within = subst P (f.there).2 (closed.none_forced (f.there).0 t (f.there).1) e in
        let r = room_falls p a c.terms false_too in
        let b = f.beyond in
        absurd (omega arith)
    go (Some b) e = elim (bool_cases b l.yes) [
      | inl q ↦ e ∙ ap (λ (w : Bool). Some w) q
      | inr q ↦ absurd (closed_conflict (flipped p l) a c (forced_flip p c l f) (λ i d h z.
          elim (cases_eq (get_or c.terms i d).lit.var l.var) [
            | inl s ↦ (let m : Literal = (get_or c.terms i d).lit in
                let v : a m.var ≡ Some (not l.yes) = ap a s ∙ e ∙ ap (λ (w : Bool). Some w) q in
                ap (λ (o : Option Bool). falsifies o m.yes) v ∙ sym (flipped_same p l m s) ∙ z)
            | inr n ↦ false_too i d h (sym (flipped_other p l (get_or c.terms i d).lit n) ∙ z)
          ]) closed)
    ]
