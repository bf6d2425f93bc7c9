use Rattle.std.proofs.Common.{◌≡◌, ℕ, ◌+◌, ◌<◌, Bool, true, false, not, cond, eqb, Option, Some, None, List, [], ◌∷◌, length, get_or, refl, sym, ap, ◌∙◌, arith, zero, suc}
use Rattle.std.proofs.lemmas.Bool.Decides.{nat_tests}
use Rattle.pb_rules.specs.declared.Term.{Term}
use Rattle.pb_rules.specs.Partial.{falsifies, is_false}
use Rattle.conflict_graph.specs.Clauses.{false_signs}
use Rattle.pb_rules.proofs.Rising.{From, from_least}
use Rattle.pb_rules.proofs.Assignments.{FalseToo}
use Rattle.conflict_graph.specs.Learning.{Falsifies}

pub falsifies-true : (o : Option Bool) (y : Bool) → falsifies o y ≡ true → o ≡ Some (not y)
falsifies-true None y h = absurd (cc)
falsifies-true (Some true) true h = absurd (cc)
falsifies-true (Some true) false h = refl
falsifies-true (Some false) true h = refl
falsifies-true (Some false) false h = absurd (cc)

pub falsifies-not : (o : Option Bool) (y : Bool) → o ≡ Some (not y) → falsifies o y ≡ true
falsifies-not o true h = rw h refl
falsifies-not o false h = rw h refl

-- what has a sign is false, and in range
pub signs-false : (p : ℕ → Option Bool) (ts : List Term) (n : ℕ) → ((i : ℕ) (d : Term) → i < length ts → (get_or ts i d).lit.var < n) → (x : ℕ) (b : Bool) → false_signs p ts x ≡ Some b
    → (p x ≡ Some (not b)) × (x < n)
signs-false p [] n w x b h = absurd (cc)
signs-false p (t ∷ ts) n w x b h = go (eqb t.lit.var x) refl (is_false p t.lit) refl (signs-false p ts n (λ i d l. w (suc i) d (omega arith)) x b)
  where
    go : (o : Bool) → eqb t.lit.var x ≡ o → (q : Bool) → is_false p t.lit ≡ q → (false_signs p ts x ≡ Some b → (p x ≡ Some (not b)) × (x < n)) → (p x ≡ Some (not b)) × (x < n)
    go true e true f ih =
        let v : t.lit.var ≡ x = grind (arith, nat_tests) in
        let s : false_signs p (t ∷ ts) x ≡ Some t.lit.yes = rw (e, f) refl in
        let y : t.lit.yes ≡ b = (let z : Some t.lit.yes ≡ Some b = sym s ∙ h in cc) in
        let r = w 0 t (omega arith) in
        (ap p (sym v) ∙ falsifies-true (p t.lit.var) t.lit.yes f ∙ ap (λ (y : Bool). Some (not y)) y, omega arith)
    go true e false f ih = absurd (let s : false_signs p (t ∷ ts) x ≡ None = rw (e, f) refl in cc)
    go false e q f ih = (let s : false_signs p (t ∷ ts) x ≡ false_signs p ts x = rw e refl in ih (sym s ∙ h))

-- a false literal has its sign
pub signs_at : (p : ℕ → Option Bool) (k : ℕ) (ts : List Term) (i : ℕ) (d : Term) → From k ts → i < length ts → is_false p (get_or ts i d).lit ≡ true
    → false_signs p ts (get_or ts i d).lit.var ≡ Some (get_or ts i d).lit.yes
signs_at p k [] i d f h z = absurd (omega arith)
signs_at p k (t ∷ ts) zero d f h z = let hit : eqb t.lit.var t.lit.var ≡ true = grind (arith, nat_tests) in rw (hit, z) refl
signs_at p k (t ∷ ts) (suc i) d f h z =
    let a = from_least (t.lit.var + 1) ts f.1 i d (omega arith) in
    let miss : eqb t.lit.var (get_or ts i d).lit.var ≡ false = grind (arith, nat_tests) in
    rw miss (signs_at p (t.lit.var + 1) ts i d f.1 (omega arith) z)

-- only the value of a variable counts for its sign
pub signs_agree : (p q : ℕ → Option Bool) (ts : List Term) (x : ℕ) → p x ≡ q x → false_signs p ts x ≡ false_signs q ts x
signs_agree p q [] x e = refl
signs_agree p q (t ∷ ts) x e = go (eqb t.lit.var x) refl (signs_agree p q ts x e)
  where
    go : (o : Bool) → eqb t.lit.var x ≡ o → false_signs p ts x ≡ false_signs q ts x → cond o (cond (is_false p t.lit) (Some t.lit.yes) None) (false_signs p ts x)
        ≡ cond o (cond (is_false q t.lit) (Some t.lit.yes) None) (false_signs q ts x)
    go true h ih =
        let v : t.lit.var ≡ x = grind (arith, nat_tests) in
        let s : p t.lit.var ≡ q t.lit.var = ap p v ∙ e ∙ ap q (sym v) in
        ap (λ (o : Option Bool). cond (falsifies o t.lit.yes) (Some t.lit.yes) None) s
    go false h ih = ih

-- an assignment that falsifies the signs makes the same literals false
pub signs_too : (p a : ℕ → Option Bool) (k : ℕ) (ts : List Term) → From k ts → Falsifies a (false_signs p ts) → FalseToo p a ts
signs_too p a k ts f h i d l z =
    falsifies-not (a (get_or ts i d).lit.var) (get_or ts i d).lit.yes (h (get_or ts i d).lit.var (get_or ts i d).lit.yes (signs_at p k ts i d f l z))
