-- The false terms of a constraint, cut and divided, are the clause of their literals; weakening takes out the others.
use Rattle.std.proofs.Common.{◌≡◌, ℕ, ◌+◌, ◌/◌, ◌%◌, ◌<◌, ◌≤◌, Bool, true, false, cond, eqb, ltb, Option, Some, None, List, [], ◌∷◌, ◌++◌, refl, sym, ap, ◌∙◌, subst, arith, inl, inr, zero, suc, map, get_or, length, min}
use Rattle.std.proofs.lemmas.Bool.{cases_eq}
use Rattle.std.proofs.lemmas.Bool.Decides.{nat_tests}
use Rattle.std.proofs.Math.Nat.{div-one, mod-one, div-eq_of_lt-le, div-eq_of_lt, mod_self, mod-eq_of_lt}
use Rattle.pb_rules.specs.declared.Term.{Term}
use Rattle.pb_rules.specs.Linear.{IsNormal}
use Rattle.pb_rules.specs.Partial.{is_false}
use Rattle.pb_rules.specs.CuttingPlanes.{up, divided, cut, coef_of, without_var}
use Rattle.pb_rules.proofs.Rising.{From, From-weaker, rising_from}
use Rattle.conflict_graph.specs.Clauses.{with_literal, clause_row, false_terms, false_signs, greatest}
use Rattle.conflict_graph.proofs.Rows.{row_agree}

-- what a constraint's terms are from a variable on, up to a bound
pub record Terms (k n : ℕ) (ts : List Term) : Type 0 where
  pub from : From k ts
  pub within : (i : ℕ) (d : Term) → i < length ts → (get_or ts i d).lit.var < n
  pub positive : (i : ℕ) (d : Term) → i < length ts → 0 < (get_or ts i d).coef

pub Terms-of : (n : ℕ) (ts : List Term) (degree : ℕ) → IsNormal ts degree → ((i : ℕ) (d : Term) → i < length ts → (get_or ts i d).lit.var < n) → Terms 0 n ts
Terms-of n ts degree h w = record { from = rising_from 0 ts (λ d l. omega arith) h.rising; within = w; positive = h.positive }

pub Terms-tail : (k n : ℕ) (t : Term) (ts : List Term) → Terms k n (t ∷ ts) → Terms (t.lit.var + 1) n ts
Terms-tail k n t ts h = record { from = (h.from).1; within = λ i d l. h.within (suc i) d (omega arith); positive = λ i d l. h.positive (suc i) d (omega arith) }

-- a coefficient between 1 and the divisor becomes 1
pub up-one : (d m : ℕ) → 1 ≤ m → m ≤ d → up d m ≡ 1
up-one d m l h = elim (cases_eq m d) [
  | inl e ↦ (let a : d / d ≡ 1 = div-eq_of_lt-le d (omega arith) (omega arith) in
      let b : d % d ≡ 0 = mod_self d in
      let P : ℕ → Type 0 = λ x. x / d + min 1 (x % d) ≡ 1 in
      let e' : d ≡ m = sym e in
      subst P e' (omega arith))
  | inr n ↦ (let a : m / d ≡ 0 = div-eq_of_lt (omega arith) in
      let b : m % d ≡ m = mod-eq_of_lt (omega arith) in
      omega arith)
]

-- each coefficient is above 0
abbrev pub Positive : List Term → Type 0
Positive [] = Unit {0}
Positive (t ∷ ts) = (0 < t.coef) × Positive ts

pub positive_of : (ts : List Term) → ((i : ℕ) (d : Term) → i < length ts → 0 < (get_or ts i d).coef) → Positive ts
positive_of [] h = tt
positive_of (t ∷ ts) h = (h 0 t (omega arith), positive_of ts (λ i d l. h (suc i) d (omega arith)))

pub false-positive : (a : ℕ → Option Bool) (ts : List Term) → Positive ts → Positive (false_terms a ts)
false-positive a [] h = tt
false-positive a (t ∷ ts) h = go (is_false a t.lit) (false-positive a ts h.1)
  where
    go : (b : Bool) → Positive (false_terms a ts) → Positive (cond b (t ∷ false_terms a ts) (false_terms a ts))
    go true ih = (h.0, ih)
    go false ih = ih

-- nothing is cut where no coefficient is above the degree
pub cut_whole : (d : ℕ) (ts : List Term) → 0 < d → greatest ts ≤ d → Positive ts → cut d ts ≡ ts
cut_whole d [] p l h = refl
cut_whole d (t ∷ ts) p l h =
    let pos = h.0 in
    let least : min t.coef d ≡ t.coef = omega arith in
    let test : ltb 0 (min t.coef d) ≡ true = grind (arith, nat_tests) in
    rw test (ap (λ (c : ℕ). let r : Term = record { coef = c; lit = t.lit } in r ∷ cut d ts) least ∙ ap (λ (us : List Term). t ∷ us) (cut_whole d ts p (omega arith) h.1))

-- and a division by 1 changes nothing
pub divided-one : (ts : List Term) → map (divided 1) ts ≡ ts
divided-one [] = refl
divided-one (t ∷ ts) =
    let q = div-one t.coef in
    let r = mod-one t.coef in
    let u : up 1 t.coef ≡ t.coef = omega arith in
    ap (λ (c : ℕ). let r : Term = record { coef = c; lit = t.lit } in r ∷ map (divided 1) ts) u ∙ ap (λ (us : List Term). t ∷ us) (divided-one ts)

signs-none : (a : ℕ → Option Bool) (k : ℕ) (ts : List Term) (x : ℕ) → From k ts → x < k → false_signs a ts x ≡ None
signs-none a k [] x h l = refl
signs-none a k (t ∷ ts) x h l =
    let le = h.0 in
    let ne : eqb t.lit.var x ≡ false = grind (arith, nat_tests) in
    rw ne (signs-none a (t.lit.var + 1) ts x h.1 (omega arith))

cut-one : (d : ℕ) (t : Term) (ts : List Term) → 0 < d → 0 < t.coef → map (divided d) (cut d (t ∷ ts)) ≡ record { coef = 1; lit = t.lit } ∷ map (divided d) (cut d ts)
cut-one d t ts p q =
    let test : ltb 0 (min t.coef d) ≡ true = grind (arith, nat_tests) in
    let u = up-one d (min t.coef d) (omega arith) (omega arith) in
    rw test (ap (λ (c : ℕ). let r : Term = record { coef = c; lit = t.lit } in r ∷ map (divided d) (cut d ts)) u)

-- the false terms, cut to a degree and divided by it, are the clause of their literals
pub making : (n k d : ℕ) (a : ℕ → Option Bool) (ts : List Term) → 0 < d → Terms k (k + n) ts → map (divided d) (cut d (false_terms a ts)) ≡ clause_row n k (false_signs a ts)
making zero k d a [] p h = refl
making zero k d a (t ∷ ts) p h = absurd (let w = h.within 0 t (omega arith) in let f = (h.from).0 in omega arith)
making (suc n) k d a [] p h = making n (k + 1) d a [] p (record { from = tt; within = λ i e l. absurd (omega arith); positive = λ i e l. absurd (omega arith) })
making (suc n) k d a (t ∷ ts) p h =
    let f = (h.from).0 in
    let w = h.within 0 t (omega arith) in
    let pos = h.positive 0 t (omega arith) in
    let tail = Terms-tail k (k + suc n) t ts h in
    let M : ℕ → Type 0 = λ m. Terms (k + 1) m (t ∷ ts) in
    let N : ℕ → Type 0 = λ m. Terms (k + 1) m ts in
    let bound : k + suc n ≡ (k + 1) + n = omega arith in
    elim (cases_eq t.lit.var k) [
      | inl e ↦ (
          let hit : eqb t.lit.var k ≡ true = grind (arith, nat_tests) in
          let r : Terms (k + 1) (k + suc n) ts = record { from = From-weaker (k + 1) (t.lit.var + 1) ts (omega arith) tail.from; within = tail.within; positive = tail.positive } in
          let ih = making n (k + 1) d a ts p (subst N bound r) in
          let rest : clause_row n (k + 1) (false_signs a (t ∷ ts)) ≡ clause_row n (k + 1) (false_signs a ts) =
          row_agree n (k + 1) (false_signs a (t ∷ ts)) (false_signs a ts) (λ x l m. (let miss : eqb t.lit.var x ≡ false = grind (arith, nat_tests) in rw miss refl)) in
          at-head e hit pos (ih ∙ sym rest))
      | inr ne ↦ (
          let l : k + 1 ≤ t.lit.var = omega arith in
          let r : Terms (k + 1) (k + suc n) (t ∷ ts) = record { from = (l, (h.from).1); within = h.within; positive = h.positive } in
          let ih = making n (k + 1) d a (t ∷ ts) p (subst M bound r) in
          let none : false_signs a (t ∷ ts) k ≡ None = signs-none a (k + 1) (t ∷ ts) k (l, (h.from).1) (omega arith) in
          ih ∙ sym (ap (λ o. with_literal k o (clause_row n (k + 1) (false_signs a (t ∷ ts)))) none))
    ]
  where
    rest : List Term
    rest = clause_row n (k + 1) (false_signs a (t ∷ ts))

    at-head : t.lit.var ≡ k → eqb t.lit.var k ≡ true → 0 < t.coef → map (divided d) (cut d (false_terms a ts)) ≡ clause_row n (k + 1) (false_signs a (t ∷ ts))
        → map (divided d) (cut d (false_terms a (t ∷ ts))) ≡ with_literal k (cond (eqb t.lit.var k) (cond (is_false a t.lit) (Some t.lit.yes) None) (false_signs a ts k))
        (clause_row n (k + 1) (false_signs a (t ∷ ts)))
    at-head e hit pos ih = rw hit (go (is_false a t.lit))
      where
        go : (b : Bool) → map (divided d) (cut d (cond b (t ∷ false_terms a ts) (false_terms a ts))) ≡ with_literal k (cond b (Some t.lit.yes) None) (clause_row n (k + 1) (false_signs a (t ∷ ts)))
        go true =
            let P : ℕ → Term = λ x. record { coef = 1; lit = record { var = x; yes = t.lit.yes } } in
            cut-one d t (false_terms a ts) p pos ∙ ap (λ ys. let r : Term = record { coef = 1; lit = t.lit } in r ∷ ys) ih ∙ ap (λ x. P x ∷ clause_row n (k + 1) (false_signs a (t ∷ ts))) e
        go false = ih

-- terms before a variable
abbrev pub Below : ℕ → List Term → Type 0
Below k [] = Unit {0}
Below k (t ∷ ts) = (t.lit.var < k) × Below k ts

pub Below-push : (j k : ℕ) (ts : List Term) (t : Term) → j ≤ k → t.lit.var < k → Below j ts → Below k (ts ++ t ∷ [])
Below-push j k [] t l m h = (m, tt)
Below-push j k (u ∷ ts) t l m h = let a = h.0 in (omega arith, Below-push j k ts t l m h.1)

-- weakening on the variable of one term takes it out
pub weaken_at : (done ts : List Term) (t : Term) (k : ℕ) → Below k done → k ≤ t.lit.var → (without_var t.lit.var (done ++ t ∷ ts) ≡ done ++ ts) × (coef_of t.lit.var (done ++ t ∷ ts) ≡ t.coef)
weaken_at [] ts t k b l =
    let hit : eqb t.lit.var t.lit.var ≡ true = grind (arith, nat_tests) in
    (rw hit refl, rw hit refl)
weaken_at (u ∷ done) ts t k b l =
    let m = b.0 in
    let miss : eqb u.lit.var t.lit.var ≡ false = grind (arith, nat_tests) in
    let ih = weaken_at done ts t k b.1 l in
    (rw miss (ap (λ us. u ∷ us) ih.0), rw miss ih.1)
