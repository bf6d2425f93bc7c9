use Rattle.std.proofs.Common.{◌≡◌, ◌≢◌, ℕ, ◌+◌, ◌<◌, ◌≤◌, Bool, true, false, cond, Option, Some, None, List, [], ◌∷◌, length, get_or, take, refl, sym, ap, ◌∙◌, subst, arith, inl, inr, suc}
use Rattle.std.proofs.lemmas.Bool.{cases_eq, cases_lt}
use Rattle.std.proofs.lemmas.List.{get_or_default}
use Rattle.std.proofs.lemmas.List.Sums.{sum_by_more_le_part, sum_by-cons, sum_by-le-sum_by}
use Rattle.pb_rules.specs.declared.Term.{Term}
use Rattle.pb_rules.specs.Literal.{Literal}
use Rattle.pb_rules.specs.Linear.{total, IsNormal}
use Rattle.pb_rules.specs.Partial.{falsifies, is_false, open_weight}

cond-le : (b : Bool) (n : ℕ) → cond b 0 n ≤ n
cond-le true n = omega arith
cond-le false n = omega arith

-- the room is at most the sum of the coefficients
pub open_weight-le : (p : ℕ → Option Bool) (ts : List Term) → open_weight p ts ≤ total ts
open_weight-le p ts = sum_by-le-sum_by (λ (t : Term). cond (is_false p t.lit) 0 t.coef) (λ (t : Term). t.coef) ts (λ t. cond-le (is_false p t.lit) t.coef)

-- and so is that of the first terms with the next coefficient
pub open_weight_fits : (p : ℕ → Option Bool) (ts : List Term) (i : ℕ) (t : Term) → i < length ts → t ≡ get_or ts i t → open_weight p (take i ts) + t.coef ≤ total ts
open_weight_fits p ts i t h e =
    let m = sum_by_more_le_part (λ (t : Term). cond (is_false p t.lit) 0 t.coef) (λ (t : Term). t.coef) ts i t h (λ t. cond-le (is_false p t.lit) t.coef) in
    let P : Term → Type 0 = λ u. open_weight p (take i ts) + u.coef ≤ total ts in
    subst P (sym e) m

falsifies_own : (b : Bool) → falsifies (Some b) b ≡ false
falsifies_own true = refl
falsifies_own false = refl

-- making an unassigned literal true leaves the room, where no other term has its variable
pub open_weight_made_true : (p q : ℕ → Option Bool) (l : Literal) (ts : List Term) → p l.var ≡ None → q l.var ≡ Some l.yes → ((x : ℕ) → l.var ≢ x → q x ≡ p x)
    → ((i : ℕ) (d : Term) → i < length ts → (get_or ts i d).lit.var ≡ l.var → (get_or ts i d).lit ≡ l) → open_weight q ts ≡ open_weight p ts
open_weight_made_true p q l [] free made others only = refl
open_weight_made_true p q l (t ∷ ts) free made others only =
    let f : (ℕ → Option Bool) → Term → ℕ = λ p t. cond (is_false p t.lit) 0 t.coef in
    let ih = open_weight_made_true p q l ts free made others (λ i d h s. only (suc i) d (omega arith) s) in
    let here : is_false q t.lit ≡ is_false p t.lit =
    elim (cases_eq t.lit.var l.var) [
      | inl s ↦ (let same : t.lit ≡ l = only 0 t (omega arith) s in
          let P : Literal → Type 0 = λ m. is_false q m ≡ is_false p m in
          let a : falsifies (q l.var) l.yes ≡ false = rw made (falsifies_own l.yes) in
          let b : falsifies (p l.var) l.yes ≡ false = rw free refl in
          subst P (sym same) (a ∙ sym b))
      | inr n ↦ (let n' : l.var ≢ t.lit.var = λ z. n (sym z) in ap (λ o. falsifies o t.lit.yes) (others t.lit.var n'))
    ] in
    sum_by-cons (f q) t ts ∙ ap (λ b. cond b 0 t.coef + open_weight q ts) here ∙ ap (λ m. cond (is_false p t.lit) 0 t.coef + m) ih ∙ sym (sum_by-cons (f p) t ts)

-- the only term of a variable is that term
pub same_variable : (ts : List Term) (degree : ℕ) → IsNormal ts degree → (i j : ℕ) (d : Term) → i < length ts → j < length ts → (get_or ts i d).lit.var ≡ (get_or ts j d).lit.var → i ≡ j
same_variable ts degree n i j d hi hj e =
    elim (cases_lt i j) [
      | inl l ↦ (let r = n.rising i j d l hj in absurd (omega arith))
      | inr g ↦ (elim (cases_lt j i) [
        | inl l ↦ (let r = n.rising j i d l hi in absurd (omega arith))
        | inr h ↦ omega arith
      ])
    ]

-- a variable has one term
pub only_term : (ts : List Term) (degree : ℕ) → IsNormal ts degree → (i : ℕ) (t : Term) → i < length ts → t ≡ get_or ts i t → (j : ℕ) (d : Term) → j < length ts
    → (get_or ts j d).lit.var ≡ t.lit.var → (get_or ts j d).lit ≡ t.lit
only_term ts degree normal i t h at j d l v =
    let at' : get_or ts i d ≡ t = get_or_default ts i d t h ∙ sym at in
    let k : j ≡ i = same_variable ts degree normal j i d l h (v ∙ ap (λ (u : Term). u.lit.var) (sym at')) in
    ap (λ (m : ℕ). (get_or ts m d).lit) k ∙ ap (λ (u : Term). u.lit) at'
