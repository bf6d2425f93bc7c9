use Rattle.std.proofs.Common.{◌≡◌, ◌≢◌, ℕ, ◌+◌, ◌<◌, ◌≤◌, Bool, cond, eqb, Option, Some, None, List, refl, sym, ap, ◌∙◌, subst, arith, inl, inr, zero, suc}
use Rattle.std.specs.Prelude.{count_by}
use Rattle.std.proofs.lemmas.Bool.{cases_eq, cond_both}
use Rattle.std.proofs.lemmas.List.Sums.{sum_by-cons}
use Rattle.pb_rules.specs.declared.Term.{Term}
use Rattle.conflict_graph.specs.Clauses.{with_literal, clause_row}
use Rattle.trail_state.specs.Trail.{Entry, level_of, level_in}
use Rattle.conflict_graph.specs.Learning.{current_at, currents}

pub current-le : (es : List Entry) (x : ℕ) (o : Option Bool) → current_at es x o ≤ 1
current-le es x None = omega arith
current-le es x (Some b) = cond_both (eqb (level_in es x) (level_of es)) 1 0 (λ (n : ℕ). n ≤ 1) (λ _. omega arith) (λ _. omega arith)

pub currents-le : (n k : ℕ) (es : List Entry) (f : ℕ → Option Bool) → currents n k es f ≤ n
currents-le zero k es f = omega arith
currents-le (suc n) k es f = let a = current-le es k (f k) in let ih = currents-le n (k + 1) es f in omega arith

-- one literal's part in the count
pub currents_has : (n k p : ℕ) (es : List Entry) (f : ℕ → Option Bool) → k ≤ p → p < k + n → current_at es p (f p) ≤ currents n k es f
currents_has zero k p es f l h = absurd (omega arith)
currents_has (suc n) k p es f l h =
    let ih : k + 1 ≤ p → current_at es p (f p) ≤ currents n (k + 1) es f = λ l'. currents_has n (k + 1) p es f l' (omega arith) in
    elim (cases_eq p k) [
      | inl e ↦ (let P : ℕ → Type 0 = λ x. current_at es x (f x) ≤ current_at es k (f k) + currents n (k + 1) es f in let here : k ≡ p = sym e in subst P here (omega arith))
      | inr ne ↦ (let r = ih (omega arith) in omega arith)
    ]

-- a clause that is changed at one variable
pub currents_change : (n k p : ℕ) (es : List Entry) (f g : ℕ → Option Bool) → k ≤ p → p < k + n → ((x : ℕ) → x ≢ p → f x ≡ g x)
    → currents n k es f + current_at es p (g p) ≡ currents n k es g + current_at es p (f p)
currents_change zero k p es f g l h same = absurd (omega arith)
currents_change (suc n) k p es f g l h same =
    let ih : k + 1 ≤ p → currents n (k + 1) es f + current_at es p (g p) ≡ currents n (k + 1) es g + current_at es p (f p) = λ l'. currents_change n (k + 1) p es f g l' (omega arith) same in
    elim (cases_eq p k) [
      | inl e ↦ (let rest = agree n (k + 1) es f g (λ x l'. same x (omega arith)) in
          let P : ℕ → Type 0 = λ x. (current_at es k (f k) + currents n (k + 1) es f) + current_at es x (g x) ≡ (current_at es k (g k) + currents n (k + 1) es g) + current_at es x (f x) in
          let here : k ≡ p = sym e in subst P here (omega arith))
      | inr ne ↦ (let r = ih (omega arith) in let q = ap (current_at es k) (same k (omega arith)) in omega arith)
    ]
  where
    agree : (n k : ℕ) (es : List Entry) (f g : ℕ → Option Bool) → ((x : ℕ) → k ≤ x → f x ≡ g x) → currents n k es f ≡ currents n k es g
    agree zero k es f g h = refl
    agree (suc n) k es f g h = let a = ap (current_at es k) (h k (omega arith)) in let ih = agree n (k + 1) es f g (λ x l. h x (omega arith)) in omega arith

-- a clause that keeps all but one literal
pub currents_loses : (n k p : ℕ) (es : List Entry) (f g : ℕ → Option Bool) → ((x : ℕ) → x ≢ p → current_at es x (f x) ≤ current_at es x (g x)) → currents n k es f ≤ currents n k es g + 1
currents_loses zero k p es f g h = omega arith
currents_loses (suc n) k p es f g h =
    let ih = currents_loses n (k + 1) p es f g h in
    elim (cases_eq k p) [
      | inl e ↦ (let rest = keeps n (k + 1) es f g (λ x l. h x (omega arith)) in let a = current-le es k (f k) in omega arith)
      | inr ne ↦ (let q = h k ne in omega arith)
    ]
  where
    keeps : (n k : ℕ) (es : List Entry) (f g : ℕ → Option Bool) → ((x : ℕ) → k ≤ x → current_at es x (f x) ≤ current_at es x (g x)) → currents n k es f ≤ currents n k es g
    keeps zero k es f g h = omega arith
    keeps (suc n) k es f g h = let a = h k (omega arith) in let ih = keeps n (k + 1) es f g (λ x l. h x (omega arith)) in omega arith

pub currents_none : (n k : ℕ) (es : List Entry) (f : ℕ → Option Bool) → ((x : ℕ) → current_at es x (f x) ≡ 0) → currents n k es f ≡ 0
currents_none zero k es f h = refl
currents_none (suc n) k es f h = let a = h k in let ih = currents_none n (k + 1) es f h in omega arith

-- the count is that of the clause's terms
pub currents-row : (n k : ℕ) (es : List Entry) (f : ℕ → Option Bool) → count_by (λ (t : Term). eqb (level_in es t.lit.var) (level_of es)) (clause_row n k f) ≡ currents n k es f
currents-row zero k es f = refl
currents-row (suc n) k es f = go (f k) (currents-row n (k + 1) es f)
  where
    go : (o : Option Bool) → count_by (λ (t : Term). eqb (level_in es t.lit.var) (level_of es)) (clause_row n (k + 1) f) ≡ currents n (k + 1) es f
        → count_by (λ (t : Term). eqb (level_in es t.lit.var) (level_of es)) (with_literal k o (clause_row n (k + 1) f)) ≡ current_at es k o + currents n (k + 1) es f
    go None ih = ih ∙ omega arith
    go (Some b) ih =
        let t : Term = record { coef = 1; lit = record { var = k; yes = b } } in
        sum_by-cons (λ (t : Term). cond (eqb (level_in es t.lit.var) (level_of es)) 1 0) t (clause_row n (k + 1) f) ∙ ap (λ m. cond (eqb (level_in es k) (level_of es)) 1 0 + m) ih
