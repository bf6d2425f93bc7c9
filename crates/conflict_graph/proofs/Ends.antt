use Rattle.std.proofs.Common.{◌≡◌, ◌≢◌, ℕ, ◌+◌, ◌<◌, ◌≤◌, ◌^◌, Bool, true, false, not, cond, eqb, Option, Some, None, List, [], ◌∷◌, length, get_or, take, refl, sym, ap, ◌∙◌, subst, arith, inl, inr, ◌⊎◌, zero, suc}
use Rattle.std.specs.Prelude.{All}
use Rattle.std.proofs.lemmas.Bool.{cases_eq}
use Rattle.std.proofs.lemmas.List.{get_or-take, get_or_default}
use Rattle.std.proofs.lemmas.List.Elements.{All-more, All-head, All-tail}
use Rattle.std.proofs.Common.{length-take}
use Rattle.std.proofs.lemmas.List.Sums.{sum_by-cons}
use Rattle.pb_rules.specs.declared.Term.{Term}
use Rattle.pb_rules.specs.Literal.{Literal}
use Rattle.pb_rules.specs.Linear.{Linear, total, IsNormal}
use Rattle.pb_rules.specs.Partial.{falsifies, is_false, IsClosed, IsClosedFor}
use Rattle.conflict_graph.specs.Clauses.{with_literal, clause_row, clause_of}
use Rattle.pb_rules.proofs.Rising.{from_pairs}
use Rattle.conflict_graph.proofs.Rows.{from_row}
use Rattle.trail_state.specs.Trail.{Entry, value_in, level_of, level_in}
use Rattle.trail_state.proofs.Entries.{place_of}
use Rattle.conflict_graph.specs.Learning.{ClosedUnder, Learnt}
use Rattle.conflict_graph.specs.Learned.{constraints_in, IsLearned, IsLevelBelow}
use Rattle.conflict_graph.proofs.Counts.{currents-row}
use Rattle.conflict_graph.proofs.Signs.{falsifies-true, falsifies-not}
use Rattle.constraint_store.specs.Live.{Live, is_live, live_at, constraint_of}
use Rattle.pb_rules.specs.declared.Op.{Op}

row_ones : (n k : ℕ) (f : ℕ → Option Bool) (i : ℕ) (d : Term) → i < length (clause_row n k f) → (get_or (clause_row n k f) i d).coef ≡ 1
row_ones zero k f i d h = absurd (omega arith)
row_ones (suc n) k f i d h = go (f k) i (λ j. row_ones n (k + 1) f j d) h
  where
    go : (o : Option Bool) (i : ℕ) → ((j : ℕ) → j < length (clause_row n (k + 1) f) → (get_or (clause_row n (k + 1) f) j d).coef ≡ 1) → i < length (with_literal k o (clause_row n (k + 1) f))
        → (get_or (with_literal k o (clause_row n (k + 1) f)) i d).coef ≡ 1
    go None i ih h = ih i h
    go (Some b) zero ih h = refl
    go (Some b) (suc i) ih h = ih i (omega arith)

row-total : (n k : ℕ) (f : ℕ → Option Bool) → total (clause_row n k f) ≤ n
row-total zero k f = omega arith
row-total (suc n) k f = go (f k) (row-total n (k + 1) f)
  where
    go : (o : Option Bool) → total (clause_row n (k + 1) f) ≤ n → total (with_literal k o (clause_row n (k + 1) f)) ≤ suc n
    go None ih = omega arith
    go (Some b) ih = let c = sum_by-cons (λ (t : Term). t.coef) (record { coef = 1; lit = record { var = k; yes = b } }) (clause_row n (k + 1) f) in omega arith

-- a clause is in normal form
pub row_normal : (n : ℕ) (f : ℕ → Option Bool) → n < 2 ^ 62 → IsNormal (clause_row n 0 f) 1
row_normal n f small = record {
  positive = λ i d h. (let e = row_ones n 0 f i d h in omega arith);
  rising = from_pairs 0 (clause_row n 0 f) (from_row n 0 f);
  small = (let t = row-total n 0 f in omega arith);
  small_degree = omega arith;
}

-- the falsified clause, as a constraint and as signs
row-false : (n k : ℕ) (f a : ℕ → Option Bool) → ((i : ℕ) (d : Term) → i < length (clause_row n k f) → is_false a (get_or (clause_row n k f) i d).lit ≡ true) → (x : ℕ) (b : Bool) → k ≤ x
    → x < k + n → f x ≡ Some b → falsifies (a x) b ≡ true
row-false zero k f a h x b l m s = absurd (omega arith)
row-false (suc n) k f a h x b l m s = go (f k) refl (λ g l'. row-false n (k + 1) f a g x b l' (omega arith) s) h
  where
    P : Option Bool → Type 0
    P o = (i : ℕ) (d : Term) → i < length (with_literal k o (clause_row n (k + 1) f)) → is_false a (get_or (with_literal k o (clause_row n (k + 1) f)) i d).lit ≡ true

    go : (o : Option Bool) → f k ≡ o → (((i : ℕ) (d : Term) → i < length (clause_row n (k + 1) f) → is_false a (get_or (clause_row n (k + 1) f) i d).lit ≡ true) → k + 1 ≤ x
        → falsifies (a x) b ≡ true) → P o → falsifies (a x) b ≡ true
    go None e ih h = elim (cases_eq x k) [
      | inl q ↦ absurd (let z : f x ≡ None = ap f q ∙ e in cc)
      | inr ne ↦ ih h (omega arith)
    ]
    go (Some c) e ih h = elim (cases_eq x k) [
      | inl q ↦ (let z : f x ≡ Some c = ap f q ∙ e in
          let w : c ≡ b = cc in
          let t : Term = record { coef = 1; lit = record { var = k; yes = c } } in
          let r : falsifies (a k) c ≡ true = h 0 t (omega arith) in
          ap (λ (x : ℕ). falsifies (a x) b) q ∙ ap (falsifies (a k)) (sym w) ∙ r)
      | inr ne ↦ ih (λ i d l'. h (suc i) d (omega arith)) (omega arith)
    ]

-- and back
row_falsified : (n k : ℕ) (f a : ℕ → Option Bool) → ((x : ℕ) (b : Bool) → f x ≡ Some b → falsifies (a x) b ≡ true) → (i : ℕ) (d : Term) → i < length (clause_row n k f)
    → is_false a (get_or (clause_row n k f) i d).lit ≡ true
row_falsified zero k f a h i d l = absurd (omega arith)
row_falsified (suc n) k f a h i d l = go (f k) refl i (row_falsified n (k + 1) f a h) l
  where
    go : (o : Option Bool) → f k ≡ o → (i : ℕ) → ((i : ℕ) (d : Term) → i < length (clause_row n (k + 1) f) → is_false a (get_or (clause_row n (k + 1) f) i d).lit ≡ true)
        → i < length (with_literal k o (clause_row n (k + 1) f)) → is_false a (get_or (with_literal k o (clause_row n (k + 1) f)) i d).lit ≡ true
    go None e i ih l = ih i d l
    go (Some b) e zero ih l = h k b e
    go (Some b) e (suc i) ih l = ih i d (omega arith)

row-none : (n k : ℕ) (f : ℕ → Option Bool) → ((x : ℕ) → f x ≡ None) → clause_row n k f ≡ []
row-none zero k f h = refl
row-none (suc n) k f h = ap (λ o. with_literal k o (clause_row n (k + 1) f)) (h k) ∙ row-none n (k + 1) f h

-- what is closed for the list of live constraints is closed for each of them
closed_in : (live : List Live) (a : ℕ → Option Bool) → IsClosedFor (constraints_in live) a → ClosedUnder live a
closed_in [] a closed c h = absurd (cc)
closed_in (e ∷ es) a closed c h = go (eqb e.id.0 c.0) h (closed_in es a (All-tail (IsClosed a) e.constraint (constraints_in es) closed) c)
  where
    go : (o : Bool) → cond o true (is_live es c) ≡ true → (is_live es c ≡ true → IsClosed a (constraint_of es c)) → IsClosed a (cond o e (live_at es c)).constraint
    go true h ih = All-head (IsClosed a) e.constraint (constraints_in es) closed
    go false h ih = ih h

pub learnt-clause : (live : List Live) (es : List Entry) (n : ℕ) (f : ℕ → Option Bool) (ops : List Op) → n < 2 ^ 62 → Learnt live es n f ops → IsLearned live es (clause_of n f)
learnt-clause live es n f ops few l = record {
  clause = record { normal = row_normal n f few; unit = λ i d h. row_ones n 0 f i d h; degree = refl };
  false_all = row_falsified n 0 f (value_in es) (λ x b s. falsifies-not (value_in es x) b (l.false_all x b s));
  one_current = λ pos. currents-row n 0 es f ∙ l.one pos;
  at_level_zero = λ z. ap (λ (ts : List Term). let c : Linear = record { terms = ts; degree = 1 } in c) (row-none n 0 f (l.none z));
  propagated = λ a closed h. l.propagated a (closed_in live a closed) (λ x b s. falsifies-true (a x) b (row-false n 0 f a h x b (omega arith) (let w = l.within x b s in omega arith) s));
}

pub below_more : (es : List Entry) (ts : List Term) (i : ℕ) (t : Term) (back next : ℕ) → i < length ts → t ≡ get_or ts i t → back ≤ next
    → (level_in es t.lit.var ≢ level_of es → level_in es t.lit.var ≤ next) → (next ≡ back) ⊎ ((next ≡ level_in es t.lit.var) × (level_in es t.lit.var ≢ level_of es))
    → IsLevelBelow es (take i ts) back → IsLevelBelow es (take (i + 1) ts) next
below_more es ts i t back next h e kept here either so_far =
    let len = length-take i ts in
    let len' = length-take (i + 1) ts in
    let P : Term → Type 0 = λ t. level_in es t.lit.var ≢ level_of es → level_in es t.lit.var ≤ next in
    record {
      above = All-more P ts i t h (λ k d l f. (let a = so_far.above k d l f in omega arith)) (subst P e here);
      attained = elim either [
        | inl same ↦ (elim so_far.attained [
          | inl nil ↦ inl (same ∙ nil)
          | inr found ↦ inr (
            found.0,
            (let l = found.1 in omega arith),
            λ d. (
                let l = found.1 in
                let lt : found.0 < i = omega arith in
                let g : get_or (take (i + 1) ts) found.0 d ≡ get_or (take i ts) found.0 d = get_or-take (i + 1) ts found.0 d (omega arith) ∙ sym (get_or-take i ts found.0 d lt) in
                let w = found.2 d in
                let Q : Term → Type 0 = λ u. (level_in es u.lit.var ≡ next) × (level_in es u.lit.var ≢ level_of es) in
                subst Q (sym g) (w.0 ∙ sym same, w.1)),
          )
        ])
        | inr new ↦ inr (
          i,
          omega arith,
          λ d. (
              let g : get_or (take (i + 1) ts) i d ≡ t = get_or-take (i + 1) ts i d (omega arith) ∙ get_or_default ts i d t h ∙ sym e in
              let Q : Term → Type 0 = λ u. (level_in es u.lit.var ≡ next) × (level_in es u.lit.var ≢ level_of es) in
              subst Q (sym g) (sym new.0, new.1)),
        )
      ];
    }

-- a false literal is assigned, and its variable is in range
pub false_at : (es : List Entry) (n : ℕ) (l : Literal) → All (λ (e : Entry). e.lit.var < n) es → is_false (value_in es) l ≡ true → (l.var < n) × (value_in es l.var ≡ Some (not l.yes))
false_at es n l w f =
    let v = falsifies-true (value_in es l.var) l.yes f in
    let p = place_of es l.var (not l.yes) v in
    let d : Entry = record { lit = l; reason = None } in
    let at = p.2 d in
    let r = w p.0 d p.1 in
    (omega arith, v)
