-- Clauses as rows of signs: the sum of two is their resolvent.
use Rattle.std.proofs.Common.{◌≡◌, ◌≢◌, ℕ, ◌+◌, ◌<◌, ◌≤◌, Bool, true, false, cond, eqb, ltb, Option, Some, None, List, [], ◌∷◌, ◌++◌, refl, sym, ap, ◌∙◌, subst, arith, inl, inr, ◌⊎◌, zero, suc}
use Rattle.std.proofs.lemmas.Bool.{cases_eq}
use Rattle.std.proofs.lemmas.Bool.Decides.{nat_tests}
use Rattle.pb_rules.specs.declared.Term.{Term}
use Rattle.pb_rules.specs.Linear.{Linear, total}
use Rattle.pb_rules.specs.CuttingPlanes.{Sum, same_sign, onto, joined, merge, add, cut, saturate}
use Rattle.pb_rules.proofs.Rising.{From, From-weaker}
use Rattle.pb_rules.proofs.Merges.{total-cons}
use Rattle.conflict_graph.specs.Clauses.{with_literal, clause_row, clause_of}

pub from_row : (n k : ℕ) (f : ℕ → Option Bool) → From k (clause_row n k f)
from_row zero k f = tt
from_row (suc n) k f = go (f k) (from_row n (k + 1) f)
  where
    go : (o : Option Bool) → From (k + 1) (clause_row n (k + 1) f) → From k (with_literal k o (clause_row n (k + 1) f))
    go None h = From-weaker k (k + 1) (clause_row n (k + 1) f) (omega arith) h
    go (Some b) h = (omega arith, h)

-- a first term that comes before the second list
pub merge_first : (t : Term) (ts us : List Term) → From (t.lit.var + 1) us → merge (t ∷ ts) us ≡ onto t (merge ts us)
merge_first t ts [] h = refl
merge_first t ts (u ∷ us) h =
    let a = h.0 in
    let l : t.lit.var < u.lit.var = omega arith in
    let test : ltb t.lit.var u.lit.var ≡ true = grind (arith, nat_tests) in
    rw test refl

pub merge_second : (u : Term) (ts us : List Term) → From (u.lit.var + 1) ts → merge ts (u ∷ us) ≡ onto u (merge ts us)
merge_second u [] us h = refl
merge_second u (t ∷ ts) us h =
    let a = h.0 in
    let test : ltb t.lit.var u.lit.var ≡ false = grind (arith, nat_tests) in
    let test2 : eqb t.lit.var u.lit.var ≡ false = grind (arith, nat_tests) in
    rw (test, test2) refl

pub merge_both : (t u : Term) (ts us : List Term) → t.lit.var ≡ u.lit.var → merge (t ∷ ts) (u ∷ us) ≡ joined t u (merge ts us)
merge_both t u ts us e =
    let test : ltb t.lit.var u.lit.var ≡ false = grind (arith, nat_tests) in
    let test2 : eqb t.lit.var u.lit.var ≡ true = grind (arith, nat_tests) in
    rw (test, test2) refl

-- the literal of a variable in the resolvent, and how many literals are resolved on
abbrev pub resolved : Option Bool → Option Bool → Option Bool
resolved None o = o
resolved (Some a) None = Some a
resolved (Some a) (Some b) = cond (same_sign a b) (Some b) None

abbrev pub clash : Option Bool → Option Bool → ℕ
clash None o = 0
clash (Some a) None = 0
clash (Some a) (Some b) = cond (same_sign a b) 0 1

abbrev pub clashes : ℕ → ℕ → (ℕ → Option Bool) → (ℕ → Option Bool) → ℕ
clashes zero k f g = 0
clashes (suc n) k f g = clash (f k) (g k) + clashes n (k + 1) f g

abbrev literal : ℕ → Bool → Term
literal k b = record { coef = 1; lit = record { var = k; yes = b } }

-- what the sum of two clauses is once it is cut to degree 1
pub record IsResolved (s : Sum) (row : List Term) (lost bound : ℕ) : Type 0 where
  pub terms : cut 1 s.terms ≡ row
  pub cancelled : s.cancelled ≡ lost
  pub small : total s.terms ≤ bound

resolved_onto : (s : Sum) (row : List Term) (lost bound bound' : ℕ) (k : ℕ) (b : Bool) (n : ℕ) → (n ≡ 1) ⊎ (n ≡ 2) → bound + 2 ≤ bound' → IsResolved s row lost bound
    → IsResolved (record { terms = record { coef = n; lit = record { var = k; yes = b } } ∷ s.terms; cancelled = s.cancelled }) (literal k b ∷ row) lost bound'
resolved_onto s row lost bound bound' k b n one l h =
    let c = total-cons (record { coef = n; lit = record { var = k; yes = b } }) s.terms in
    let m = h.small in
    let P : ℕ → Type 0 = λ n. cut 1 (record { coef = n; lit = record { var = k; yes = b } } ∷ s.terms) ≡ literal k b ∷ cut 1 s.terms in
    record {
      terms = elim one as (λ _. cut 1 (record { coef = n; lit = record { var = k; yes = b } } ∷ s.terms) ≡ literal k b ∷ row)
          [ inl e ↦ subst P (sym e) refl ∙ ap (λ ts. literal k b ∷ ts) h.terms | inr e ↦ subst P (sym e) refl ∙ ap (λ ts. literal k b ∷ ts) h.terms ];
      cancelled = h.cancelled;
      small = elim one as (λ _. total (record { coef = n; lit = record { var = k; yes = b } } ∷ s.terms) ≤ bound') [ inl e ↦ omega arith | inr e ↦ omega arith ];
    }

pub merge_rows : (n k : ℕ) (f g : ℕ → Option Bool) → IsResolved (merge (clause_row n k f) (clause_row n k g)) (clause_row n k (λ x. resolved (f x) (g x))) (clashes n k f g) (n + n)
merge_rows zero k f g = record { terms = refl; cancelled = refl; small = omega arith }
merge_rows (suc n) k f g =
    go (f k) (g k) (clause_row n (k + 1) f) (clause_row n (k + 1) g) (clause_row n (k + 1) (λ x. resolved (f x) (g x))) (clashes n (k + 1) f g) (from_row n (k + 1) f) (from_row n (k + 1) g)
    (merge_rows n (k + 1) f g)
  where
    go : (a b : Option Bool) (ts us both : List Term) (lost : ℕ) → From (k + 1) ts → From (k + 1) us → IsResolved (merge ts us) both lost (n + n)
        → IsResolved (merge (with_literal k a ts) (with_literal k b us)) (with_literal k (resolved a b) both) (clash a b + lost) (suc n + suc n)
    go None None ts us both lost h i r = let m = r.small in record { terms = r.terms; cancelled = r.cancelled ∙ omega arith; small = omega arith }
    go (Some a) None ts us both lost h i r =
        let P : Sum → Type 0 = λ s. IsResolved s (literal k a ∷ both) (0 + lost) (suc n + suc n) in
        let Q : ℕ → Type 0 = λ l. IsResolved (onto (literal k a) (merge ts us)) (literal k a ∷ both) l (suc n + suc n) in
        subst P (sym (merge_first (literal k a) ts us i)) (subst Q (omega arith) (resolved_onto (merge ts us) both lost (n + n) (suc n + suc n) k a 1 (inl refl) (omega arith) r))
    go None (Some b) ts us both lost h i r =
        let P : Sum → Type 0 = λ s. IsResolved s (literal k b ∷ both) (0 + lost) (suc n + suc n) in
        let Q : ℕ → Type 0 = λ l. IsResolved (onto (literal k b) (merge ts us)) (literal k b ∷ both) l (suc n + suc n) in
        subst P (sym (merge_second (literal k b) ts us h)) (subst Q (omega arith) (resolved_onto (merge ts us) both lost (n + n) (suc n + suc n) k b 1 (inl refl) (omega arith) r))
    go (Some a) (Some b) ts us both lost h i r =
        let P : Sum → Type 0 = λ s. IsResolved s (with_literal k (resolved (Some a) (Some b)) both) (clash (Some a) (Some b) + lost) (suc n + suc n) in
        subst P (sym (merge_both (literal k a) (literal k b) ts us refl)) (signs a b)
      where
        Q : ℕ → Bool → Type 0
        Q l b = IsResolved (record { terms = record { coef = 2; lit = record { var = k; yes = b } } ∷ (merge ts us).terms; cancelled = (merge ts us).cancelled }) (literal k b ∷ both) l (suc n + suc n)

        twice : (b : Bool) → Q (0 + lost) b
        twice b = let R : ℕ → Type 0 = λ l. Q l b in subst R (omega arith) (resolved_onto (merge ts us) both lost (n + n) (suc n + suc n) k b 2 (inr refl) (omega arith) r)

        gone : IsResolved (record { terms = (merge ts us).terms; cancelled = (merge ts us).cancelled + 1 }) both (1 + lost) (suc n + suc n)
        gone = let m = r.small in let e = r.cancelled in record { terms = r.terms; cancelled = omega arith; small = omega arith }

        signs : (a b : Bool) → IsResolved (joined (literal k a) (literal k b) (merge ts us)) (with_literal k (resolved (Some a) (Some b)) both) (clash (Some a) (Some b) + lost) (suc n + suc n)
        signs true true = twice true
        signs true false = gone
        signs false true = gone
        signs false false = twice false

-- two clauses that clash in one variable, summed up and cut, are their resolvent
pub resolvent : (n : ℕ) (f g : ℕ → Option Bool) → clashes n 0 f g ≡ 1 → (saturate (add (clause_of n f) (clause_of n g)) ≡ clause_of n (λ x. resolved (f x) (g x)))
    × (total (add (clause_of n f) (clause_of n g)).terms ≤ n + n) × ((add (clause_of n f) (clause_of n g)).degree ≡ 1)
resolvent n f g one =
    let r = merge_rows n 0 f g in
    let c = r.cancelled in
    let d : (add (clause_of n f) (clause_of n g)).degree ≡ 1 = omega arith in
    let P : ℕ → Linear = λ m. record { terms = cut m (merge (clause_row n 0 f) (clause_row n 0 g)).terms; degree = m } in
    let Q : List Term → Linear = λ ts. record { terms = ts; degree = 1 } in
    (ap P d ∙ ap Q r.terms, r.small, d)

-- one clash, at a variable
pub clashes_none : (n k : ℕ) (f g : ℕ → Option Bool) → ((x : ℕ) → k ≤ x → clash (f x) (g x) ≡ 0) → clashes n k f g ≡ 0
clashes_none zero k f g h = refl
clashes_none (suc n) k f g h =
    let a = h k (omega arith) in
    let ih = clashes_none n (k + 1) f g (λ x l. h x (omega arith)) in
    omega arith

pub clashes-one : (n k p : ℕ) (f g : ℕ → Option Bool) → k ≤ p → p < k + n → clash (f p) (g p) ≡ 1 → ((x : ℕ) → x ≢ p → clash (f x) (g x) ≡ 0) → clashes n k f g ≡ 1
clashes-one zero k p f g l m one h = absurd (omega arith)
clashes-one (suc n) k p f g l m one h =
    let ih : k + 1 ≤ p → clashes n (k + 1) f g ≡ 1 = λ l'. clashes-one n (k + 1) p f g l' (omega arith) one h in
    elim (cases_eq p k) [
      | inl e ↦ (let none = clashes_none n (k + 1) f g (λ x l. h x (omega arith)) in
          let P : ℕ → Type 0 = λ x. clash (f x) (g x) ≡ 1 in
          let here : clash (f k) (g k) ≡ 1 = subst P e one in omega arith)
      | inr ne ↦ (let none : clash (f k) (g k) ≡ 0 = h k (λ q. ne (sym q)) in
          let rest = ih (omega arith) in omega arith)
    ]

pub row_agree : (n k : ℕ) (f g : ℕ → Option Bool) → ((x : ℕ) → k ≤ x → x < k + n → f x ≡ g x) → clause_row n k f ≡ clause_row n k g
row_agree zero k f g h = refl
row_agree (suc n) k f g h =
    let a = h k (omega arith) (omega arith) in
    let ih = row_agree n (k + 1) f g (λ x l m. h x (omega arith) (omega arith)) in
    ap (λ o. with_literal k o (clause_row n (k + 1) f)) a ∙ ap (λ ts. with_literal k (g k) ts) ih

-- one more variable at the end
pub row_more : (n k : ℕ) (f : ℕ → Option Bool) (x : ℕ) → x ≡ k + n → clause_row (n + 1) k f ≡ clause_row n k f ++ with_literal x (f x) []
row_more zero k f x e =
    let P : ℕ → Type 0 = λ x. with_literal k (f k) [] ≡ with_literal x (f x) [] in
    let q : k ≡ x = omega arith in
    subst P q refl
row_more (suc n) k f x e =
    let ih = row_more n (k + 1) f x (omega arith) in
    let Q : ℕ → Type 0 = λ m. clause_row m k f ≡ with_literal k (f k) (clause_row n (k + 1) f) ++ with_literal x (f x) [] in
    let e' : suc (n + 1) ≡ suc n + 1 = omega arith in
    subst Q e' (ap (λ ts. with_literal k (f k) ts) ih ∙ push (f k) (clause_row n (k + 1) f))
  where
    push : (o : Option Bool) (ts : List Term) → with_literal k o (ts ++ with_literal x (f x) []) ≡ with_literal k o ts ++ with_literal x (f x) []
    push None ts = refl
    push (Some b) ts = refl
