use Rattle.std.proofs.Common.{◌≡◌, ℕ, ◌+◌, ◌-◌, ◌*◌, ◌<◌, ◌≤◌, ◌^◌, Bool, true, false, cond, eqb, ltb, Some, None, List, [], ◌∷◌, refl, sym, ap, subst, arith, inl, inr, map, min}
use Rattle.std.specs.Prelude.{All}
use Rattle.std.proofs.lemmas.Bool.{cases_eq, cases_lt}
use Rattle.std.proofs.lemmas.Bool.Decides.{nat_tests}
use Rattle.std.proofs.lemmas.List.Elements.{All-append, All-cons, All-head, All-tail, All-nil}
use Rattle.std.proofs.lemmas.Nat.{mul-le}
use Rattle.std.proofs.Math.Nat.{mul-add, mul-zero}
use Rattle.pb_rules.specs.declared.Term.{Term}
use Rattle.pb_rules.specs.Literal.{Literal}
use Rattle.pb_rules.specs.Linear.{Linear, IsNormal, total}
use Rattle.pb_rules.specs.CuttingPlanes.{Sum, same_sign, onto, joined, merge, axiom_of, add, times, multiplied, divide, divided, up, saturate, cut, weaken, without_var, coef_of}
use Rattle.pb_rules.specs.Operations.{Context, excess}
use Rattle.pb_rules.specs.Frames.{Line, derived, cover, Frame, IsFrame, Given, context_of, given_from}
use Rattle.pb_rules.proofs.Rising.{From, From-weaker, from_pairs, rising_from}
use Rattle.pb_rules.proofs.Merges.{total-cons}
use Rattle.pb_rules.proofs.Sound.{IsKept, line_keeps, up_times, up_least}
use Rattle.pb_rules.proofs.Given.{Goes, by_ops, by_block, goes, first_line, under_holds}

-- a term before the first of a list
abbrev Before : Term → List Term → Type 0
Before t [] = Unit {0}
Before t (u ∷ us) = t.lit.var < u.lit.var

-- how a merge goes on: with the first list's term, with the second's, or with both
pub data Merged : List Term → List Term → Sum → Type 0 where
  done : {us : List Term} → Merged [] us (record { terms = us; cancelled = 0 })
  first : {t : Term} {ts us : List Term} (s : Sum) → Before t us → Merged ts us s → Merged (t ∷ ts) us (onto t s)
  second : {t u : Term} {ts us : List Term} (s : Sum) → u.lit.var < t.lit.var → Merged (t ∷ ts) us s → Merged (t ∷ ts) (u ∷ us) (onto u s)
  both : {t u : Term} {ts us : List Term} (s : Sum) → t.lit.var ≡ u.lit.var → Merged ts us s → Merged (t ∷ ts) (u ∷ us) (joined t u s)

merged_one : (t : Term) (ts : List Term) → ((us : List Term) → Merged ts us (merge ts us)) → (us : List Term) → Merged (t ∷ ts) us (merge (t ∷ ts) us)
merged_one t ts h [] = first (merge ts []) tt (h [])
merged_one t ts h (u ∷ us) =
    let ih = merged_one t ts h us in
    let P : Sum → Type 0 = Merged (t ∷ ts) (u ∷ us) in
    elim (cases_lt t.lit.var u.lit.var) [
      | inl l ↦ (let test : ltb t.lit.var u.lit.var ≡ true = grind (arith, nat_tests) in
          let j : merge (t ∷ ts) (u ∷ us) ≡ onto t (merge ts (u ∷ us)) = rw test refl in
          subst P (sym j) (first (merge ts (u ∷ us)) l (h (u ∷ us))))
      | inr g ↦ (let test : ltb t.lit.var u.lit.var ≡ false = grind (arith, nat_tests) in
          elim (cases_eq t.lit.var u.lit.var) [
            | inl q ↦ (let test2 : eqb t.lit.var u.lit.var ≡ true = grind (arith, nat_tests) in
                let j : merge (t ∷ ts) (u ∷ us) ≡ joined t u (merge ts us) = rw (test, test2) refl in
                subst P (sym j) (both (merge ts us) q (h us)))
            | inr n ↦ (let test2 : eqb t.lit.var u.lit.var ≡ false = grind (arith, nat_tests) in
                let j : merge (t ∷ ts) (u ∷ us) ≡ onto u (merge (t ∷ ts) us) = rw (test, test2) refl in
                subst P (sym j) (second (merge (t ∷ ts) us) (omega arith) ih))
          ])
    ]

-- what a merge comes to, step by step
pub merged : (ts us : List Term) → Merged ts us (merge ts us)
merged [] us = done
merged (t ∷ ts) us = merged_one t ts (merged ts) us

-- what two terms of one variable give: one term of it, or none
pub record IsOne (t u : Term) (ts us : List Term) : Type 0 where
  pub rising : (k : ℕ) → k ≤ t.lit.var → From (t.lit.var + 1) ts → From k us
  pub positive : 0 < t.coef → 0 < u.coef → All (λ (x : Term). 0 < x.coef) ts → All (λ (x : Term). 0 < x.coef) us
  pub sum : total us ≤ t.coef + u.coef + total ts

one_of : (t u r : Term) (ts : List Term) → r.lit.var ≡ t.lit.var → (0 < t.coef → 0 < u.coef → 0 < r.coef) → r.coef ≤ t.coef + u.coef → IsOne t u ts (r ∷ ts)
one_of t u r ts v p s =
    let F : ℕ → Type 0 = λ x. From (x + 1) ts in
    record {
      rising = λ k l f. (omega arith, subst F (sym v) f);
      positive = λ a b c. All-cons (λ (x : Term). 0 < x.coef) r ts (p a b) c;
      sum = (let c = total-cons r ts in omega arith);
    }

joined_one : (t u : Term) (s : Sum) → t.lit.var ≡ u.lit.var → IsOne t u s.terms (joined t u s).terms
joined_one t u s e = go (same_sign t.lit.yes u.lit.yes) refl
  where
    G : Sum → Type 0
    G j = IsOne t u s.terms j.terms

    go : (b : Bool) → same_sign t.lit.yes u.lit.yes ≡ b → G (joined t u s)
    go true q = rw q (one_of t u (record { coef = t.coef + u.coef; lit = u.lit }) s.terms (sym e) (λ a b. omega arith) (omega arith))
    go false q = elim (cases_eq t.coef u.coef) [
      | inl c ↦ (let a : eqb t.coef u.coef ≡ true = grind (arith, nat_tests) in
          rw (q, a) (record { rising = λ k l f. From-weaker k (t.lit.var + 1) s.terms (omega arith) f; positive = λ x y z. z; sum = omega arith }))
      | inr n ↦ (let a : eqb t.coef u.coef ≡ false = grind (arith, nat_tests) in
          elim (cases_lt t.coef u.coef) [
            | inl l ↦ (let b : ltb t.coef u.coef ≡ true = grind (arith, nat_tests) in
                rw (q, a, b) (one_of t u (record { coef = u.coef - t.coef; lit = u.lit }) s.terms (sym e) (λ x y. omega arith) (omega arith)))
            | inr g ↦ (let b : ltb t.coef u.coef ≡ false = grind (arith, nat_tests) in
                rw (q, a, b) (one_of t u (record { coef = t.coef - u.coef; lit = t.lit }) s.terms refl (λ x y. omega arith) (omega arith)))
          ])
    ]

-- a merge of rising terms rises
merged_rising : (ts us : List Term) (s : Sum) → Merged ts us s → (k : ℕ) → From k ts → From k us → From k s.terms
merged_rising [] us _ done k f g = g
merged_rising (t ∷ ts) us _ (first s b m) k f g = (f.0, merged_rising ts us s m (t.lit.var + 1) f.1 (after t us b k g))
  where
    after : (t : Term) (us : List Term) → Before t us → (k : ℕ) → From k us → From (t.lit.var + 1) us
    after t [] b k g = tt
    after t (u ∷ us) b k g = (omega arith, g.1)
merged_rising (t ∷ ts) (u ∷ us) _ (second s l m) k f g = (g.0, merged_rising (t ∷ ts) us s m (u.lit.var + 1) (omega arith, f.1) g.1)
merged_rising (t ∷ ts) (u ∷ us) _ (both s e m) k f g =
    let F : ℕ → Type 0 = λ x. From (x + 1) us in
    (joined_one t u s e).rising k f.0 (merged_rising ts us s m (t.lit.var + 1) f.1 (subst F (sym e) g.1))

-- a merge of positive terms is positive
merged_positive : (ts us : List Term) (s : Sum) → Merged ts us s → All (λ (x : Term). 0 < x.coef) ts → All (λ (x : Term). 0 < x.coef) us → All (λ (x : Term). 0 < x.coef) s.terms
merged_positive [] us _ done f g = g
merged_positive (t ∷ ts) us _ (first s b m) f g =
    let P : Term → Type 0 = λ (x : Term). 0 < x.coef in
    All-cons P t s.terms (All-head P t ts f) (merged_positive ts us s m (All-tail P t ts f) g)
merged_positive (t ∷ ts) (u ∷ us) _ (second s l m) f g =
    let P : Term → Type 0 = λ (x : Term). 0 < x.coef in
    All-cons P u s.terms (All-head P u us g) (merged_positive (t ∷ ts) us s m f (All-tail P u us g))
merged_positive (t ∷ ts) (u ∷ us) _ (both s e m) f g =
    let P : Term → Type 0 = λ (x : Term). 0 < x.coef in
    (joined_one t u s e).positive (All-head P t ts f) (All-head P u us g) (merged_positive ts us s m (All-tail P t ts f) (All-tail P u us g))

-- the coefficients of a merge add up to no more than those of both lists
merged-total : (ts us : List Term) (s : Sum) → Merged ts us s → total s.terms ≤ total ts + total us
merged-total [] us _ done = omega arith
merged-total (t ∷ ts) us _ (first s b m) = let ih = merged-total ts us s m in let a = total-cons t ts in let c = total-cons t s.terms in omega arith
merged-total (t ∷ ts) (u ∷ us) _ (second s l m) = let ih = merged-total (t ∷ ts) us s m in let a = total-cons u us in let c = total-cons u s.terms in omega arith
merged-total (t ∷ ts) (u ∷ us) _ (both s e m) = let ih = merged-total ts us s m in let a = total-cons t ts in let b = total-cons u us in let c = (joined_one t u s e).sum in omega arith

-- the sum of a merge is at most the two sums
pub merge-total : (ts us : List Term) → total (merge ts us).terms ≤ total ts + total us
merge-total ts us = merged-total ts us (merge ts us) (merged ts us)

pub from_normal : (ts : List Term) (degree : ℕ) → IsNormal ts degree → From 0 ts
from_normal ts degree h = rising_from 0 ts (λ d l. omega arith) h.rising

normal_from : (ts : List Term) (degree : ℕ) → From 0 ts → All (λ (t : Term). 0 < t.coef) ts → total ts < 2 ^ 63 → degree < 2 ^ 63 → IsNormal ts degree
normal_from ts degree f p s d = record { positive = p; rising = from_pairs 0 ts f; small = s; small_degree = d }

-- where nothing is too large, both numbers are small
pub within : (c : Linear) → excess c ≡ None → (total c.terms < 2 ^ 63) × (c.degree < 2 ^ 63)
within c h = elim (cases_lt (total c.terms) (2 ^ 63)) [
  | inl l ↦ (let a : ltb (total c.terms) (2 ^ 63) ≡ true = grind (arith, nat_tests) in
      elim (cases_lt c.degree (2 ^ 63)) [
        | inl m ↦ (l, m)
        | inr g ↦ (let b : ltb c.degree (2 ^ 63) ≡ false = grind (arith, nat_tests) in absurd (let e = rw (a, b) at h in cc))
      ])
  | inr g ↦ (let a : ltb (total c.terms) (2 ^ 63) ≡ false = grind (arith, nat_tests) in absurd (let e = rw a at h in cc))
]

pub axiom_normal : (l : Literal) → IsNormal (axiom_of l).terms 0
axiom_normal l =
    let P : Term → Type 0 = λ (x : Term). 0 < x.coef in
    normal_from (axiom_of l).terms 0 (omega arith, tt) (All-cons P (record { coef = 1; lit = l }) [] (omega arith) (All-nil P)) (omega arith) (omega arith)

-- the terms of a sum rise, and are positive
pub add_rising : (a b : Linear) → IsNormal a.terms a.degree → IsNormal b.terms b.degree → From 0 (add a b).terms
add_rising a b p q = merged_rising a.terms b.terms (merge a.terms b.terms) (merged a.terms b.terms) 0 (from_normal a.terms a.degree p) (from_normal b.terms b.degree q)

-- each coefficient of a sum is positive
pub add_positive : (a b : Linear) → IsNormal a.terms a.degree → IsNormal b.terms b.degree → All (λ (t : Term). 0 < t.coef) (add a b).terms
add_positive a b p q = merged_positive a.terms b.terms (merge a.terms b.terms) (merged a.terms b.terms) p.positive q.positive

-- a sum in bounds is in normal form
pub add_normal : (a b : Linear) → IsNormal a.terms a.degree → IsNormal b.terms b.degree → excess (add a b) ≡ None → IsNormal (add a b).terms (add a b).degree
add_normal a b p q h =
    let w = within (add a b) h in
    normal_from (add a b).terms (add a b).degree (add_rising a b p q) (add_positive a b p q) w.0 w.1

-- terms made one by one of others, with their literals
module _ (g : Term → Term) (same : (t : Term) → (g t).lit ≡ t.lit) where
  map_rising : (k : ℕ) (ts : List Term) → From k ts → From k (map g ts)
  map_rising k [] f = tt
  map_rising k (t ∷ ts) f =
      let e : (g t).lit.var ≡ t.lit.var = ap (λ (l : Literal). l.var) (same t) in
      let P : ℕ → Type 0 = λ x. From (x + 1) (map g ts) in
      let a = f.0 in
      (omega arith, subst P (sym e) (map_rising (t.lit.var + 1) ts f.1))

  map_positive : (ts : List Term) → ((t : Term) → 0 < t.coef → 0 < (g t).coef) → All (λ (t : Term). 0 < t.coef) ts → All (λ (t : Term). 0 < t.coef) (map g ts)
  map_positive [] h p = p
  map_positive (t ∷ ts) h p =
      let P : Term → Type 0 = λ (x : Term). 0 < x.coef in
      All-cons P (g t) (map g ts) (h t (All-head P t ts p)) (map_positive ts h (All-tail P t ts p))

  map-total : (ts : List Term) → ((t : Term) → (g t).coef ≤ t.coef) → total (map g ts) ≤ total ts
  map-total [] h = omega arith
  map-total (t ∷ ts) h = let a = total-cons t ts in let b = total-cons (g t) (map g ts) in let c = h t in let ih = map-total ts h in omega arith

-- a product of positive numbers
product_positive : (n m : ℕ) → 0 < n → 0 < m → 0 < n * m
product_positive n m p q = let a = mul-le 1 1 n m (omega arith) (omega arith) in omega arith

-- a positive multiple in bounds is in normal form
pub times_normal : (n : ℕ) (a : Linear) → 0 < n → IsNormal a.terms a.degree → excess (times n a) ≡ None → IsNormal (times n a).terms (times n a).degree
times_normal n a p q h =
    let w = within (times n a) h in
    normal_from (times n a).terms (times n a).degree (map_rising (multiplied n) (λ t. refl) 0 a.terms (from_normal a.terms a.degree q))
    (map_positive (multiplied n) (λ t. refl) a.terms (λ t z. product_positive n t.coef p z) q.positive) w.0 w.1

-- the coefficients of a multiple
pub times_total : (n : ℕ) (ts : List Term) → total (map (multiplied n) ts) ≡ n * total ts
times_total n [] = sym (mul-zero n)
times_total n (t ∷ ts) =
    let a = total-cons t ts in
    let b = total-cons (multiplied n t) (map (multiplied n) ts) in
    let ih = times_total n ts in
    let split = mul-add n t.coef (total ts) in
    let whole : n * total (t ∷ ts) ≡ n * (t.coef + total ts) = ap (λ m. n * m) a in
    omega arith

up_most : (n m : ℕ) → 0 < n → up n m ≤ m
up_most n m p = let a = mul-le 1 m n m (omega arith) (omega arith) in up_least n m m p (omega arith)

up_positive : (n m : ℕ) → 0 < n → 0 < m → 0 < up n m
up_positive n m p q = elim (cases_eq (up n m) 0) [
  | inl z ↦ absurd (let a = up_times n m p in let b : n * up n m ≡ n * 0 = ap (λ x. n * x) z in let c = mul-zero n in omega arith)
  | inr x ↦ omega arith
]

-- a quotient is in normal form
pub divide_normal : (n : ℕ) (a : Linear) → 0 < n → IsNormal a.terms a.degree → IsNormal (divide n a).terms (divide n a).degree
divide_normal n a p q =
    let s = q.small in
    let d = q.small_degree in
    let t = map-total (divided n) (λ t. refl) a.terms (λ t. up_most n t.coef p) in
    let e = up_most n a.degree p in
    normal_from (divide n a).terms (divide n a).degree (map_rising (divided n) (λ t. refl) 0 a.terms (from_normal a.terms a.degree q))
    (map_positive (divided n) (λ t. refl) a.terms (λ t z. up_positive n t.coef p z) q.positive) (omega arith) (omega arith)

-- a list with some terms left out, and the others no greater
pub data Shrunk : List Term → List Term → Type 0 where
  none : Shrunk [] []
  left_out : {t : Term} {ts us : List Term} → Shrunk ts us → Shrunk (t ∷ ts) us
  cut_to : {t : Term} {ts us : List Term} (k : ℕ) → 0 < k → k ≤ t.coef → Shrunk ts us → Shrunk (t ∷ ts) (record { coef = k; lit = t.lit } ∷ us)

shrunk_rising : (k : ℕ) (ts us : List Term) → Shrunk ts us → From k ts → From k us
shrunk_rising k [] [] none f = tt
shrunk_rising k [] (u ∷ us) h f = elim h [ ]
shrunk_rising k (t ∷ ts) us (left_out h) f = From-weaker k (t.lit.var + 1) us (let a = f.0 in omega arith) (shrunk_rising (t.lit.var + 1) ts us h f.1)
shrunk_rising k (t ∷ ts) (u ∷ us) (cut_to m p l h) f = (f.0, shrunk_rising (t.lit.var + 1) ts us h f.1)

shrunk_positive : (ts us : List Term) → Shrunk ts us → All (λ (t : Term). 0 < t.coef) us
shrunk_positive [] [] none = All-nil (λ (t : Term). 0 < t.coef)
shrunk_positive [] (u ∷ us) h = elim h [ ]
shrunk_positive (t ∷ ts) us (left_out h) = shrunk_positive ts us h
shrunk_positive (t ∷ ts) (u ∷ us) (cut_to m p l h) = All-cons (λ (t : Term). 0 < t.coef) (record { coef = m; lit = t.lit }) us p (shrunk_positive ts us h)

shrunk-total : (ts us : List Term) → Shrunk ts us → total us ≤ total ts
shrunk-total [] [] none = omega arith
shrunk-total [] (u ∷ us) h = elim h [ ]
shrunk-total (t ∷ ts) us (left_out h) = let a = total-cons t ts in let ih = shrunk-total ts us h in omega arith
shrunk-total (t ∷ ts) (u ∷ us) (cut_to m p l h) = let a = total-cons t ts in let r : Term = record { coef = m; lit = t.lit } in let b = total-cons r us in let ih = shrunk-total ts us h in omega arith

normal_shrunk : (ts us : List Term) (degree now : ℕ) → Shrunk ts us → now ≤ degree → IsNormal ts degree → IsNormal us now
normal_shrunk ts us degree now h l n =
    let t = shrunk-total ts us h in
    let s = n.small in
    let d = n.small_degree in
    normal_from us now (shrunk_rising 0 ts us h (from_normal ts degree n)) (shrunk_positive ts us h) (omega arith) (omega arith)

cut_shrinks : (d : ℕ) (ts : List Term) → Shrunk ts (cut d ts)
cut_shrinks d [] = none
cut_shrinks d (t ∷ ts) = go (ltb 0 (min t.coef d)) refl (cut_shrinks d ts)
  where
    go : (b : Bool) → ltb 0 (min t.coef d) ≡ b → Shrunk ts (cut d ts) → Shrunk (t ∷ ts) (cond b (record { coef = min t.coef d; lit = t.lit } ∷ cut d ts) (cut d ts))
    go true e h = cut_to (min t.coef d) (grind (arith, nat_tests)) (omega arith) h
    go false e h = left_out h

-- a saturated constraint is in normal form
pub saturate_normal : (a : Linear) → IsNormal a.terms a.degree → IsNormal (saturate a).terms (saturate a).degree
saturate_normal a n = normal_shrunk a.terms (cut a.degree a.terms) a.degree a.degree (cut_shrinks a.degree a.terms) (omega arith) n

same_shrinks : (ts : List Term) → All (λ (t : Term). 0 < t.coef) ts → Shrunk ts ts
same_shrinks [] p = none
same_shrinks (t ∷ ts) p =
    let P : Term → Type 0 = λ (x : Term). 0 < x.coef in
    cut_to t.coef (All-head P t ts p) (omega arith) (same_shrinks ts (All-tail P t ts p))

without_shrinks : (x : ℕ) (ts : List Term) → All (λ (t : Term). 0 < t.coef) ts → Shrunk ts (without_var x ts)
without_shrinks x [] p = none
without_shrinks x (t ∷ ts) p =
    let P : Term → Type 0 = λ (y : Term). 0 < y.coef in
    go (eqb t.lit.var x) (All-head P t ts p) (same_shrinks ts (All-tail P t ts p)) (without_shrinks x ts (All-tail P t ts p))
  where
    go : (b : Bool) → 0 < t.coef → Shrunk ts ts → Shrunk ts (without_var x ts) → Shrunk (t ∷ ts) (cond b ts (t ∷ without_var x ts))
    go true z s h = left_out s
    go false z s h = cut_to t.coef z (omega arith) h

-- a weakened constraint is in normal form
pub weaken_normal : (x : ℕ) (a : Linear) → IsNormal a.terms a.degree → IsNormal (weaken x a).terms (weaken x a).degree
weaken_normal x a n = normal_shrunk a.terms (without_var x a.terms) a.degree (a.degree - coef_of x a.terms) (without_shrinks x a.terms n.positive) (omega arith) n

-- the rules keep normal form
normal_kept : (context : Context) → ((id : ℕ) (c : Linear) → context.live id ≡ Some c → IsNormal c.terms c.degree) → IsKept context (λ c. IsNormal c.terms c.degree)
normal_kept context live = record {
  standing = live;
  axioms = λ l known. axiom_normal l;
  sums = add_normal;
  multiples = times_normal;
  quotients = divide_normal;
  cuts = saturate_normal;
  weaker = weaken_normal;
}

abbrev Normal : Linear → Type 0
Normal c = IsNormal c.terms c.degree

-- all that legal lines give over a frame is in normal form
pub given_normal : (f : Frame) (g h : Given) (ls : List Line) → IsFrame f → given_from f g ls ≡ Some h → All (λ c. IsNormal c.terms c.degree) g.constraints
    → All (λ c. IsNormal c.terms c.degree) h.constraints
given_normal f g h [] frame e n = let q : g ≡ h = cc in subst (λ (k : Given). All Normal k.constraints) q n
given_normal f g h (l ∷ ls) frame e n =
    let s = first_line f g h l ls e in
    given_normal f s.0 h ls frame s.2 (go l s.0 (goes f g s.0 l s.1))
  where
    go : (l : Line) (k : Given) → Goes f g k l → All Normal k.constraints
    go (derived ops) k (by_ops c q e) = subst (λ (k : Given). All Normal k.constraints) (sym e) (All-append Normal g.constraints (c ∷ []) n
        (All-cons Normal c [] (line_keeps (context_of g) Normal (normal_kept (context_of g) (under_holds Normal g.constraints n)) ops c q) (All-nil Normal)))
    go (cover w) k (by_block q e) = subst (λ (k : Given). All Normal k.constraints) (sym e) (All-append Normal g.constraints (f.block (g.covers + 1) w) n (frame.block_normal (g.covers + 1) w))

-- which number is too large
pub excess_sum : (c : Linear) → 2 ^ 63 ≤ total c.terms → excess c ≡ Some (total c.terms)
excess_sum c h = let a : ltb (total c.terms) (2 ^ 63) ≡ false = grind (arith, nat_tests) in rw a refl

-- a degree that is too large is what is in excess,
pub excess-degree : (c : Linear) → total c.terms < 2 ^ 63 → 2 ^ 63 ≤ c.degree → excess c ≡ Some c.degree
excess-degree c h k =
    let a : ltb (total c.terms) (2 ^ 63) ≡ true = grind (arith, nat_tests) in
    let b : ltb c.degree (2 ^ 63) ≡ false = grind (arith, nat_tests) in
    rw (a, b) refl

-- and nothing is where neither is too large
pub excess-none : (c : Linear) → total c.terms < 2 ^ 63 → c.degree < 2 ^ 63 → excess c ≡ None
excess-none c h k =
    let a : ltb (total c.terms) (2 ^ 63) ≡ true = grind (arith, nat_tests) in
    let b : ltb c.degree (2 ^ 63) ≡ true = grind (arith, nat_tests) in
    rw (a, b) refl
