use Rattle.std.proofs.Common.{◌≡◌, ◌≢◌, ℕ, ◌+◌, ◌-◌, ◌<◌, ◌≤◌, Bool, true, false, cond, eqb, ltb, List, [], ◌∷◌, ◌++◌, refl, sym, ap, ◌∙◌, subst, arith, inl, inr, ◌⊎◌, zero, suc, length, get_or, take, drop, min, map}
use Rattle.std.specs.Prelude.{All}
use Rattle.std.proofs.lemmas.Bool.{cases_eq, cases_lt}
use Rattle.std.proofs.lemmas.Bool.Decides.{nat_tests}
use Rattle.std.proofs.lemmas.List.{take_more, append-nil, take_all, append_assoc, length-drop}
use Rattle.std.proofs.lemmas.List.Sums.{sum_by-cons, sum_by_more, sum_by_more_le}
use Rattle.pb_rules.specs.declared.Term.{Term}
use Rattle.pb_rules.specs.Linear.{total}
use Rattle.pb_rules.specs.CuttingPlanes.{Sum, same_sign, onto, joined, merge_one, merge, cut, without_var, coef_of}

-- the sum with one term more
pub total-cons : (t : Term) (ts : List Term) → total (t ∷ ts) ≡ t.coef + total ts
total-cons t ts = sum_by-cons (λ (t : Term). t.coef) t ts

-- a coefficient is at most the sum
pub coef-le : (ts : List Term) (i : ℕ) (t : Term) → i < length ts → t ≡ get_or ts i t → t.coef ≤ total ts
coef-le [] i t h e = absurd (omega arith)
coef-le (u ∷ ts) zero t h e = let c = total-cons u ts in let q = ap (λ (v : Term). v.coef) e in omega arith
coef-le (u ∷ ts) (suc i) t h e = let c = total-cons u ts in let ih = coef-le ts i t (omega arith) e in omega arith

joined-cancelled : (t u : Term) (s : Sum) → (joined t u s).cancelled ≤ s.cancelled + t.coef
joined-cancelled t u s = go (same_sign t.lit.yes u.lit.yes) refl
  where
    go : (b : Bool) → same_sign t.lit.yes u.lit.yes ≡ b → (joined t u s).cancelled ≤ s.cancelled + t.coef
    go true e = rw e (omega arith)
    go false e = elim (cases_eq t.coef u.coef) [
      | inl q ↦ (let a : eqb t.coef u.coef ≡ true = grind (arith, nat_tests) in rw (e, a) (omega arith))
      | inr n ↦ (let a : eqb t.coef u.coef ≡ false = grind (arith, nat_tests) in
          elim (cases_lt t.coef u.coef) [
            | inl l ↦ (let b : ltb t.coef u.coef ≡ true = grind (arith, nat_tests) in rw (e, a, b) (omega arith))
            | inr g ↦ (let b : ltb t.coef u.coef ≡ false = grind (arith, nat_tests) in rw (e, a, b) (omega arith))
          ])
    ]

one_cancelled : (t : Term) (f : List Term → Sum) (m : ℕ) → ((us : List Term) → (f us).cancelled ≤ m) → (us : List Term) → (merge_one t f us).cancelled ≤ t.coef + m
one_cancelled t f m h [] = let a = h [] in omega arith
one_cancelled t f m h (u ∷ us) =
    let ih = one_cancelled t f m h us in
    let a = h (u ∷ us) in
    let b = h us in
    let j = joined-cancelled t u (f us) in
    go (ltb t.lit.var u.lit.var) (eqb t.lit.var u.lit.var) (omega arith) (omega arith) ih
  where
    go : (p q : Bool) → (f (u ∷ us)).cancelled ≤ t.coef + m → (joined t u (f us)).cancelled ≤ t.coef + m → (merge_one t f us).cancelled ≤ t.coef + m
        → (cond p (onto t (f (u ∷ us))) (cond q (joined t u (f us)) (onto u (merge_one t f us)))).cancelled ≤ t.coef + m
    go true q a b c = a
    go false true a b c = b
    go false false a b c = c

-- what cancels in a merge is at most the first sum
pub merge-cancelled : (ts us : List Term) → (merge ts us).cancelled ≤ total ts
merge-cancelled [] us = omega arith
merge-cancelled (t ∷ ts) us = let c = total-cons t ts in let o = one_cancelled t (merge ts) (total ts) (merge-cancelled ts) us in omega arith

merge-nil : (ts : List Term) → ((merge ts []).terms ≡ ts) × ((merge ts []).cancelled ≡ 0)
merge-nil [] = (refl, refl)
merge-nil (t ∷ ts) = let ih = merge-nil ts in (ap (λ us. t ∷ us) ih.0, ih.1)

drop_all : (ts : List Term) (i : ℕ) → length ts ≤ i → drop i ts ≡ []
drop_all [] zero h = refl
drop_all [] (suc i) h = refl
drop_all (t ∷ ts) zero h = absurd (omega arith)
drop_all (t ∷ ts) (suc i) h = drop_all ts i (omega arith)

-- where one list is used up, the rest of the other is what is left
pub merge_end : (xs ys : List Term) (i j : ℕ) → (length xs ≤ i) ⊎ (length ys ≤ j) → ((merge (drop i xs) (drop j ys)).terms ≡ drop i xs ++ drop j ys) × ((merge (drop i xs) (drop j ys)).cancelled ≡ 0)
merge_end xs ys i j (inl h) = let e = drop_all xs i h in rw e (refl, refl)
merge_end xs ys i j (inr h) = let e = drop_all ys j h in let m = merge-nil (drop i xs) in rw e (m.0 ∙ sym (append-nil (drop i xs)), m.1)

cut-append : (d : ℕ) (ts us : List Term) → cut d (ts ++ us) ≡ cut d ts ++ cut d us
cut-append d [] us = refl
cut-append d (t ∷ ts) us = go (ltb 0 (min t.coef d)) (cut-append d ts us)
  where
    go : (b : Bool) → cut d (ts ++ us) ≡ cut d ts ++ cut d us → cond b (record { coef = min t.coef d; lit = t.lit } ∷ cut d (ts ++ us)) (cut d (ts ++ us))
        ≡ cond b (record { coef = min t.coef d; lit = t.lit } ∷ cut d ts) (cut d ts) ++ cut d us
    go true ih = ap (λ vs. let r : Term = record { coef = min t.coef d; lit = t.lit } in r ∷ vs) ih
    go false ih = ih

-- one term more is cut
pub cut_more : (d : ℕ) (ts : List Term) (i : ℕ) (t : Term) → i < length ts → t ≡ get_or ts i t → cut d (take (i + 1) ts) ≡ cut d (take i ts) ++ cut d (t ∷ [])
cut_more d ts i t h e = ap (cut d) (take_more ts i t h ∙ ap (λ (u : Term). take i ts ++ u ∷ []) (sym e)) ∙ cut-append d (take i ts) (t ∷ [])

-- a term of which something is left
pub cut_hit : (d : ℕ) (t : Term) (m : ℕ) → m ≡ min t.coef d → 0 < m → cut d (t ∷ []) ≡ record { coef = m; lit = t.lit } ∷ []
cut_hit d t m e p =
    let test : ltb 0 (min t.coef d) ≡ true = grind (arith, nat_tests) in
    rw test (ap (λ (c : ℕ). let r : Term = record { coef = c; lit = t.lit } in r ∷ []) (sym e))

-- a term of which nothing is left
pub cut_miss : (d : ℕ) (t : Term) (m : ℕ) → m ≡ min t.coef d → m ≤ 0 → cut d (t ∷ []) ≡ []
cut_miss d t m e p = let test : ltb 0 (min t.coef d) ≡ false = grind (arith, nat_tests) in rw test refl

-- the slice from a place to the end is what is left there
pub slice_all : (ts : List Term) (i : ℕ) → take (length ts - i) (drop i ts) ≡ drop i ts
slice_all ts i = take_all (length ts - i) (drop i ts) (omega (arith, length-drop i ts))

-- two slices to the end, put behind a list
pub rest_of : (xs ys : List Term) (i j : ℕ) (out first second : List Term) → first ≡ out ++ take (length xs - i) (drop i xs) → second ≡ first ++ take (length ys - j) (drop j ys)
    → second ≡ out ++ (drop i xs ++ drop j ys)
rest_of xs ys i j out first second a b =
    b ∙ ap (λ os. first ++ os) (slice_all ys j) ∙ ap (λ os. os ++ drop j ys) (a ∙ ap (λ os. out ++ os) (slice_all xs i)) ∙ append_assoc out (drop i xs) (drop j ys)

-- terms made one by one, with one more
pub map_more : (g : Term → Term) (ts : List Term) (i : ℕ) (t : Term) → i < length ts → t ≡ get_or ts i t → map g (take (i + 1) ts) ≡ map g (take i ts) ++ g t ∷ []
map_more g ts i t h e = ap (map g) (take_more ts i t h ∙ ap (λ (u : Term). take i ts ++ u ∷ []) (sym e)) ∙ push (take i ts)
  where
    push : (us : List Term) → map g (us ++ t ∷ []) ≡ map g us ++ g t ∷ []
    push [] = refl
    push (u ∷ us) = ap (λ vs. g u ∷ vs) (push us)

-- the sum so far and the next coefficient
pub total_more : (ts : List Term) (i : ℕ) (t : Term) → i < length ts → t ≡ get_or ts i t → (total (take (i + 1) ts) ≡ total (take i ts) + t.coef) × (total (take i ts) + t.coef ≤ total ts)
total_more ts i t h e =
    let c : t.coef ≡ (get_or ts i t).coef = ap (λ (u : Term). u.coef) e in
    let a = sum_by_more (λ (t : Term). t.coef) ts i t h in
    let b = sum_by_more_le (λ (t : Term). t.coef) ts i t h in
    (omega arith, omega arith)

-- the first term of a variable, found at its place
pub without_at : (x : ℕ) (ts : List Term) (p : ℕ) (d : Term) → p < length ts → ((k : ℕ) (d : Term) → k < p → (get_or ts k d).lit.var ≢ x) → (get_or ts p d).lit.var ≡ x
    → (without_var x ts ≡ take p ts ++ drop (p + 1) ts) × (coef_of x ts ≡ (get_or ts p d).coef)
without_at x [] p d l before at = absurd (omega arith)
without_at x (t ∷ ts) zero d l before at = let hit : eqb t.lit.var x ≡ true = grind (arith, nat_tests) in (rw hit refl, rw hit refl)
without_at x (t ∷ ts) (suc p) d l before at =
    let n = before 0 t (omega arith) in
    let miss : eqb t.lit.var x ≡ false = grind (arith, nat_tests) in
    let ih = without_at x ts p d (omega arith) (λ k e q. before (suc k) e (omega arith)) at in
    let q : suc p + 1 ≡ suc (p + 1) = omega arith in
    let P : ℕ → Type 0 = λ m. t ∷ without_var x ts ≡ t ∷ (take p ts ++ drop m (t ∷ ts)) in
    (rw miss (subst P (sym q) (ap (λ us. t ∷ us) ih.0)), rw miss ih.1)

-- where no term has the variable, weakening changes nothing
pub without_none : (x : ℕ) (ts : List Term) → All (λ t. t.lit.var ≢ x) ts → (without_var x ts ≡ ts) × (coef_of x ts ≡ 0)
without_none x [] h = (refl, refl)
without_none x (t ∷ ts) h =
    let n = h 0 t (omega arith) in
    let miss : eqb t.lit.var x ≡ false = grind (arith, nat_tests) in
    let ih = without_none x ts (λ k d l. h (suc k) d (omega arith)) in
    (rw miss (ap (λ us. t ∷ us) ih.0), rw miss ih.1)
