-- Weakening by variables that don't fall, taken along the terms.
use Rattle.std.proofs.Common.{◌≡◌, ◌≢◌, ◌<◌, ◌≤◌, ◌+◌, ◌-◌, ◌++◌, ◌∙◌, ◌⊎◌, inl, inr, ap, sym, arith, ℕ, List, [], ◌∷◌, eqb, false, refl, length, take, drop, get_or, suc}
use Rattle.std.specs.Prelude.{All}
use Rattle.std.specs.List.Sorted.{IsNonDecreasing}
use Rattle.std.proofs.lemmas.Bool.Decides.{nat_tests}
use Rattle.std.proofs.lemmas.Bool.{cases_lt}
use Rattle.std.proofs.lemmas.List.{append_assoc, drop_all, drop_more, get_or-drop, get_or_default, length-drop}
use Rattle.pb_rules.specs.declared.Term.{Term}
use Rattle.pb_rules.specs.Linear.{Linear, IsNormal}
use Rattle.pb_rules.specs.CuttingPlanes.{without_var, coef_of, weaken}
use Rattle.pb_rules.proofs.Merges.{without_none, slice_all}
use Rattle.pb_rules.proofs.Normal.{weaken_normal}
use Rattle.cutting_planes.specs.Weakened.{linear, weaken_each}

-- the constraint that a weakening by each of these leaves is in normal form
pub each_normal : (xs : List ℕ) (a : Linear) → IsNormal a.terms a.degree → IsNormal (weaken_each xs a).terms (weaken_each xs a).degree
each_normal [] a n = n
each_normal (x ∷ xs) a n = each_normal xs (weaken x a) (weaken_normal x a n)

-- without terms nothing changes
pub each-none : (xs : List ℕ) (d : ℕ) → weaken_each xs (linear [] d) ≡ linear [] d
each-none [] d = refl
each-none (x ∷ xs) d =
    let z : d - 0 ≡ d = omega arith in
    ap (λ (k : ℕ). weaken_each xs (linear [] k)) z ∙ each-none xs d

-- a term before each variable stays, and is in front
each_kept : (t : Term) (xs : List ℕ) (ts : List Term) (d : ℕ) → All (λ x. t.lit.var < x) xs → ((weaken_each xs (linear (t ∷ ts) d)).terms ≡ t ∷ (weaken_each xs (linear ts d)).terms)
    × ((weaken_each xs (linear (t ∷ ts) d)).degree ≡ (weaken_each xs (linear ts d)).degree)
each_kept t [] ts d h = (refl, refl)
each_kept t (x ∷ xs) ts d h =
    let n = h 0 x (omega arith) in
    let miss : eqb t.lit.var x ≡ false = grind (arith, nat_tests) in
    let over : weaken x (linear (t ∷ ts) d) ≡ linear (t ∷ without_var x ts) (d - coef_of x ts) = rw miss refl in
    let ih = each_kept t xs (without_var x ts) (d - coef_of x ts) (λ k e q. h (suc k) e (omega arith)) in
    (ap (λ (c : Linear). (weaken_each xs c).terms) over ∙ ih.0, ap (λ (c : Linear). (weaken_each xs c).degree) over ∙ ih.1)

-- a variable that no term has changes nothing
each_missed : (x : ℕ) (xs : List ℕ) (ts : List Term) (d : ℕ) → All (λ t. t.lit.var ≢ x) ts → weaken_each (x ∷ xs) (linear ts d) ≡ weaken_each xs (linear ts d)
each_missed x xs ts d h =
    let w = without_none x ts h in
    let c = w.1 in
    let z : d - coef_of x ts ≡ d = omega arith in
    ap (λ (us : List Term). weaken_each xs (linear us (d - coef_of x ts))) w.0 ∙ ap (λ (k : ℕ). weaken_each xs (linear ts k)) z

-- ---- at places of both lists

-- what is left so far, and what the rest of the variables leaves of the rest of the terms
pub record IsAlong (ts : List Term) (xs : List ℕ) (degree i j : ℕ) (out : List Term) (d : ℕ) : Type 0 where
  pub terms : (weaken_each xs (linear ts degree)).terms ≡ out ++ (weaken_each (drop j xs) (linear (drop i ts) d)).terms
  pub degree_left : (weaken_each xs (linear ts degree)).degree ≡ (weaken_each (drop j xs) (linear (drop i ts) d)).degree

pub along_kept : (ts : List Term) (xs : List ℕ) (degree i j d : ℕ) (out new : List Term) (t : Term) → IsNonDecreasing xs → i < length ts → j < length xs → t ≡ get_or ts i t
    → t.lit.var < get_or xs j 0 → new ≡ out ++ t ∷ [] → IsAlong ts xs degree i j out d → IsAlong ts xs degree (i + 1) j new d
along_kept ts xs degree i j d out new t up l m is before more h =
    let rest = drop (i + 1) ts in
    let ys = drop j xs in
    let front : drop i ts ≡ t ∷ rest = drop_more ts i t l ∙ ap (λ (u : Term). u ∷ rest) (sym is) in
    let k = each_kept t ys rest d (λ n e q. (let a = get_or-drop j xs n e in let r = up j (j + n) e (omega arith) (omega (arith, q, length-drop j xs)) in let s = get_or_default xs j e 0 m in
    omega arith)) in
    record {
      terms = h.terms ∙ (ap (λ (us : List Term). out ++ (weaken_each ys (linear us d)).terms) front ∙ (ap (λ (us : List Term). out ++ us) k.0
          ∙ (sym (append_assoc out (t ∷ []) (weaken_each ys (linear rest d)).terms) ∙ ap (λ (os : List Term). os ++ (weaken_each ys (linear rest d)).terms) (sym more))));
      degree_left = h.degree_left ∙ (ap (λ (us : List Term). (weaken_each ys (linear us d)).degree) front ∙ k.1);
    }

pub along_missed : (ts : List Term) (xs : List ℕ) (degree i j d : ℕ) (out : List Term) (t : Term) → IsNormal ts degree → i < length ts → j < length xs → t ≡ get_or ts i t
    → get_or xs j 0 < t.lit.var → IsAlong ts xs degree i j out d → IsAlong ts xs degree i (j + 1) out d
along_missed ts xs degree i j d out t n l m is before h =
    let us = drop i ts in
    let x = get_or xs j 0 in
    let ys = drop (j + 1) xs in
    let both : weaken_each (drop j xs) (linear us d) ≡ weaken_each ys (linear us d) =
    ap (λ (zs : List ℕ). weaken_each zs (linear us d)) (drop_more xs j 0 m) ∙ each_missed x ys us d (later ts degree i x t n l is before) in
    record {
      terms = h.terms ∙ ap (λ (c : Linear). out ++ c.terms) both;
      degree_left = h.degree_left ∙ ap (λ (c : Linear). c.degree) both;
    }
  where
    later : (ts : List Term) (degree i x : ℕ) (t : Term) → IsNormal ts degree → i < length ts → t ≡ get_or ts i t → x < t.lit.var → All (λ u. u.lit.var ≢ x) (drop i ts)
    later ts degree i x t n l is before k e q =
        let a = ap (λ (u : Term). u.lit.var) (get_or-drop i ts k e) in
        let b = ap (λ (u : Term). u.lit.var) (get_or_default ts i e t l) in
        let c = ap (λ (u : Term). u.lit.var) is in
        let m = length-drop i ts in
        elim (cases_lt i (i + k)) [
          | inl up ↦ (let r = n.rising i (i + k) e up (omega arith) in omega arith)
          | inr none ↦ (let z : i + k ≡ i = omega arith in let s = ap (λ (p : ℕ). (get_or ts p e).lit.var) z in omega arith)
        ]

each_done : (ts : List Term) (xs : List ℕ) (i j d : ℕ) → (length ts ≤ i) ⊎ (length xs ≤ j) → weaken_each (drop j xs) (linear (drop i ts) d) ≡ linear (drop i ts) d
each_done ts xs i j d (inl h) =
    let e = drop_all i ts h in
    ap (λ (us : List Term). weaken_each (drop j xs) (linear us d)) e ∙ (each-none (drop j xs) d ∙ ap (λ (us : List Term). linear us d) (sym e))
each_done ts xs i j d (inr h) = ap (λ (ys : List ℕ). weaken_each ys (linear (drop i ts) d)) (drop_all j xs h)

pub along_end : (ts : List Term) (xs : List ℕ) (degree i j d : ℕ) (out last : List Term) → (length ts ≤ i) ⊎ (length xs ≤ j) → last ≡ out ++ take (length ts - i) (drop i ts)
    → IsAlong ts xs degree i j out d → linear last d ≡ weaken_each xs (linear ts degree)
along_end ts xs degree i j d out last done rest h =
    let e = each_done ts xs i j d done in
    let whole = weaken_each xs (linear ts degree) in
    let items : last ≡ whole.terms = rest ∙ (ap (λ (us : List Term). out ++ us) (slice_all ts i) ∙ (ap (λ (c : Linear). out ++ c.terms) (sym e) ∙ sym h.terms)) in
    let left : d ≡ whole.degree = ap (λ (c : Linear). c.degree) (sym e) ∙ sym h.degree_left in
    ap (λ (us : List Term). linear us d) items ∙ ap (linear whole.terms) left
