use Rattle.std.proofs.Common.{◌≡◌, ℕ, ◌<◌, Bool, true, false, not, cond, Option, Some, None, List, [], ◌∷◌, ◌++◌, length, get_or, take, refl, sym, ap, ◌∙◌, subst, arith, inl, inr, zero, suc}
use Rattle.std.specs.Prelude.{All}
use Rattle.std.proofs.lemmas.List.{get_or_default, take-append-le, take_all, get_or_append_left, get_or_push, length_push}
use Rattle.std.proofs.lemmas.List.Elements.{Contains-append_left, Contains-append_right, Contains-append_cases, All-append}
use Rattle.std.proofs.lemmas.Bool.{cases_lt}
use Rattle.pb_rules.specs.declared.Term.{Term}
use Rattle.pb_rules.specs.Literal.{Literal, lit_true}
use Rattle.pb_rules.specs.Linear.{Linear, Holds, IsModel, AreAmong, true_weight}
use Rattle.pb_rules.specs.Partial.{falsifies, is_false, open_weight, Forces, IsClosed, IsClosedFor, whole, GoesOn}
use Rattle.pb_rules.specs.Clauses.{IsClause, contradiction}
use Rattle.pb_rules.specs.Honest.{IsAbsorbed, IsUnabsorbed, IsPropagated, AreHonest}
use Rattle.pb_rules.proofs.Sums.{true_weight-cons}
use Rattle.pb_rules.proofs.Assignments.{FalseToo, open-cons, closed_takes}

-- what goes on from an assignment makes its false literals false
pub goes_false : (p q : ℕ → Option Bool) (ts : List Term) → GoesOn p q → FalseToo p q ts
goes_false p q ts g i d l f = go (p m.var) refl
  where
    m : Literal
    m = (get_or ts i d).lit

    go : (o : Option Bool) → p m.var ≡ o → is_false q m ≡ true
    go None e = absurd (let n = ap (λ w. falsifies w m.yes) e in cc)
    go (Some b) e = ap (λ w. falsifies w m.yes) (g m.var b e) ∙ ap (λ w. falsifies w m.yes) (sym e) ∙ f

-- a closed assignment takes what a smaller one forces
pub closed_goes : (p a : ℕ → Option Bool) (c : Linear) (l : Literal) → Forces p c l → GoesOn p a → IsClosed a c → a l.var ≡ Some l.yes
closed_goes p a c l f g closed = closed_takes p a c l f (goes_false p a c.terms g) closed

false_or_true : (y w : Bool) → falsifies (Some w) y ≡ not (cond y w (not w))
false_or_true true true = refl
false_or_true true false = refl
false_or_true false true = refl
false_or_true false false = refl

-- under a whole assignment a literal is false where it is not true
pub whole-false : (v : ℕ → Bool) (l : Literal) → is_false (whole v) l ≡ not (lit_true v l)
whole-false v l = false_or_true l.yes (v l.var)

-- the room under a whole assignment is the weight of the true literals
pub open-whole : (v : ℕ → Bool) (ts : List Term) → open_weight (whole v) ts ≡ true_weight v ts
open-whole v [] = refl
open-whole v (t ∷ ts) =
    let a = open-cons (whole v) t ts in
    let b = true_weight-cons v t ts in
    let ih = open-whole v ts in
    let here : cond (is_false (whole v) t.lit) 0 t.coef ≡ cond (lit_true v t.lit) t.coef 0 = ap (λ o. cond o 0 t.coef) (whole-false v t.lit) ∙ turned (lit_true v t.lit) in
    omega arith
  where
    turned : (o : Bool) → cond (not o) 0 t.coef ≡ cond o t.coef 0
    turned true = refl
    turned false = refl

-- a model is a closed partial assignment
pub model_closed : (cs : List Linear) (v : ℕ → Bool) → IsModel cs v → IsClosedFor cs (whole v)
model_closed cs v m i d l =
    let c : Linear = get_or cs i d in
    let h = m i d l in
    let w = open-whole v c.terms in
    record { no_conflict = omega arith; none_forced = λ k t q n. absurd (cc) }

-- where no literal with a positive coefficient is true, each one is false
none_true : (v : ℕ → Bool) (ts : List Term) → All (λ t. 0 < t.coef) ts → true_weight v ts ≡ 0 → (i : ℕ) (d : Term) → i < length ts → is_false (whole v) (get_or ts i d).lit ≡ true
none_true v [] p z i d l = absurd (omega arith)
none_true v (t ∷ ts) p z zero d l =
    let b = true_weight-cons v t ts in
    let q = p 0 d (omega arith) in
    go (lit_true v t.lit) refl (omega arith)
  where
    go : (o : Bool) → lit_true v t.lit ≡ o → cond (lit_true v t.lit) t.coef 0 ≡ 0 → is_false (whole v) t.lit ≡ true
    go true e n = absurd (let q = p 0 d (omega arith) in let n' : t.coef ≡ 0 = (let f = ap (λ o. cond o t.coef 0) e in omega arith) in omega arith)
    go false e n = whole-false v t.lit ∙ ap not e
none_true v (t ∷ ts) p z (suc i) d l =
    let b = true_weight-cons v t ts in
    none_true v ts (λ j e k. p (suc j) e (omega arith)) (omega arith) i d (omega arith)

-- a propagated clause follows
pub propagated_follows : (cs : List Linear) (c : Linear) (v : ℕ → Bool) → IsClause c → IsPropagated cs c → IsModel cs v → Holds v c
propagated_follows cs c v clause propagated m =
    let d = clause.degree in
    elim (cases_lt (true_weight v c.terms) c.degree) [
      | inl l ↦ absurd (propagated (whole v) (model_closed cs v m) (none_true v c.terms clause.normal.positive (omega arith)))
      | inr g ↦ g
    ]

-- what is closed for a list is closed for what is among it
pub closed_among : (cs ds : List Linear) (p : ℕ → Option Bool) → AreAmong cs ds → IsClosedFor ds p → IsClosedFor cs p
closed_among cs ds p among closed i d l =
    let c : Linear = get_or cs i d in
    let there = among c (i, l, get_or_default cs i c d l) in
    subst (IsClosed p) there.2 (closed there.0 c there.1)

-- the first of two lists are among both
pub among_front : (cs ds : List Linear) → AreAmong cs (cs ++ ds)
among_front cs ds c h = Contains-append_left cs ds c h

-- the second of two lists are among both
pub among_back : (cs ds : List Linear) → AreAmong ds (cs ++ ds)
among_back cs ds c h = Contains-append_right cs ds c h

-- a model of a list is one of what is among it
pub models_among : (v : ℕ → Bool) (cs ds : List Linear) → AreAmong cs ds → IsModel ds v → IsModel cs v
models_among v cs ds among m i d l =
    let c : Linear = get_or cs i d in
    let there = among c (i, l, get_or_default cs i c d l) in
    subst (Holds v) there.2 (m there.0 c there.1)

-- a model of two lists is one of the first,
pub models_front : (v : ℕ → Bool) (cs ds : List Linear) → IsModel (cs ++ ds) v → IsModel cs v
models_front v cs ds m = models_among v cs (cs ++ ds) (among_front cs ds) m

-- and one of the second
pub models_back : (v : ℕ → Bool) (cs ds : List Linear) → IsModel (cs ++ ds) v → IsModel ds v
models_back v cs ds m = models_among v ds (cs ++ ds) (among_back cs ds) m

-- two lists whose constraints are among others, together
pub among_append : (cs ds es : List Linear) → AreAmong cs es → AreAmong ds es → AreAmong (cs ++ ds) es
among_append cs ds es a b c h = elim (Contains-append_cases cs ds c h) [ inl x ↦ a c x | inr y ↦ b c y ]

-- what is closed for two lists is closed for the first
pub closed_front : (cs ds : List Linear) (p : ℕ → Option Bool) → IsClosedFor (cs ++ ds) p → IsClosedFor cs p
closed_front cs ds p h = closed_among cs (cs ++ ds) p (among_front cs ds) h

-- what a list absorbs, a longer one absorbs
pub absorbed_among : (cs ds : List Linear) (c : Linear) → AreAmong cs ds → IsAbsorbed cs c → IsAbsorbed ds c
absorbed_among cs ds c among absorbed p closed left = absorbed p (closed_among cs ds p among closed) left

-- what a list does not absorb, no part of it absorbs
pub unabsorbed_among : (cs ds : List Linear) (c : Linear) → AreAmong cs ds → IsUnabsorbed ds c → IsUnabsorbed cs c
unabsorbed_among cs ds c among u = record { assignment = u.assignment; closed = closed_among cs ds u.assignment among u.closed; leaves_one = u.leaves_one }

-- a clause that says something new isn't absorbed
pub unabsorbed_not : (cs : List Linear) (c : Linear) → IsUnabsorbed cs c → IsAbsorbed cs c → ⊥
unabsorbed_not cs c u absorbed = absorbed u.assignment u.closed u.leaves_one

-- what a list propagates, a longer one propagates
pub propagated_among : (cs ds : List Linear) (c : Linear) → AreAmong cs ds → IsPropagated cs c → IsPropagated ds c
propagated_among cs ds c among propagated p closed falsified = propagated p (closed_among cs ds p among closed) falsified

-- `0 >= 1` is absorbed by every list
pub contradiction_absorbed : (cs : List Linear) → IsAbsorbed cs contradiction
contradiction_absorbed cs p closed left = let there = (left.there).1 in absurd (omega arith)

-- where a list propagates `0 >= 1`, it has no model
pub no_model : (cs : List Linear) → IsPropagated cs contradiction → (v : ℕ → Bool) → IsModel cs v → ⊥
no_model cs propagated v m = propagated (whole v) (model_closed cs v m) (λ i d l. absurd (omega arith))

-- one clause more that the others do not absorb
pub honest_push : (base cs : List Linear) (c : Linear) → AreHonest base cs → IsClause c → IsUnabsorbed (base ++ cs) c → AreHonest base (cs ++ c ∷ [])
honest_push base cs c h clause new = record {
  clauses_each = All-append IsClause cs (c ∷ []) h.clauses_each (λ k d l. only k d l);
  unabsorbed = λ k d l. elim (cases_lt k (length cs)) [
    | inl m ↦ (let e : take k (cs ++ c ∷ []) ≡ take k cs = take-append-le k cs (c ∷ []) (omega arith) in
        let f : get_or (cs ++ c ∷ []) k d ≡ get_or cs k d = get_or_append_left cs (c ∷ []) d k m in
        let P : List Linear → Linear → Type 0 = λ xs x. IsUnabsorbed (base ++ xs) x in
        subst (λ (xs : List Linear). P xs (get_or (cs ++ c ∷ []) k d)) (sym e) (subst (P (take k cs)) (sym f) (h.unabsorbed k d m)))
    | inr g ↦ (let at : k ≡ length cs = omega (arith, length_push cs c) in
        let e : take k (cs ++ c ∷ []) ≡ cs = ap (λ n. take n (cs ++ c ∷ [])) at ∙ take-append-le (length cs) cs (c ∷ []) (omega arith) ∙ take_all (length cs) cs (omega arith) in
        let f : get_or (cs ++ c ∷ []) k d ≡ c = ap (λ n. get_or (cs ++ c ∷ []) n d) at ∙ get_or_push cs c d (length cs) refl in
        let P : List Linear → Linear → Type 0 = λ xs x. IsUnabsorbed (base ++ xs) x in
        subst (λ (xs : List Linear). P xs (get_or (cs ++ c ∷ []) k d)) (sym e) (subst (P cs) (sym f) new))
  ];
}
  where
    only : (k : ℕ) (d : Linear) → k < 1 → IsClause (get_or (c ∷ []) k d)
    only zero d l = clause
    only (suc k) d l = absurd (omega arith)
