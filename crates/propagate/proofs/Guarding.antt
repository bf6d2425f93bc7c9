-- What watched literals that aren't false, or true ones, say of a clause.
use Rattle.std.proofs.Common.{◌≡◌, ◌≢◌, ℕ, ◌+◌, ◌<◌, ◌≤◌, Bool, true, false, cond, Option, Some, None, List, length, get_or, take, refl, sym, ap, ◌∙◌, subst, arith, inl, inr}
use Rattle.std.specs.Prelude.{Contains, sum_by}
use Rattle.std.proofs.lemmas.Bool.{cases_eq, cases_lt}
use Rattle.std.proofs.lemmas.List.{get_or-take, get_or_default, length-take-le}
use Rattle.std.proofs.lemmas.List.Sums.{get_or-le-sum_by, sum_by_more_le}
use Rattle.pb_constraints.specs.declared.ConId.{ConId}
use Rattle.pb_rules.specs.declared.Term.{Term}
use Rattle.pb_rules.specs.Literal.{Literal}
use Rattle.pb_rules.specs.Linear.{Linear}
use Rattle.pb_rules.specs.Partial.{falsifies, is_false, open_weight, IsClosed, GoesOn}
use Rattle.propagate.specs.Attached.{attached_at}
use Rattle.propagate.specs.Counters.{attached_from}
use Rattle.propagate.specs.Watched.{WatchedView, HasLiteral, HasTrue, IsClause, IsWatched, IsGuarded, AreKept, AreGuarded, wholes}
use Rattle.propagate.proofs.Attaching.{attached_at_slot}
use Rattle.propagate.proofs.Wholes.{kept_in}

-- a true literal stays true
pub true_later : (p q : ℕ → Option Bool) (ts : List Term) → GoesOn p q → HasTrue p ts → HasTrue q ts
true_later p q ts g h = record { lit = h.lit; there = h.there; holds = g h.lit.var h.lit.yes h.holds }

-- a false literal stays false
pub false_later : (p q : ℕ → Option Bool) (l : Literal) → GoesOn p q → is_false p l ≡ true → is_false q l ≡ true
false_later p q l g h = go (p l.var) refl
  where
    go : (o : Option Bool) → p l.var ≡ o → is_false q l ≡ true
    go None e = (let h' : falsifies None l.yes ≡ true = ap (λ o. falsifies o l.yes) (sym e) ∙ h in absurd (cc))
    go (Some b) e = ap (λ o. falsifies o l.yes) (g l.var b e ∙ sym e) ∙ h

-- a clause stays guarded under a longer assignment
pub guarded_later : (q p p' : ℕ → Option Bool) (w : WatchedView) → GoesOn p p' → IsGuarded q p w → IsGuarded q p' w
guarded_later q p p' w g h l m f = true_later p p' w.whole.terms g (h l m f)

-- and where fewer literals are false
pub guarded_fewer : (q q' p : ℕ → Option Bool) (w : WatchedView) → GoesOn q' q → IsGuarded q p w → IsGuarded q' p w
guarded_fewer q q' p w g h l m f = h l m (false_later q' q l g f)

-- two different places of a sum
pub two_places : (f : Term → ℕ) (ts : List Term) (i j : ℕ) (d : Term) → i < j → j < length ts → f (get_or ts i d) + f (get_or ts j d) ≤ sum_by f ts
two_places f ts i j d l h =
    let len : length (take j ts) ≡ j = length-take-le j ts (omega arith) in
    let a = get_or-le-sum_by f (take j ts) i d (omega (arith, len)) in
    let b = sum_by_more_le f ts j d h in
    let c : f (get_or (take j ts) i d) ≡ f (get_or ts i d) = ap f (get_or-take j ts i d l) in
    omega (arith, a, b, c)

-- two different elements are within the sum
two_le : (f : Term → ℕ) (ts : List Term) (t u : Term) → Contains ts t → Contains ts u → t ≢ u → f t + f u ≤ sum_by f ts
two_le f ts t u a b n =
    let at : get_or ts b.0 t ≡ u = get_or_default ts b.0 t u b.1 ∙ b.2 in
    let P : Term → Type 0 = λ v. f v + f u ≤ sum_by f ts in
    let Q : Term → Type 0 = λ v. f (get_or ts a.0 t) + f v ≤ sum_by f ts in
    subst P a.2 (subst Q at (elim (cases_lt a.0 b.0) [
      | inl l ↦ two_places f ts a.0 b.0 t l b.1
      | inr g ↦ (elim (cases_eq a.0 b.0) [
        | inl e ↦ absurd (n (sym a.2 ∙ ap (λ (i : ℕ). get_or ts i t) e ∙ at))
        | inr d ↦ (let s = two_places f ts b.0 a.0 t (omega arith) a.1 in omega (arith, s))
      ])
    ]))

open_coef : (q : ℕ → Option Bool) (c : Linear) (l : Literal) → IsClause c → (h : HasLiteral c.terms l) → is_false q l ≡ false → cond (is_false q h.term.lit) 0 h.term.coef ≡ c.degree
open_coef q c l k h f =
    let t = h.there in
    let P : Term → Type 0 = λ v. v.coef ≡ c.degree in
    ap (λ (m : Literal). cond (is_false q m) 0 h.term.coef) h.is ∙ ap (λ b. cond b 0 h.term.coef) f ∙ subst P t.2 (k t.0 h.term t.1)

-- a literal of a clause that isn't false is enough against a conflict
open_enough : (q : ℕ → Option Bool) (c : Linear) (l : Literal) → IsClause c → HasLiteral c.terms l → is_false q l ≡ false → c.degree ≤ open_weight q c.terms
open_enough q c l k h f =
    let t = h.there in
    let g : Term → ℕ = λ t. cond (is_false q t.lit) 0 t.coef in
    let a = get_or-le-sum_by g c.terms t.0 h.term t.1 in
    let b : g (get_or c.terms t.0 h.term) ≡ c.degree = ap g t.2 ∙ open_coef q c l k h f in
    omega (arith, a, b)

open_twice : (q : ℕ → Option Bool) (c : Linear) (l m : Literal) → IsClause c → HasLiteral c.terms l → HasLiteral c.terms m → l ≢ m → is_false q l ≡ false → is_false q m ≡ false
    → c.degree + c.degree ≤ open_weight q c.terms
open_twice q c l m k a b n f g =
    let apart : a.term ≢ b.term = λ e. n (sym a.is ∙ ap (λ (t : Term). t.lit) e ∙ b.is) in
    let both = two_le (λ t. cond (is_false q t.lit) 0 t.coef) c.terms a.term b.term a.there b.there apart in
    let x = open_coef q c l k a f in
    let y = open_coef q c m k b g in
    omega (arith, both, x, y)

-- a clause with two literals that aren't false is closed
pub open_closed : (q : ℕ → Option Bool) (c : Linear) (l m : Literal) → IsClause c → HasLiteral c.terms l → HasLiteral c.terms m → l ≢ m → is_false q l ≡ false → is_false q m ≡ false → IsClosed q c
open_closed q c l m k a b n f g =
    let two = open_twice q c l m k a b n f g in
    record { no_conflict = omega (arith, two); none_forced = λ i d h z. (let e = k i d h in omega (arith, two, e)) }

-- and so is one with a true literal
pub true_closed : (q : ℕ → Option Bool) (w : WatchedView) → IsClause w.whole → HasTrue q w.whole.terms → IsClosed q w.whole
true_closed q w k h =
    let c = w.whole in
    let f : is_false q h.lit ≡ false = ap (λ o. falsifies o h.lit.yes) h.holds ∙ own h.lit.yes in
    record {
      no_conflict = open_enough q c h.lit k h.there f;
      none_forced = λ i d l free.
          (let t = get_or c.terms i d in
          let there : HasLiteral c.terms t.lit = record { term = t; there = (i, l, get_or_default c.terms i t d l); is = refl } in
          let apart : h.lit ≢ t.lit = λ e. (let v : q t.lit.var ≡ Some h.lit.yes = ap (λ (m : Literal). q m.var) (sym e) ∙ h.holds in absurd (cc)) in
          let two = open_twice q c h.lit t.lit k h.there there apart f (ap (λ o. falsifies o t.lit.yes) free) in
          let e = k i d l in
          omega (arith, two, e));
    }
  where
    own : (b : Bool) → falsifies (Some b) b ≡ false
    own true = refl
    own false = refl

-- a guarded clause is closed
guarded_closed : (q : ℕ → Option Bool) (w : WatchedView) → IsWatched w → IsGuarded q q w → IsClosed q w.whole
guarded_closed q w k g = at (is_false q w.first) (is_false q w.second) refl refl
  where
    at : (a b : Bool) → is_false q w.first ≡ a → is_false q w.second ≡ b → IsClosed q w.whole
    at true b e f = true_closed q w k.clause (g w.first (inl refl) e)
    at false true e f = true_closed q w k.clause (g w.second (inr refl) f)
    at false false e f = open_closed q w.whole w.first w.second k.clause k.first_there k.second_there k.apart e f

-- where all clauses are guarded, all are closed
pub all_guarded_closed : (n : ℕ) (q : ℕ → Option Bool) (slots : List (Option WatchedView)) → AreKept n slots → AreGuarded q q slots → (c : ConId) (k : Linear)
    → attached_at (attached_from 0 (wholes slots)) c ≡ Some k → IsClosed q k
all_guarded_closed n q slots kept guarded c k e =
    let at = kept_in slots c.0 k (sym (attached_at_slot (wholes slots) c) ∙ e) in
    let P : Linear → Type 0 = λ d. IsClosed q d in
    subst P at.2 (guarded_closed q at.0 (kept c.0 at.0 at.1).watched (guarded c.0 at.0 at.1))
