-- A clause of which at most one literal isn't false.
use Rattle.std.proofs.Common.{◌≡◌, ◌≢◌, ℕ, ◌<◌, ◌≤◌, Bool, true, false, not, cond, Option, Some, None, List, [], ◌∷◌, ◌++◌, length, get_or, refl, sym, ap, ◌∙◌, subst, arith, zero, suc}
use Rattle.std.specs.Prelude.{All, Contains, sum_by}
use Rattle.std.specs.Bool.{beq}
use Rattle.std.proofs.lemmas.List.{get_or_default, take_all}
use Rattle.std.proofs.lemmas.List.Sums.{sum_by-cons, sum_by-le}
use Rattle.pb_constraints.specs.declared.ConId.{ConId}
use Rattle.pb_rules.specs.declared.Term.{Term}
use Rattle.pb_rules.specs.Literal.{Literal}
use Rattle.pb_rules.specs.Linear.{Linear, IsNormal}
use Rattle.pb_rules.specs.Partial.{falsifies, is_false, open_weight, Forces, InConflict}
use Rattle.pb_rules.proofs.Rooms.{same_variable}
use Rattle.trail_state.specs.Trail.{Entry, value_in}
use Rattle.propagate.specs.Attached.{Attached}
use Rattle.propagate.specs.Forced.{Appends, IsForcedAt}
use Rattle.propagate.specs.Watched.{HasLiteral, IsClause, AreFalseBut}
use Rattle.propagate.proofs.Attaching.{attached_at_own}
use Rattle.propagate.proofs.Appending.{Appends-none, Appends-push}

-- a sum of which all but one part is nothing
only_part : (f : Term → ℕ) (ts : List Term) (i : ℕ) (d : Term) → i < length ts → ((k : ℕ) → k < length ts → k ≢ i → f (get_or ts k d) ≡ 0) → sum_by f ts ≤ f (get_or ts i d)
only_part f [] i d l h = absurd (omega arith)
only_part f (t ∷ ts) zero d l h =
    let none : All (λ (u : Term). f u ≤ 0) ts = λ k e m. (
    let z = h (suc k) (omega arith) (omega arith) in
    let g : f (get_or ts k e) ≡ f (get_or ts k d) = ap f (get_or_default ts k e d m) in
    omega (arith, z, g)) in
    let s = sum_by-le f 0 ts none in
    let c = sum_by-cons f t ts in
    omega (arith, s, c)
only_part f (t ∷ ts) (suc i) d l h =
    let ih = only_part f ts i d (omega arith) (λ k m n. h (suc k) (omega arith) (omega arith)) in
    let c = sum_by-cons f t ts in
    let z = h 0 (omega arith) (omega arith) in
    omega (arith, ih, c, z)

-- the room that the one literal leaves
unit_room : (q : ℕ → Option Bool) (c : Linear) (l : Literal) → IsNormal c.terms c.degree → (h : HasLiteral c.terms l) → AreFalseBut q l c.terms
    → open_weight q c.terms ≤ cond (is_false q l) 0 h.term.coef
unit_room q c l normal h rest =
    let t = h.there in
    let g : Term → ℕ = λ t. cond (is_false q t.lit) 0 t.coef in
    let P : Term → Type 0 = λ u. open_weight q c.terms ≤ g u in
    let Q : Literal → Type 0 = λ m. open_weight q c.terms ≤ cond (is_false q m) 0 h.term.coef in
    subst Q h.is (subst P t.2 (only_part g c.terms t.0 h.term t.1 (λ k m n.
    (let u = get_or c.terms k h.term in
    let apart : u.lit ≢ l = λ e. (let v : u.lit.var ≡ (get_or c.terms t.0 h.term).lit.var = ap (λ (m : Literal). m.var) (e ∙ sym h.is) ∙ ap (λ (t : Term). t.lit.var) (sym t.2) in
    n (same_variable c.terms c.degree normal k t.0 h.term m t.1 v)) in
    ap (λ b. cond b 0 u.coef) (rest k h.term m apart)))))

-- a clause has a positive degree
degree_positive : (c : Linear) (l : Literal) → IsNormal c.terms c.degree → IsClause c → HasLiteral c.terms l → 0 < c.degree
degree_positive c l normal clause h =
    let a = normal.positive h.there.0 h.term h.there.1 in
    let b = clause h.there.0 h.term h.there.1 in
    omega (arith, a, b)

-- if the one literal is false too, the clause is in conflict
pub unit_conflict : (q : ℕ → Option Bool) (c : Linear) (l : Literal) → IsNormal c.terms c.degree → IsClause c → HasLiteral c.terms l → AreFalseBut q l c.terms → is_false q l ≡ true → InConflict q c
unit_conflict q c l normal clause h rest f =
    let r = unit_room q c l normal h rest in
    let p = degree_positive c l normal clause h in
    let z : cond (is_false q l) 0 h.term.coef ≡ 0 = ap (λ b. cond b 0 h.term.coef) f in
    omega (arith, r, p, z)

-- if it has no value, the clause forces it
unit_forces : (q : ℕ → Option Bool) (c : Linear) (l : Literal) → IsNormal c.terms c.degree → IsClause c → HasLiteral c.terms l → AreFalseBut q l c.terms → q l.var ≡ None → Forces q c l
unit_forces q c l normal clause h rest free =
    let r = unit_room q c l normal h rest in
    let p = degree_positive c l normal clause h in
    let z : cond (is_false q l) 0 h.term.coef ≡ h.term.coef = ap (λ o. cond (falsifies o l.yes) 0 h.term.coef) free in
    let P : Literal → Type 0 = λ m. Contains c.terms (record { coef = h.term.coef; lit = m }) in
    record { unassigned = free; coef = h.term.coef; there = subst P h.is h.there; beyond = omega (arith, r, p, z) }

-- and one more entry is appended
pub unit_appends : (id : ConId) (c : Linear) (l : Literal) (es fs : List Entry) → IsNormal c.terms c.degree → IsClause c → HasLiteral c.terms l → AreFalseBut (value_in es) l c.terms
    → value_in es l.var ≡ None → fs ≡ es ++ record { lit = l; reason = Some id } ∷ [] → Appends (record { id = id; constraint = c } ∷ []) es fs
unit_appends id c l es fs normal clause h rest free grown =
    let a : Attached = record { id = id; constraint = c } in
    let e : Entry = record { lit = l; reason = Some id } in
    let P : List Entry → Type 0 = λ gs. Forces (value_in gs) c l in
    let Q : List Entry → Type 0 = λ gs. Appends (a ∷ []) es gs in
    let f = subst P (sym (take_all (length es) es (omega arith))) (unit_forces (value_in es) c l normal clause h rest free) in
    let forced : IsForcedAt (a ∷ []) es (length es) e = record { reason = id; there = refl; constraint = c; attached = attached_at_own a; forces = f } in
    subst Q (sym grown) (Appends-push (a ∷ []) es es e (Appends-none (a ∷ []) es) forced)

-- a value that isn't a literal's makes it false
pub value_false : (o : Option Bool) (value wanted : Bool) → o ≡ Some value → not (beq value wanted) ≡ true → falsifies o wanted ≡ true
value_false o value wanted e n = ap (λ p. falsifies p wanted) e ∙ unlike value wanted n
  where
    unlike : (a b : Bool) → not (beq a b) ≡ true → falsifies (Some a) b ≡ true
    unlike true true m = m
    unlike true false m = m
    unlike false true m = m
    unlike false false m = m
