-- A learned clause under the entries of lower levels: all but one of its literals are false at its level to jump back to, and it forces nothing below.
use Rattle.std.proofs.Common.{◌≡◌, ◌≢◌, ℕ, ◌+◌, ◌-◌, ◌<◌, ◌≤◌, Bool, true, false, cond, eqb, Option, Some, List, [], ◌∷◌, length, get_or, refl, sym, ap, ◌∙◌, subst, arith, zero, suc, inl, inr, ◌⊎◌}
use Rattle.std.specs.Prelude.{All, count_by, sum_by}
use Rattle.std.proofs.lemmas.Bool.{cases_lt}
use Rattle.std.proofs.lemmas.Bool.Decides.{nat_tests}
use Rattle.std.proofs.lemmas.List.{get_or_default}
use Rattle.std.proofs.lemmas.List.Sums.{sum_by-cons}
use Rattle.pb_constraints.specs.declared.ConId.{ConId}
use Rattle.pb_rules.specs.declared.Term.{Term}
use Rattle.pb_rules.specs.Literal.{Literal}
use Rattle.pb_rules.specs.Linear.{Linear, VarsBelow}
use Rattle.pb_rules.specs.Partial.{falsifies, is_false, open_weight, InConflict, Forces, IsClosed}
use Rattle.pb_rules.specs.Honest.{LeavesOne}
use Rattle.pb_rules.proofs.Assignments.{FalseToo, open-cons, closed_conflict, falsifies-none}
use Rattle.constraint_store.specs.Live.{Live}
use Rattle.trail_state.specs.Trail.{Entry, value_in, level_of, level_in, upto_level}
use Rattle.trail_state.proofs.Levels.{level_in-le, value_in-upto_level, none-upto_level}
use Rattle.propagate.specs.Attached.{Attached, attached_at}
use Rattle.propagate.proofs.Guarding.{two_places}
use Rattle.conflict_graph.specs.Conditions.{HasCurrent}
use Rattle.conflict_graph.specs.Learned.{IsLearned, IsLevelBelow}
use Rattle.conflict_graph.proofs.Ends.{false_at}
use Rattle.ordered_solver.specs.Trails.{ClosedBelow, IsUnassignedAt, HasUnassigned}

abbrev is_current : List Entry → Term → Bool
is_current es t = eqb (level_in es t.lit.var) (level_of es)

-- a place where a test that is counted holds
counted_place : (test : Term → Bool) (ts : List Term) → 0 < count_by test ts → (k : ℕ) × (k < length ts) × ((d : Term) → test (get_or ts k d) ≡ true)
counted_place test [] h = absurd (omega arith)
counted_place test (t ∷ ts) h = go (test t) refl (counted_place test ts)
  where
    go : (b : Bool) → test t ≡ b → (0 < count_by test ts → (k : ℕ) × (k < length ts) × ((d : Term) → test (get_or ts k d) ≡ true)) → (k : ℕ) × (k < length (t ∷ ts))
        × ((d : Term) → test (get_or (t ∷ ts) k d) ≡ true)
    go true e ih = (0, omega arith, λ d. e)
    go false e ih =
        let c : count_by test (t ∷ ts) ≡ cond {A = ℕ} (test t) 1 0 + count_by test ts = sum_by-cons (λ (u : Term). cond (test u) 1 0) t ts in
        let z : cond {A = ℕ} (test t) 1 0 ≡ 0 = ap (λ b. cond {A = ℕ} b 1 0) e in
        let r = ih (omega arith) in
        (suc r.0, omega (arith, r.1), r.2)

-- the one place of the current level
current_place : (live : List Live) (es : List Entry) (c : Linear) → IsLearned live es c → 0 < level_of es → (k : ℕ) × (k < length c.terms)
    × ((d : Term) → level_in es (get_or c.terms k d).lit.var ≡ level_of es)
current_place live es c l h =
    let one = l.one_current h in
    let r = counted_place (is_current es) c.terms (omega arith) in
    (r.0, r.1, λ d. (let e = r.2 d in grind (arith, nat_tests)))

-- at another place there is another level
current_alone : (live : List Live) (es : List Entry) (c : Linear) → IsLearned live es c → 0 < level_of es → (i k : ℕ) (d : Term) → i < length c.terms → k < length c.terms → i ≢ k
    → level_in es (get_or c.terms k d).lit.var ≡ level_of es → level_in es (get_or c.terms i d).lit.var ≢ level_of es
current_alone live es c l h i k d li lk ne at-k at-i =
    let one = l.one_current h in
    let f : Term → ℕ = λ t. cond (is_current es t) 1 0 in
    let f-k : f (get_or c.terms k d) ≡ 1 = rw at-k (grind (arith, nat_tests)) in
    let f-i : f (get_or c.terms i d) ≡ 1 = rw at-i (grind (arith, nat_tests)) in
    elim (cases_lt i k) [
      | inl a ↦ (let two = two_places f c.terms i k d a lk in absurd (omega arith))
      | inr b ↦ (let two = two_places f c.terms k i d (omega arith) li in absurd (omega arith))
    ]

pub back_below : (es : List Entry) (ts : List Term) (back : ℕ) → IsLevelBelow es ts back → 0 < level_of es → back < level_of es
back_below es ts back b h = elim b.attained [
  | inl z ↦ omega arith
  | inr r ↦ (let d : Term = record { coef = 0; lit = record { var = 0; yes = true } } in
      let at = r.2 d in
      let le = level_in-le es (get_or ts r.0 d).lit.var in
      let e = at.0 in
      let n = at.1 in
      omega arith)
]

-- at the level to jump back to, a literal of a lower level is false as it is now
stays_false : (es : List Entry) (back : ℕ) (l : Literal) → level_in es l.var ≤ back → is_false (value_in es) l ≡ true → is_false (value_in (upto_level back es)) l ≡ true
stays_false es back l h f = ap (λ o. falsifies o l.yes) (value_in-upto_level back es l.var h) ∙ f

-- after the jump back the clause has one literal left
pub leaves-one : (live : List Live) (es : List Entry) (c : Linear) (back : ℕ) → IsLearned live es c → IsLevelBelow es c.terms back → 0 < level_of es → LeavesOne (value_in (upto_level back es)) c
leaves-one live es c back l b h =
    let d : Term = record { coef = 0; lit = record { var = 0; yes = true } } in
    let r = current_place live es c l h in
    let t : Term = get_or c.terms r.0 d in
    let below = back_below es c.terms back b h in
    let level = r.2 d in
    record {
      left = t;
      there = (r.0, r.1, get_or_default c.terms r.0 t d r.1);
      unassigned = none-upto_level back es t.lit.var (omega arith);
      others_false = λ u there ne.
          (let i : ℕ = there.0 in
          let at : get_or c.terms i u ≡ u = there.2 in
          let apart : i ≢ r.0 = λ q. ne (ap (λ (x : Term). x.lit.var) (sym at ∙ get_or_default c.terms i u d there.1 ∙ ap (λ (m : ℕ). get_or c.terms m d) q)) in
          let other : level_in es (get_or c.terms i u).lit.var ≢ level_of es = current_alone live es c l h i r.0 u there.1 r.1 apart (r.2 u) in
          let low = b.above i u there.1 other in
          let false-now = l.false_all i u there.1 in
          let F : Term → Type 0 = λ x. is_false (value_in (upto_level back es)) x.lit ≡ true in
          subst F at (stays_false es back (get_or c.terms i u).lit low false-now));
    }

-- the room is at most the number of literals that a test counts
room_counted : (p : ℕ → Option Bool) (test : Term → Bool) (ts : List Term) → ((i : ℕ) (d : Term) → i < length ts
    → cond (is_false p (get_or ts i d).lit) 0 (get_or ts i d).coef ≤ cond (test (get_or ts i d)) 1 0) → open_weight p ts ≤ count_by test ts
room_counted p test [] h = omega arith
room_counted p test (t ∷ ts) h =
    let a = open-cons p t ts in
    let b : count_by test (t ∷ ts) ≡ cond {A = ℕ} (test t) 1 0 + count_by test ts = sum_by-cons (λ (u : Term). cond (test u) 1 0) t ts in
    let ih = room_counted p test ts (λ i d l. h (suc i) d (omega arith)) in
    let here = h 0 t (omega arith) in
    omega arith

-- after the jump back its room is 1
room_one : (live : List Live) (es : List Entry) (c : Linear) (back : ℕ) → IsLearned live es c → IsLevelBelow es c.terms back → 0 < level_of es → open_weight (value_in (upto_level back es)) c.terms ≤ 1
room_one live es c back l b h =
    let one = l.one_current h in
    let le = room_counted (value_in (upto_level back es)) (is_current es) c.terms (λ i d lt. each i d lt (eqb (level_in es (get_or c.terms i d).lit.var) (level_of es)) refl) in
    omega arith
  where
    p : ℕ → Option Bool
    p = value_in (upto_level back es)

    each : (i : ℕ) (d : Term) → i < length c.terms → (o : Bool) → eqb (level_in es (get_or c.terms i d).lit.var) (level_of es) ≡ o
        → cond (is_false p (get_or c.terms i d).lit) 0 (get_or c.terms i d).coef ≤ cond (is_current es (get_or c.terms i d)) 1 0
    each i d lt true e =
        let unit = l.clause.unit i d lt in
        rw e (some (is_false p (get_or c.terms i d).lit) (get_or c.terms i d).coef (omega arith))
      where
        some : (o : Bool) (n : ℕ) → n ≤ 1 → cond o 0 n ≤ 1
        some true n h = omega arith
        some false n h = h
    each i d lt false e =
        let other : level_in es (get_or c.terms i d).lit.var ≢ level_of es = grind (arith, nat_tests) in
        let f = stays_false es back (get_or c.terms i d).lit (b.above i d lt other) (l.false_all i d lt) in
        rw (e, f) (omega arith)

term_is : (t : Term) (l : Literal) → t.coef ≡ 1 → t.lit ≡ l → t ≡ record { coef = 1; lit = l }
term_is t l c e = ap (λ n. record { coef = n; lit = t.lit }) c ∙ ap (λ m. record { coef = 1; lit = m }) e

-- so it forces the literal that is left
pub asserts : (live : List Live) (es : List Entry) (c : Linear) (back : ℕ) (lit : Literal) → IsLearned live es c → IsLevelBelow es c.terms back → 0 < level_of es
    → IsUnassignedAt (value_in (upto_level back es)) c.terms lit → Forces (value_in (upto_level back es)) c lit
asserts live es c back lit l b h u =
    let room = room_one live es c back l b h in
    let degree = l.clause.degree in
    let t : Term = record { coef = 1; lit = lit } in
    record {
      unassigned = u.unassigned;
      coef = 1;
      there = (u.place, u.in_terms, term_is (get_or c.terms u.place t) lit (l.clause.unit u.place t u.in_terms) (u.there t));
      beyond = omega arith;
    }

-- under a level below the one to jump back to it is closed
pub quiet_below : (live : List Live) (es : List Entry) (c : Linear) (back n : ℕ) → IsLearned live es c → IsLevelBelow es c.terms back → 0 < level_of es → n < back
    → IsClosed (value_in (upto_level n es)) c
quiet_below live es c back n l b h lt =
    let d : Term = record { coef = 0; lit = record { var = 0; yes = true } } in
    let r = current_place live es c l h in
    let below = back_below es c.terms back b h in
    elim b.attained [
      | inl z ↦ absurd (omega arith)
      | inr s ↦ (let p : ℕ → Option Bool = value_in (upto_level n es) in
          let f : Term → ℕ = λ t. cond (is_false p t.lit) 0 t.coef in
          let lev-r = r.2 d in
          let lev-s = s.2 d in
          let e-s = lev-s.0 in
          let n-s = lev-s.1 in
          let one : (k : ℕ) → k < length c.terms → n < level_in es (get_or c.terms k d).lit.var → f (get_or c.terms k d) ≡ 1 = λ k lk up.
          (let free = none-upto_level n es (get_or c.terms k d).lit.var up in
          let nf : is_false p (get_or c.terms k d).lit ≡ false = falsifies-none (p (get_or c.terms k d).lit.var) (get_or c.terms k d).lit.yes free in
          rw nf (l.clause.unit k d lk)) in
          let f-r = one r.0 r.1 (omega arith) in
          let f-s = one s.0 s.1 (omega arith) in
          let apart : r.0 ≢ s.0 = λ q. n-s (sym (ap (λ (m : ℕ). level_in es (get_or c.terms m d).lit.var) q) ∙ lev-r) in
          let two : 2 ≤ open_weight p c.terms = elim (cases_lt r.0 s.0) [
            | inl a ↦ (let w = two_places f c.terms r.0 s.0 d a s.1 in omega arith)
            | inr g ↦ (let w = two_places f c.terms s.0 r.0 d (omega arith) r.1 in omega arith)
          ] in
          let degree = l.clause.degree in
          record { no_conflict = omega arith; none_forced = λ i e li free. (let unit = l.clause.unit i e li in omega arith) })
    ]

-- a false literal of the current level, or each false one is of a lower level
current_or-not : (es : List Entry) (ts : List Term) → HasCurrent es ts ⊎ ((i : ℕ) (d : Term) → i < length ts → is_false (value_in es) (get_or ts i d).lit ≡ true
    → level_in es (get_or ts i d).lit.var ≢ level_of es)
current_or-not es [] = inr (λ i d l. absurd (omega arith))
current_or-not es (t ∷ ts) = go (is_false (value_in es) t.lit) (eqb (level_in es t.lit.var) (level_of es)) refl refl (current_or-not es ts)
  where
    later : ((i : ℕ) (d : Term) → i < length ts → is_false (value_in es) (get_or ts i d).lit ≡ true → level_in es (get_or ts i d).lit.var ≢ level_of es)
        → (is_false (value_in es) t.lit ≡ true → level_in es t.lit.var ≢ level_of es) → (i : ℕ) (d : Term) → i < length (t ∷ ts) → is_false (value_in es) (get_or (t ∷ ts) i d).lit ≡ true
        → level_in es (get_or (t ∷ ts) i d).lit.var ≢ level_of es
    later h here zero d l f = here f
    later h here (suc i) d l f = h i d (omega arith) f

    go : (a b : Bool) → is_false (value_in es) t.lit ≡ a → eqb (level_in es t.lit.var) (level_of es) ≡ b → HasCurrent es ts
        ⊎ ((i : ℕ) (d : Term) → i < length ts → is_false (value_in es) (get_or ts i d).lit ≡ true → level_in es (get_or ts i d).lit.var ≢ level_of es) → HasCurrent es (t ∷ ts)
        ⊎ ((i : ℕ) (d : Term) → i < length (t ∷ ts) → is_false (value_in es) (get_or (t ∷ ts) i d).lit ≡ true → level_in es (get_or (t ∷ ts) i d).lit.var ≢ level_of es)
    go true true e q ih = inl (record { term = t; there = (0, omega arith, refl); false_there = e; current = grind (arith, nat_tests) })
    go a b e q (inl w) = inl (record { term = w.term; there = (suc (w.there).0, omega (arith, (w.there).1), (w.there).2); false_there = w.false_there; current = w.current })
    go false b e q (inr w) = inr (later w (λ f. absurd (cc)))
    go true false e q (inr w) = inr (later w (λ f. grind (arith, nat_tests)))

-- a conflict above level 0 has a false literal of the current level, since all is closed below
pub has_current : (held : List Attached) (es : List Entry) (c : ConId) (k : Linear) → ClosedBelow held es → attached_at held c ≡ Some k → InConflict (value_in es) k → 0 < level_of es
    → HasCurrent es k.terms
has_current held es c k below attached conflict h = elim (current_or-not es k.terms) [
  | inl w ↦ w
  | inr none ↦ absurd (
      let n : ℕ = level_of es - 1 in
      let too : FalseToo (value_in es) (value_in (upto_level n es)) k.terms = λ i d l f.
      (let ne = none i d l f in
      let le = level_in-le es (get_or k.terms i d).lit.var in
      stays_false es n (get_or k.terms i d).lit (omega arith) f) in
      closed_conflict (value_in es) (value_in (upto_level n es)) k conflict too (below n (omega arith) c k attached))
]

-- the literal that is left is found by its value
pub found_one : (p : ℕ → Option Bool) (c : Linear) → LeavesOne p c → HasUnassigned p c.terms
found_one p c l =
    let i : ℕ = (l.there).0 in
    record {
      lit = l.left.lit;
      at = record {
        place = i;
        in_terms = (l.there).1;
        there = λ d. ap (λ (t : Term). t.lit) (get_or_default c.terms i d l.left (l.there).1 ∙ (l.there).2);
        unassigned =
            l.unassigned;
      };
    }

-- the variables of a learned clause are assigned, and so in range
pub learned_below : (live : List Live) (es : List Entry) (c : Linear) (n : ℕ) → IsLearned live es c → All (λ (e : Entry). e.lit.var < n) es → VarsBelow n c.terms
learned_below live es c n l below = λ i d h. (false_at es n (get_or c.terms i d).lit below (l.false_all i d h)).0
