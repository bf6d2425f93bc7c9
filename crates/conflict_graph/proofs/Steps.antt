use Rattle.std.proofs.Common.{◌≡◌, ◌≢◌, ℕ, ◌+◌, ◌<◌, ◌≤◌, ◌^◌, Bool, true, false, not, eqb, Option, Some, None, List, [], ◌∷◌, ◌++◌, length, get_or, take, refl, sym, ap, ◌∙◌, subst, arith, inl, inr, ◌⊎◌}
use Rattle.std.specs.Prelude.{Ok}
use Rattle.std.proofs.lemmas.Bool.{cases_eq, cases_lt}
use Rattle.std.proofs.lemmas.Bool.Decides.{nat_tests}
use Rattle.std.proofs.lemmas.List.{take_all}
use Rattle.std.proofs.Math.Path.{fun_ext}
use Rattle.std.proofs.Math.Bool.{not-not}
use Rattle.pb_constraints.specs.declared.ConId.{ConId}
use Rattle.pb_rules.specs.declared.Term.{Term}
use Rattle.pb_rules.specs.Literal.{Literal}
use Rattle.pb_rules.specs.Linear.{Linear, IsNormal}
use Rattle.pb_rules.specs.Partial.{is_false, InConflict}
use Rattle.pb_rules.specs.declared.Op.{Op}
use Rattle.pb_rules.specs.declared.Op.TheVariants.{Add, Saturate}
use Rattle.pb_rules.proofs.Carried.{apply_all-append}
use Rattle.constraint_store.specs.Live.{Live, constraint_of, proof_id_of}
use Rattle.trail_state.specs.Trail.{Entry, is_decision, value_in, level_of, level_in, IsDistinct}
use Rattle.conflict_graph.specs.Clauses.{clause_of, false_signs, clause_ops}
use Rattle.conflict_graph.specs.Conditions.{IsUsable, IsForcedBy, HasCurrent}
use Rattle.conflict_graph.specs.Learning.{Falsifies, current_at, currents, Learning, either, Learnt}
use Rattle.pb_rules.specs.Partial.{flipped}
use Rattle.pb_rules.proofs.Assignments.{FalseToo, forced_flip, closed_conflict, closed_takes}
use Rattle.trail_state.proofs.Levels.{before_level, level_more, level_part}
use Rattle.trail_state.proofs.Entries.{value_more_other, value_more_same}
use Rattle.conflict_graph.proofs.Rows.{resolved, clash, clashes, clashes-one}
use Rattle.conflict_graph.proofs.Making.{Terms, Terms-of}
use Rattle.conflict_graph.proofs.Deriving.{making_gives, resolving_gives}
use Rattle.conflict_graph.proofs.Counts.{currents_has, currents_loses, currents_none}
use Rattle.conflict_graph.proofs.Signs.{signs-false, signs_at, signs_agree, signs_too, falsifies-not}

usable_terms : (live : List Live) (n : ℕ) (c : ConId) → IsUsable live n c → IsNormal (constraint_of live c).terms (constraint_of live c).degree → Terms 0 n (constraint_of live c).terms
usable_terms live n c u normal = Terms-of n (constraint_of live c).terms (constraint_of live c).degree normal u.in_range

-- the conflict's own clause
pub learning_start : (live : List Live) (es : List Entry) (n : ℕ) (c : ConId) → n < 2 ^ 62 → IsUsable live n c → IsNormal (constraint_of live c).terms (constraint_of live c).degree
    → InConflict (value_in es) (constraint_of live c) → (0 < level_of es → HasCurrent es (constraint_of live c).terms) →
    Learning live es n (length es) (false_signs (value_in es) (constraint_of live c).terms) (currents n 0 es (false_signs (value_in es) (constraint_of live c).terms))
    (clause_ops (proof_id_of live c) (value_in es) (constraint_of live c))
learning_start live es n c few u normal conflict current =
    let k : Linear = constraint_of live c in
    let a : ℕ → Option Bool = value_in es in
    let f : ℕ → Option Bool = false_signs a k.terms in
    let terms = usable_terms live n c u normal in
    let all : take (length es) es ≡ es = take_all (length es) es (omega arith) in
    let P : List Entry → Type 0 = λ fs. Falsifies (value_in fs) f in
    record {
      derives = λ context knows has. making_gives context n (proof_id_of live c) a k [] knows (has c u.live_there) (omega arith) terms normal.small_degree conflict;
      within = λ x b h. (signs-false a k.terms n u.in_range x b h).1;
      false_before = subst P (sym all) (λ x b h. (signs-false a k.terms n u.in_range x b h).0);
      propagated = λ p closed falsified. closed_conflict a p k conflict (signs_too a p 0 k.terms terms.from falsified) (closed c u.live_there);
      counted = refl;
      some = λ pos. (let h = current pos in
          let i = (h.there).0 in
          let at : get_or k.terms i h.term ≡ h.term = (h.there).2 in
          let Q : Term → Type 0 = λ t. f t.lit.var ≡ Some t.lit.yes in
          let R : Term → Type 0 = λ t. is_false a t.lit ≡ true in
          let sign : f h.term.lit.var ≡ Some h.term.lit.yes = subst Q at (signs_at a 0 k.terms i h.term terms.from (h.there).1 (subst R (sym at) h.false_there)) in
          let x : ℕ = h.term.lit.var in
          let S : Term → Type 0 = λ t. t.lit.var < n in
          let small : x < n = subst S at (u.in_range i h.term (h.there).1) in
          let w = currents_has n 0 x es f (omega arith) (omega arith) in
          let one : current_at es x (f x) ≡ 1 = (let test : eqb (level_in es x) (level_of es) ≡ true = (let l = h.current in grind (arith, nat_tests)) in ap (current_at es x) sign ∙ rw test refl) in
          omega arith);
    }

-- a place whose variable is not in the clause
pub learning_skip : (live : List Live) (es : List Entry) (n p : ℕ) (d : Entry) (f : ℕ → Option Bool) (count : ℕ) (ops : List Op) → p < length es → f (get_or es p d).lit.var ≡ None
    → Learning live es n (p + 1) f count ops → Learning live es n p f count ops
learning_skip live es n p d f count ops h none l = record {
  derives = l.derives;
  within = l.within;
  false_before = λ x b s. (
      let ne : (get_or es p d).lit.var ≢ x = λ e. (let s' : f (get_or es p d).lit.var ≡ Some b = ap f e ∙ s in absurd (cc)) in
      sym (value_more_other es p d x h ne) ∙ l.false_before x b s);
  propagated = l.propagated;
  counted = l.counted;
  some = l.some;
}

not_injective : (a b : Bool) → not a ≡ not b → a ≡ b
not_injective true true h = refl
not_injective true false h = absurd (cc)
not_injective false true h = absurd (cc)
not_injective false false h = refl

pub record IsResolvent (f g h : ℕ → Option Bool) (x : ℕ) : Type 0 where
  pub here : h x ≡ None
  pub other : (y : ℕ) → y ≢ x → h y ≡ either (f y) (g y)

resolved_opposite : (y : Bool) → (resolved (Some (not y)) (Some y) ≡ None) × (clash (Some (not y)) (Some y) ≡ 1)
resolved_opposite true = (refl, refl)
resolved_opposite false = (refl, refl)

resolved_same : (p q : Option Bool) → ((a b : Bool) → p ≡ Some a → q ≡ Some b → a ≡ b) → (resolved p q ≡ either p q) × (clash p q ≡ 0)
resolved_same None q h = (refl, refl)
resolved_same (Some a) None h = (refl, refl)
resolved_same (Some true) (Some true) h = (refl, refl)
resolved_same (Some true) (Some false) h = absurd (let e = h true false refl refl in cc)
resolved_same (Some false) (Some true) h = absurd (let e = h false true refl refl in cc)
resolved_same (Some false) (Some false) h = (refl, refl)

either_first : (p q : Option Bool) (b : Bool) → p ≡ Some b → either p q ≡ Some b
either_first p q b e = rw e refl

either_second : (p q : Option Bool) (b : Bool) → ((a : Bool) → p ≡ Some a → a ≡ b) → q ≡ Some b → either p q ≡ Some b
either_second None q b h e = e
either_second (Some a) q b h e = let s = h a refl in ap (λ (c : Bool). Some c) s

either_cases : (p q : Option Bool) (b : Bool) → either p q ≡ Some b → (p ≡ Some b) ⊎ (q ≡ Some b)
either_cases None q b h = inr h
either_cases (Some a) q b h = inl h

-- the facts on one step of resolution, on assignments alone
pub record Meets (a whole : ℕ → Option Bool) (l : Literal) (f g : ℕ → Option Bool) : Type 0 where
  pub free : a l.var ≡ None
  pub set : whole l.var ≡ Some l.yes
  pub same : (y : ℕ) → y ≢ l.var → whole y ≡ a y
  pub in_f : (y : ℕ) (b : Bool) → f y ≡ Some b → whole y ≡ Some (not b)
  pub in_g : (y : ℕ) (b : Bool) → g y ≡ Some b → a y ≡ Some (not b)
  pub sign : (b : Bool) → f l.var ≡ Some b → b ≡ not l.yes

meets_agree : (a whole : ℕ → Option Bool) (l : Literal) (f g : ℕ → Option Bool) → Meets a whole l f g → (y : ℕ) → y ≢ l.var → (b c : Bool) → f y ≡ Some b → g y ≡ Some c → b ≡ c
meets_agree a whole l f g m y n b c p q =
    let u : whole y ≡ Some (not b) = m.in_f y b p in
    let v : a y ≡ Some (not c) = m.in_g y c q in
    let s = m.same y n in
    let e : not b ≡ not c = cc in
    not_injective b c e

pub learning_resolve : (live : List Live) (es : List Entry) (n p : ℕ) (d : Entry) (f h : ℕ → Option Bool) (count : ℕ) (ops : List Op) (r : ConId) (b : Bool) → n < 2 ^ 62 → p < length es
    → IsDistinct es → IsForcedBy live n (take p es) (get_or es p d) r → IsNormal (constraint_of live r).terms (constraint_of live r).degree → f (get_or es p d).lit.var ≡ Some b
    → (0 < level_of es → 1 < count) → IsResolvent f (false_signs (value_in (take p es)) (constraint_of live r).terms) h (get_or es p d).lit.var → Learning live es n (p + 1) f count ops →
    Learning live es n p h (currents n 0 es h) (ops ++ (clause_ops (proof_id_of live r) (flipped (value_in (take p es)) (get_or es p d).lit) (constraint_of live r) ++ Add ∷ Saturate ∷ []))
learning_resolve live es n p d f h count ops r b small lt distinct forced normal marked two is l = record {
  derives = λ context knows has. (
      let u = forced.usable in
      let made = making_gives context n (proof_id_of live r) (flipped a lit) k (clause_of n f ∷ []) knows (has r u.live_there) (omega arith) terms normal.small_degree
      (forced_flip a k lit forced.forces) in
      let res = resolving_gives context n f g [] small one in
      let same : clause_of n (λ x. resolved (f x) (g x)) ≡ clause_of n h = ap (clause_of n) (fun_ext resolvent_is) in
      apply_all-append context ops (clause_ops (proof_id_of live r) (flipped a lit) k ++ Add ∷ Saturate ∷ []) [] (clause_of n f ∷ []) (l.derives context knows has)
      ∙ apply_all-append context (clause_ops (proof_id_of live r) (flipped a lit) k) (Add ∷ Saturate ∷ []) (clause_of n f ∷ []) (clause_of n g ∷ clause_of n f ∷ []) made
      ∙ res ∙ ap (λ (c : Linear). Ok (c ∷ [])) same);
  within = λ y c q. elim (cases_eq y x) [
    | inl e ↦ absurd (let z = is.here in let q' : h x ≡ Some c = ap h (sym e) ∙ q in cc)
    | inr ne ↦ (elim (either_cases (f y) (g0 y) c (sym (is.other y ne) ∙ q)) [ inl s ↦ l.within y c s | inr s ↦ (signs-false a k.terms n (forced.usable).in_range y c s).1 ])
  ];
  false_before = λ y c q. elim (cases_eq y x) [
    | inl e ↦ absurd (let z = is.here in let q' : h x ≡ Some c = ap h (sym e) ∙ q in cc)
    | inr ne ↦ (elim (either_cases (f y) (g0 y) c (sym (is.other y ne) ∙ q)) [
      | inl s ↦ sym (meets.same y ne) ∙ l.false_before y c s
      | inr s ↦
          (signs-false a k.terms n (forced.usable).in_range y c s).0
    ])
  ];
  propagated = λ q closed falsified. (
      let too : FalseToo a q k.terms = signs_too a q 0 k.terms terms.from (λ y c s. falsified y c (has_second y c s)) in
      let takes : q x ≡ Some lit.yes = closed_takes a q k lit forced.forces too (closed r (forced.usable).live_there) in
      l.propagated q closed (λ y c s. elim (cases_eq y x) [
        | inl e ↦ (let s' : f x ≡ Some c = ap f (sym e) ∙ s in
            let v : c ≡ not lit.yes = meets.sign c s' in
            let w : not c ≡ lit.yes = ap not v ∙ not-not lit.yes in
            ap q e ∙ takes ∙ ap (λ (z : Bool). Some z) (sym w))
        | inr ne ↦ falsified y c (is.other y ne ∙ either_first (f y) (g0 y) c s)
      ]));
  counted = refl;
  some = λ pos. (
      let t = two pos in
      let c = l.counted in
      let lose = currents_loses n 0 x es f h (λ y ne. at_least y ne (f y) refl) in
      omega arith);
}
  where
    lit : Literal
    lit = (get_or es p d).lit

    x : ℕ
    x = (get_or es p d).lit.var

    k : Linear
    k = constraint_of live r

    a : ℕ → Option Bool
    a = value_in (take p es)

    terms : Terms 0 n (constraint_of live r).terms
    terms = usable_terms live n r forced.usable normal

    g0 : ℕ → Option Bool
    g0 = false_signs (value_in (take p es)) (constraint_of live r).terms

    g : ℕ → Option Bool
    g = false_signs (flipped (value_in (take p es)) (get_or es p d).lit) (constraint_of live r).terms

    meets : Meets (value_in (take p es)) (value_in (take (p + 1) es)) (get_or es p d).lit f g0
    meets = record {
      free = distinct p d lt;
      set = value_more_same es p d lt distinct;
      same = λ y ne. value_more_other es p d y lt (λ e. ne (sym e));
      in_f = l.false_before;
      in_g = λ y c s. (signs-false (value_in (take p es)) (constraint_of live r).terms n (forced.usable).in_range y c s).0;
      sign = λ c s. (
          let u : value_in (take (p + 1) es) (get_or es p d).lit.var ≡ Some (not c) = l.false_before (get_or es p d).lit.var c s in
          let v : value_in (take (p + 1) es) (get_or es p d).lit.var ≡ Some (get_or es p d).lit.yes = value_more_same es p d lt distinct in
          let e : not c ≡ (get_or es p d).lit.yes = cc in
          sym (not-not c) ∙ ap not e);
    }

    has_second : (y : ℕ) (c : Bool) → g0 y ≡ Some c → h y ≡ Some c
    has_second y c s =
        let ne : y ≢ x = λ e. (let v = meets.in_g y c s in let w : value_in (take p es) y ≡ None = ap (value_in (take p es)) e ∙ meets.free in absurd (cc)) in
        is.other y ne ∙ either_second (f y) (g0 y) c (λ b q. meets_agree (value_in (take p es)) (value_in (take (p + 1) es)) (get_or es p d).lit f g0 meets y ne b c q s) s

    g-other : (y : ℕ) → y ≢ x → g y ≡ g0 y
    g-other y ne =
        let t : eqb y x ≡ false = grind (arith, nat_tests) in
        let e : flipped (value_in (take p es)) (get_or es p d).lit y ≡ value_in (take p es) y = rw t refl in
        signs_agree (flipped (value_in (take p es)) (get_or es p d).lit) (value_in (take p es)) (constraint_of live r).terms y e

    g-here : g x ≡ Some (get_or es p d).lit.yes
    g-here =
        let fs = forced.forces in
        let i = (fs.there).0 in
        let t : Term = record { coef = fs.coef; lit = (get_or es p d).lit } in
        let at : get_or (constraint_of live r).terms i t ≡ t = (fs.there).2 in
        let P : Term → Type 0 = λ u. is_false (flipped (value_in (take p es)) (get_or es p d).lit) u.lit ≡ true in
        let Q : Term → Type 0 = λ u. false_signs (flipped (value_in (take p es)) (get_or es p d).lit) (constraint_of live r).terms u.lit.var ≡ Some u.lit.yes in
        let hit : eqb x x ≡ true = grind (arith, nat_tests) in
        let f-is : flipped (value_in (take p es)) (get_or es p d).lit x ≡ Some (not (get_or es p d).lit.yes) = rw hit refl in
        let z : is_false (flipped (value_in (take p es)) (get_or es p d).lit) (get_or es p d).lit ≡ true =
        falsifies-not (flipped (value_in (take p es)) (get_or es p d).lit x) (get_or es p d).lit.yes f-is in
        subst Q at (signs_at (flipped (value_in (take p es)) (get_or es p d).lit) 0 (constraint_of live r).terms i t terms.from (fs.there).1 (subst P (sym at) z))

    f-here : f x ≡ Some (not (get_or es p d).lit.yes)
    f-here = marked ∙ ap (λ (c : Bool). Some c) (meets.sign b marked)

    here_both : (resolved (f x) (g x) ≡ None) × (clash (f x) (g x) ≡ 1)
    here_both = let o = resolved_opposite (get_or es p d).lit.yes in rw (f-here, g-here) o

    other_both : (y : ℕ) → y ≢ x → (resolved (f y) (g y) ≡ either (f y) (g0 y)) × (clash (f y) (g y) ≡ 0)
    other_both y ne =
        let o = resolved_same (f y) (g0 y) (λ b c q s. meets_agree (value_in (take p es)) (value_in (take (p + 1) es)) (get_or es p d).lit f g0 meets y ne b c q s) in
        let e = g-other y ne in
        (ap (resolved (f y)) e ∙ o.0, ap (clash (f y)) e ∙ o.1)

    resolvent_is : (y : ℕ) → resolved (f y) (g y) ≡ h y
    resolvent_is y = elim (cases_eq y x) [
      | inl e ↦ ap (λ (z : ℕ). resolved (f z) (g z)) e ∙ here_both.0 ∙ sym is.here ∙ ap h (sym e)
      | inr ne ↦ (other_both y ne).0 ∙ sym (is.other y ne)
    ]

    one : clashes n 0 f g ≡ 1
    one = clashes-one n 0 x f g (omega arith) (let w = l.within x b marked in omega arith) here_both.1 (λ y ne. (other_both y ne).1)

    at_least : (y : ℕ) → y ≢ x → (o : Option Bool) → f y ≡ o → current_at es y (f y) ≤ current_at es y (h y)
    at_least y ne None e = let z : current_at es y (f y) ≡ 0 = ap (current_at es y) e in omega arith
    at_least y ne (Some c) e =
        let u : h y ≡ Some c = is.other y ne ∙ either_first (f y) (g0 y) c e in
        let z : current_at es y (f y) ≡ current_at es y (h y) = ap (current_at es y) (e ∙ sym u) in
        omega arith

-- a decision is never resolved on
only_here : (live : List Live) (es : List Entry) (n p : ℕ) (d : Entry) (f : ℕ → Option Bool) (count : ℕ) (ops : List Op) → p < length es → is_decision (get_or es p d) ≡ true
    → Learning live es n (p + 1) f count ops → (y : ℕ) → y ≢ (get_or es p d).lit.var → (o : Option Bool) → f y ≡ o → current_at es y (f y) ≡ 0
only_here live es n p d f count ops lt dec l y ne None e = ap (current_at es y) e
only_here live es n p d f count ops lt dec l y ne (Some b) e =
    let v : value_in (take p es) y ≡ Some (not b) = sym (value_more_other es p d y lt (λ q. ne (sym q))) ∙ l.false_before y b e in
    let w = (before_level es y p (not b) v).0 in
    let m = level_more es p d lt in
    let m' = rw dec at m in
    let part = level_part es (p + 1) in
    let test : eqb (level_in es y) (level_of es) ≡ false = (let q : level_in es y ≢ level_of es = omega arith in grind (arith, nat_tests)) in
    ap (current_at es y) e ∙ rw test refl

pub decision_alone : (live : List Live) (es : List Entry) (n p : ℕ) (d : Entry) (f : ℕ → Option Bool) (count : ℕ) (ops : List Op) → p < length es → is_decision (get_or es p d) ≡ true
    → Learning live es n (p + 1) f count ops → (0 < level_of es) × (count ≤ 1)
decision_alone live es n p d f count ops lt dec l =
    let m = level_more es p d lt in
    let m' = rw dec at m in
    let part = level_part es (p + 1) in
    let lose = currents_loses n 0 (get_or es p d).lit.var es f (λ _. None) (λ y ne. (let z = only_here live es n p d f count ops lt dec l y ne (f y) refl in omega arith)) in
    let none = currents_none n 0 es (λ _. None) (λ y. refl) in
    let c = l.counted in
    (omega arith, omega arith)

-- at the first place nothing is left
pub learning_end : (live : List Live) (es : List Entry) (n : ℕ) (f : ℕ → Option Bool) (count : ℕ) (ops : List Op) → Learning live es n 0 f count ops → (level_of es ≡ 0) × ((x : ℕ) → f x ≡ None)
learning_end live es n f count ops l =
    let none : (x : ℕ) → f x ≡ None = λ x. go x (f x) refl in
    let z = currents_none n 0 es f (λ x. ap (current_at es x) (none x)) in
    let c = l.counted in
    (elim (cases_lt 0 (level_of es)) as (λ _. level_of es ≡ 0) [ inl pos ↦ absurd (let s = l.some pos in omega arith) | inr ge ↦ omega arith ], none)
  where
    go : (x : ℕ) (o : Option Bool) → f x ≡ o → f x ≡ None
    go x None e = e
    go x (Some b) e = absurd (let v : value_in (take 0 es) x ≡ Some (not b) = l.false_before x b e in cc)

-- the analysis ends with one literal of the current level, or at the first place
pub learnt-one : (live : List Live) (es : List Entry) (n p : ℕ) (f : ℕ → Option Bool) (count : ℕ) (ops : List Op) → 0 < level_of es → count ≡ 1 → Learning live es n p f count ops
    → Learnt live es n f ops
learnt-one live es n p f count ops pos one l = record {
  derives = l.derives;
  within = l.within;
  false_all = λ x b s. (before_level es x p (not b) (l.false_before x b s)).1;
  propagated = l.propagated;
  one = λ _. (let c = l.counted in omega arith);
  none = λ z. absurd (omega arith);
}

pub learnt_none : (live : List Live) (es : List Entry) (n : ℕ) (f : ℕ → Option Bool) (count : ℕ) (ops : List Op) → Learning live es n 0 f count ops → Learnt live es n f ops
learnt_none live es n f count ops l =
    let e = learning_end live es n f count ops l in
    let z = e.0 in
    record {
      derives = l.derives;
      within = l.within;
      false_all = λ x b s. absurd (let q = e.1 x in cc);
      propagated = l.propagated;
      one = λ pos. absurd (omega arith);
      none = λ _. e.1;
    }
