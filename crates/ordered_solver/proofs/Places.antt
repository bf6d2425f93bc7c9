-- The places in the order that a search goes on from: at its start, after propagation, a decision, and a jump back.
use Rattle.std.proofs.Common.{◌≡◌, ℕ, ◌+◌, ◌<◌, false, cond, Bool, Some, None, List, [], ◌∷◌, ◌++◌, length, get_or, set, drop, refl, sym, ap, ◌∙◌, subst, arith, inl, inr, get_or-set_same, get_or-set_other, zero, suc}
use Rattle.std.proofs.lemmas.Bool.{cases_eq, cases_lt}
use Rattle.pb_rules.specs.Literal.{Literal}
use Rattle.constraint_store.specs.Live.{Live}
use Rattle.proof_log.specs.Log.{LogValue}
use Rattle.pb_constraints.specs.declared.ConId.{ConId}
use Rattle.trail_state.specs.Trail.{Entry, value_in, level_of, is_decision, upto_level}
use Rattle.trail_state.proofs.Entries.{none-take}
use Rattle.trail_state.proofs.Levels.{level-push, upto_level-append, upto_level-push, upto_level_all, upto_level_twice, level_of-upto_level}
use Rattle.propagate.specs.Attached.{Attached}
use Rattle.propagate.specs.Forced.{Appends}
use Rattle.ordered_solver.specs.Trails.{IsNext, IsNextAt, HasPassed, ArePassed, GoesOnFrom}
use Rattle.ordered_solver.specs.Lessons.{Learns}
use Rattle.ordered_solver.proofs.Steps.{level-appends, goes_split, goes_push, goes_appends}
use Rattle.ordered_solver.proofs.Asserting.{back_below}

-- the literal at the next place is the next one
pub next_at : (order : List Literal) (es : List Entry) (place : ℕ) (l : Literal) → IsNextAt order es place → l ≡ get_or order place l → IsNext order es l
next_at order es place l n is =
    let P : Literal → Type 0 = λ m. value_in es m.var ≡ None in
    record {
      place = place;
      in_order = n.in_order;
      there = λ d. get_or-any order place d l n.in_order ∙ sym is;
      unassigned = subst P (sym is) (n.unassigned l);
      earlier = n.earlier;
    }
  where
    get_or-any : (ls : List Literal) (k : ℕ) (d m : Literal) → k < length ls → get_or ls k d ≡ get_or ls k m
    get_or-any [] k d m h = absurd (omega arith)
    get_or-any (x ∷ ls) zero d m h = refl
    get_or-any (x ∷ ls) (suc k) d m h = get_or-any ls k d m (omega arith)

-- further entries take no value away
passed_more : (order : List Literal) (place : ℕ) (old new : List Entry) → GoesOnFrom old new → HasPassed order place old → HasPassed order place new
passed_more order place old new g h = λ j d lt z. h j d lt (ap (λ (es : List Entry). value_in es (get_or order j d).var) (sym g.kept) ∙ none-take new (length old) (get_or order j d).var z)

pub passed_start : (order : List Literal) (es : List Entry) (places : List ℕ) → ((n : ℕ) → get_or places n 0 ≡ 0) → ArePassed order es places
passed_start order es places zeros = λ n h j d lt. (let z = zeros n in absurd (omega arith))

pub passed_appends : (held : List Attached) (order : List Literal) (places : List ℕ) (old new : List Entry) → Appends held old new → ArePassed order old places → ArePassed order new places
passed_appends held order places old new a p =
    let level = level-appends held old new a in
    λ n h.
    (let P : List Entry → Type 0 = λ es. HasPassed order (get_or places n 0) es in
    elim (cases_lt n (level_of old)) [
      | inl lt ↦ (let same : upto_level n new ≡ upto_level n old = ap (upto_level n) (goes_split old new a.kept) ∙ upto_level-append n old (drop (length old) new) lt in
          subst P (sym same) (p n (omega arith)))
      | inr ge ↦ (let before : HasPassed order (get_or places n 0) old = subst P (upto_level_all n old ge) (p n (omega arith)) in
          subst P (sym (upto_level_all n new (omega arith))) (passed_more order (get_or places n 0) old new (goes_appends held old new a) before))
    ])

pub passed_decide : (order : List Literal) (places : List ℕ) (es : List Entry) (l : Literal) (place k : ℕ) → k ≡ level_of (es ++ record { lit = l; reason = None } ∷ []) → k < length places
    → HasPassed order place es → ArePassed order es places → ArePassed order (es ++ record { lit = l; reason = None } ∷ []) (set places k place)
passed_decide order places es l place k is h passed p =
    let e : Entry = record { lit = l; reason = None } in
    let level : level_of (es ++ e ∷ []) ≡ level_of es + 1 = level-push es e in
    λ n lt.
    (let P : List Entry → Type 0 = λ us. HasPassed order place us in
    let K : ℕ → Type 0 = λ m. HasPassed order m (upto_level n (es ++ e ∷ [])) in
    elim (cases_eq n k) [
      | inl q ↦ (let at : get_or (set places k place) n 0 ≡ place = ap (λ (m : ℕ). get_or (set places k place) m 0) q ∙ get_or-set_same places k place 0 h in
          let whole : upto_level n (es ++ e ∷ []) ≡ es ++ e ∷ [] = upto_level_all n (es ++ e ∷ []) (omega arith) in
          subst K (sym at) (subst P (sym whole) (passed_more order place es (es ++ e ∷ []) (goes_push es e) passed)))
      | inr ne ↦ (let at : get_or (set places k place) n 0 ≡ get_or places n 0 = get_or-set_other places k n place 0 ne in
          let same : upto_level n (es ++ e ∷ []) ≡ upto_level n es = upto_level-push n es e (omega arith) in
          let Q : List Entry → Type 0 = λ us. HasPassed order (get_or places n 0) us in
          subst K (sym at) (subst Q (sym same) (p n (omega arith))))
    ])

-- the place of the current level
pub passed_here : (order : List Literal) (places : List ℕ) (es : List Entry) (m : ℕ) → m ≡ level_of es → ArePassed order es places → HasPassed order (get_or places m 0) es
passed_here order places es m is p =
    let P : List Entry → Type 0 = λ us. HasPassed order (get_or places m 0) us in
    subst P (upto_level_all m es (omega arith)) (p m (omega arith))

passed_jump : (order : List Literal) (places : List ℕ) (es : List Entry) (n : ℕ) (e : Entry) → is_decision e ≡ false → n < level_of es → ArePassed order es places
    → ArePassed order (upto_level n es ++ e ∷ []) places
passed_jump order places es n e forced h p =
    let kept : List Entry = upto_level n es in
    let level : level_of kept ≡ n = level_of-upto_level n es (omega arith) in
    let push = level-push kept e in
    let none : cond {A = ℕ} (is_decision e) 1 0 ≡ 0 = ap (λ (b : Bool). cond {A = ℕ} b 1 0) forced in
    λ m lt.
    (let P : List Entry → Type 0 = λ us. HasPassed order (get_or places m 0) us in
    elim (cases_lt m n) [
      | inl below ↦ (let same : upto_level m (kept ++ e ∷ []) ≡ upto_level m es = upto_level-append m kept (e ∷ []) (omega arith) ∙ upto_level_twice m n es (omega arith) in
          subst P (sym same) (p m (omega arith)))
      | inr ge ↦ (let q : m ≡ n = omega arith in
          let here : HasPassed order (get_or places m 0) kept = subst P (ap (λ (k : ℕ). upto_level k es) q) (p m (omega arith)) in
          let whole : upto_level m (kept ++ e ∷ []) ≡ kept ++ e ∷ [] = upto_level_all m (kept ++ e ∷ []) (omega arith) in
          subst P (sym whole) (passed_more order (get_or places m 0) kept (kept ++ e ∷ []) (goes_push kept e) here))
    ])

pub passed_learns : (live after : List Live) (held held_after : List Attached) (order : List Literal) (places : List ℕ) (es es_after : List Entry) (log log_after : LogValue) (id : ConId)
    → Learns live after held held_after es es_after log log_after id → 0 < level_of es → ArePassed order es places → ArePassed order es_after places
passed_learns live after held held_after order places es es_after log log_after id r h p =
    let e : Entry = record { lit = r.lit; reason = Some r.clause.id } in
    let below = back_below es r.clause.constraint.terms r.back r.level_below h in
    let P : List Entry → Type 0 = λ us. ArePassed order us places in
    subst P (sym r.pushed) (passed_jump order places es r.back e refl below p)
