-- The trail stays one of an ordered search: after propagation, a decision, a jump back, and with more attached.
use Rattle.std.proofs.Common.{◌≡◌, ℕ, ◌+◌, ◌<◌, ◌≤◌, false, cond, Option, Some, None, List, [], ◌∷◌, ◌++◌, length, get_or, take, drop, refl, sym, ap, ◌∙◌, subst, arith, suc, inl, inr, ◌⊎◌, length-drop}
use Rattle.std.specs.Prelude.{is_none}
use Rattle.std.proofs.lemmas.Bool.{cases_eq, cases_lt}
use Rattle.std.proofs.lemmas.List.{take-append-le, take-append-drop, take-take, get_or_append_left, get_or_push, get_or-take, get_or-drop, take_all, length_push, length-take}
use Rattle.std.proofs.lemmas.List.Sums.{sum_by-append}
use Rattle.pb_constraints.specs.declared.ConId.{ConId}
use Rattle.pb_rules.specs.Literal.{Literal}
use Rattle.pb_rules.specs.Linear.{Linear}
use Rattle.pb_rules.specs.Partial.{Forces}
use Rattle.trail_state.specs.Trail.{Entry, value_in, level_of, is_decision, upto_level}
use Rattle.trail_state.proofs.Levels.{level-cons, level-push, upto_level-append, upto_level-push, upto_level_all, upto_level-take, upto_level_twice, level_of-upto_level}
use Rattle.propagate.specs.Attached.{Attached, attached_at}
use Rattle.propagate.specs.Forced.{IsForcedAt, Appends, AllClosed}
use Rattle.ordered_solver.specs.Trails.{IsNext, IsDecidedAt, IsSearch, IsOrdered, GoesOnFrom}

abbrev Stands : List Attached → List Literal → List Entry → ℕ → Entry → Type 0
Stands held order es k e = IsForcedAt held es k e ⊎ IsDecidedAt order es k e

-- an entry stands in another list with the same entries before it
stands_more : (held : List Attached) (order : List Literal) (es fs : List Entry) (k : ℕ) (d e : Entry) → take k fs ≡ take k es → d ≡ e → Stands held order es k d → Stands held order fs k e
stands_more held order es fs k d e t q h =
    let E : Entry → Type 0 = λ g. Stands held order fs k g in
    subst E q (elim h [
      | inl f ↦ (let P : List Entry → Type 0 = λ gs. Forces (value_in gs) f.constraint d.lit in
          inl (record { reason = f.reason; there = f.there; constraint = f.constraint; attached = f.attached; forces = subst P (sym t) f.forces }))
      | inr g ↦ (let P : List Entry → Type 0 = λ gs. IsNext order gs d.lit in
          inr (record { no_reason = g.no_reason; next = subst P (sym t) g.next }))
    ])

search_appends : (held : List Attached) (order : List Literal) (old new : List Entry) → IsSearch held order old → Appends held old new → IsSearch held order new
search_appends held order old new s a = λ k d h. elim (cases_lt k (length old)) [
  | inl l ↦ (let t : take k new ≡ take k old = sym (take-take k (length old) new (omega arith)) ∙ ap (take k) a.kept in
      let g : get_or new k d ≡ get_or old k d = sym (get_or-take (length old) new k d l) ∙ ap (λ (es : List Entry). get_or es k d) a.kept in
      stands_more held order old new k (get_or old k d) (get_or new k d) t (sym g) (s k d l))
  | inr ge ↦ inl (a.forced k d ge h)
]

search_push : (held : List Attached) (order : List Literal) (es : List Entry) (e : Entry) → IsSearch held order es → Stands held order es (length es) e → IsSearch held order (es ++ e ∷ [])
search_push held order es e s f =
    let len = length_push es e in
    λ k d h. elim (cases_eq k (length es)) [
      | inl q ↦ (let t : take k (es ++ e ∷ []) ≡ take k es = take-append-le k es (e ∷ []) (omega arith) in
          let g : get_or (es ++ e ∷ []) k d ≡ e = get_or_push es e d k (sym q) in
          let P : ℕ → Type 0 = λ m. Stands held order es m e in
          stands_more held order es (es ++ e ∷ []) k e (get_or (es ++ e ∷ []) k d) t (sym g) (subst P (sym q) f))
      | inr n ↦ (let lt : k < length es = omega arith in
          let t : take k (es ++ e ∷ []) ≡ take k es = take-append-le k es (e ∷ []) (omega arith) in
          let g : get_or (es ++ e ∷ []) k d ≡ get_or es k d = get_or_append_left es (e ∷ []) d k lt in
          stands_more held order es (es ++ e ∷ []) k (get_or es k d) (get_or (es ++ e ∷ []) k d) t (sym g) (s k d lt))
    ]

search_take : (held : List Attached) (order : List Literal) (es : List Entry) (m : ℕ) → m ≤ length es → IsSearch held order es → IsSearch held order (take m es)
search_take held order es m l s =
    let len = length-take m es in
    λ k d h.
    (let lt : k < m = omega arith in
    let t : take k (take m es) ≡ take k es = take-take k m es (omega arith) in
    let g : get_or (take m es) k d ≡ get_or es k d = get_or-take m es k d lt in
    stands_more held order es (take m es) k (get_or es k d) (get_or (take m es) k d) t (sym g) (s k d (omega arith)))

-- whatever is attached in one list is so in the other
abbrev pub IsWider : List Attached → List Attached → Type 0
IsWider held bs = (c : ConId) (k : Linear) → attached_at held c ≡ Some k → attached_at bs c ≡ Some k

search_wider : (held bs : List Attached) (order : List Literal) (es : List Entry) → IsWider held bs → IsSearch held order es → IsSearch bs order es
search_wider held bs order es w s = λ k d h. elim (s k d h) [
  | inl f ↦ inl (record { reason = f.reason; there = f.there; constraint = f.constraint; attached = w f.reason f.constraint f.attached; forces = f.forces })
  | inr g ↦ inr g
]

pub next_stands : (order : List Literal) (es : List Entry) (l : Literal) → IsNext order es l → IsDecidedAt order es (length es) (record { lit = l; reason = None })
next_stands order es l n =
    let all : take (length es) es ≡ es = take_all (length es) es (omega arith) in
    let P : List Entry → Type 0 = λ gs. IsNext order gs l in
    record { no_reason = refl; next = subst P (sym all) n }

-- forced literals stand on the level before them
level_none : (es : List Entry) → ((k : ℕ) (d : Entry) → k < length es → is_decision (get_or es k d) ≡ false) → level_of es ≡ 0
level_none [] h = refl
level_none (e ∷ es) h =
    let c = level-cons e es in
    let here : cond {A = ℕ} (is_decision e) 1 0 ≡ 0 = ap (λ b. cond {A = ℕ} b 1 0) (h 0 e (omega arith)) in
    let ih = level_none es (λ k d l. h (suc k) d (omega arith)) in
    omega arith

pub goes_split : (old new : List Entry) → take (length old) new ≡ old → new ≡ old ++ drop (length old) new
goes_split old new kept = sym (take-append-drop (length old) new) ∙ ap (λ (es : List Entry). es ++ drop (length old) new) kept

pub level-appends : (held : List Attached) (old new : List Entry) → Appends held old new → level_of new ≡ level_of old
level-appends held old new a =
    let rest : List Entry = drop (length old) new in
    let len = length-drop (length old) new in
    let none = level_none rest (λ k d l.
    (let f = a.forced (length old + k) d (omega arith) (omega arith) in
    let at : get_or rest k d ≡ get_or new (length old + k) d = get_or-drop (length old) new k d in
    ap (λ (e : Entry). is_decision e) at ∙ ap (λ (o : Option ConId). is_none o) f.there)) in
    let sum : level_of (old ++ rest) ≡ level_of old + level_of rest = sum_by-append (λ (e : Entry). cond (is_decision e) 1 0) old rest in
    let whole = ap level_of (goes_split old new a.kept) in
    omega arith

pub ordered_appends : (held : List Attached) (order : List Literal) (old new : List Entry) → IsOrdered held order old → Appends held old new → IsOrdered held order new
ordered_appends held order old new o a =
    let level = level-appends held old new a in
    record {
      search = search_appends held order old new o.search a;
      closed_below = λ n h.
          (let lt : n < level_of old = omega arith in
          let same : upto_level n new ≡ upto_level n old = ap (upto_level n) (goes_split old new a.kept) ∙ upto_level-append n old (drop (length old) new) lt in
          let P : List Entry → Type 0 = λ es. AllClosed held es in
          subst P (sym same) (o.closed_below n lt));
    }

pub ordered_decide : (held : List Attached) (order : List Literal) (es : List Entry) (l : Literal) → IsOrdered held order es → AllClosed held es → IsNext order es l
    → IsOrdered held order (es ++ record { lit = l; reason = None } ∷ [])
ordered_decide held order es l o closed next =
    let e : Entry = record { lit = l; reason = None } in
    let level : level_of (es ++ e ∷ []) ≡ level_of es + 1 = level-push es e in
    record {
      search = search_push held order es e o.search (inr (next_stands order es l next));
      closed_below = λ n h.
          (let P : List Entry → Type 0 = λ us. AllClosed held us in
          let same : upto_level n (es ++ e ∷ []) ≡ upto_level n es = upto_level-push n es e h in
          elim (cases_lt n (level_of es)) [
            | inl lt ↦ subst P (sym same) (o.closed_below n lt)
            | inr ge ↦ subst P (sym (same ∙ upto_level_all n es ge)) closed
          ]);
    }

-- after a jump back below the current level, with more attached, what is forced there pushed
pub ordered_jump : (held bs : List Attached) (order : List Literal) (es : List Entry) (n : ℕ) (e : Entry) → n < level_of es → IsWider held bs → ((m : ℕ) → m < n → AllClosed bs (upto_level m es))
    → IsForcedAt bs (upto_level n es) (length (upto_level n es)) e → IsOrdered held order es → IsOrdered bs order (upto_level n es ++ e ∷ [])
ordered_jump held bs order es n e h wider closed f o =
    let kept : List Entry = upto_level n es in
    let len = length-take (length kept) es in
    let front : take (length kept) es ≡ kept = upto_level-take n es in
    let len' = ap length front in
    let P : List Entry → Type 0 = λ fs. IsSearch bs order fs in
    let s : IsSearch bs order kept = subst P front (search_take bs order es (length kept) (omega arith) (search_wider held bs order es wider o.search)) in
    let level : level_of kept ≡ n = level_of-upto_level n es (omega arith) in
    let push = level-push kept e in
    let forced : cond {A = ℕ} (is_decision e) 1 0 ≡ 0 = ap (λ (r : Option ConId). cond {A = ℕ} (is_none r) 1 0) f.there in
    record {
      search = search_push bs order kept e s (inl f);
      closed_below = λ m lt.
          (let below : m < n = omega arith in
          let same : upto_level m (kept ++ e ∷ []) ≡ upto_level m es = upto_level-append m kept (e ∷ []) (omega arith) ∙ upto_level_twice m n es (omega arith) in
          let Q : List Entry → Type 0 = λ us. AllClosed bs us in
          subst Q (sym same) (closed m below));
    }

pub goes_trans : (a b c : List Entry) → GoesOnFrom a b → GoesOnFrom b c → GoesOnFrom a c
goes_trans a b c p q =
    let l1 = p.longer in let l2 = q.longer in
    record { longer = omega arith; kept = sym (take-take (length a) (length b) c l1) ∙ ap (take (length a)) q.kept ∙ p.kept }

pub goes_push : (es : List Entry) (e : Entry) → GoesOnFrom es (es ++ e ∷ [])
goes_push es e =
    let len = length_push es e in
    record { longer = omega arith; kept = take-append-le (length es) es (e ∷ []) (omega arith) ∙ take_all (length es) es (omega arith) }

pub goes_appends : (held : List Attached) (a b : List Entry) → Appends held a b → GoesOnFrom a b
goes_appends held a b p = record { longer = p.longer; kept = p.kept }
