-- The conditions of `attach` and `run` are kept by each of the calls on propagator, store and trail.
use Rattle.std.proofs.Common.{◌≡◌, ◌≢◌, ℕ, Bool, true, cond, eqb, Option, Some, None, List, [], ◌∷◌, ◌++◌, get_or, zero, suc, refl, sym, ap, ◌∙◌, subst, inl, inr, ◌⊎◌, IsTrue, length, take, map, arith}
use Rattle.std.proofs.lemmas.Bool.{cases_eq, cases_lt}
use Rattle.std.proofs.lemmas.List.{take-map, take-take}
use Rattle.std.proofs.lemmas.Option.{same_Some}
use Rattle.pb_constraints.specs.declared.ConId.{ConId}
use Rattle.pb_rules.specs.Literal.{Literal}
use Rattle.pb_rules.specs.Linear.{Linear}
use Rattle.constraint_store.specs.Live.{Live, is_live, constraint_of, without, Content, new_id, IsOneToOne, IsRenaming}
use Rattle.constraint_store.proofs.Laws.{is_live_added, live_at_added, live_at_removed, live_at_renamed}
use Rattle.trail_state.specs.Trail.{Entry, TrailView}
use Rattle.propagate.specs.Attached.{Attached, attached_at, ChangesOnly, Drops, IsMoved}
use Rattle.propagate.specs.Propagator.{PropagatorView, IsCounted, IsAlong, IsReady}
use Rattle.propagate.proofs.Dropping.{among, drops_gone}
use Rattle.propagate.proofs.Attaching.{same_id}

abbrev other_number : (c d : ConId) → d.0 ≢ c.0 → d ≢ c
other_number c d n z = n (ap (λ (b : ConId). b.0) z)

-- after attaching a constraint of the store
pub ready_attach : (p q : PropagatorView) (store : List Live) (t : TrailView) (c : ConId) → IsReady p store t → IsTrue (is_live store c)
    → ChangesOnly p.attached q.attached c (Some (constraint_of store c)) → q.variables ≡ p.variables → IsCounted q t → IsReady q store t
ready_attach p q store t c r live change variables counted = record {
  variables = variables ∙ r.variables;
  live = λ d k h. elim (cases_eq d.0 c.0) [
    | inl e ↦ (let P : ConId → Type 0 = λ b. IsTrue (is_live store b) in subst P (sym (same_id d c e)) live)
    | inr n ↦ r.live d k (sym (change.others d (other_number c d n)) ∙ h)
  ];
  stored = λ d k h. elim (cases_eq d.0 c.0) [
    | inl e ↦ (let a : attached_at q.attached d ≡ Some (constraint_of store c) = ap (attached_at q.attached) (same_id d c e) ∙ change.here in
        ap (constraint_of store) (same_id d c e) ∙ same_Some (constraint_of store c) k (sym a ∙ h))
    | inr n ↦ r.stored d k (sym (change.others d (other_number c d n)) ∙ h)
  ];
  counted = counted;
}

-- over another trail of as many variables that goes on from the counted literals, as after `run` or `back`
pub ready_trail : (p q : PropagatorView) (store : List Live) (t u : TrailView) → IsReady p store t → q.attached ≡ p.attached → q.variables ≡ p.variables → u.variables ≡ t.variables → IsCounted q u
    → IsReady q store u
ready_trail p q store t u r attached variables same counted = record {
  variables = variables ∙ r.variables ∙ sym same;
  live = λ c k h. r.live c k (ap (λ (held : List Attached). attached_at held c) (sym attached) ∙ h);
  stored = λ c k h. r.stored c k (ap (λ (held : List Attached). attached_at held c) (sym attached) ∙ h);
  counted = counted;
}

-- after literals were taken off from the end, `back` can be called
pub along_kept : (p : PropagatorView) (t u : TrailView) → IsCounted p t → take (length u.entries) t.entries ≡ u.entries → IsAlong p u
along_kept p t u counted kept =
    let lit : Entry → Literal = λ e. e.lit in
    let n = length p.counted in
    let m = length u.entries in
    let ls : List Literal = map lit t.entries in
    let left : take m ls ≡ map lit u.entries = take-map lit m t.entries ∙ ap (λ (es : List Entry). map lit es) kept in
    elim (cases_lt m n) [
      | inl lt ↦ inr (ap (take m) (sym counted) ∙ take-take m n ls (omega arith) ∙ left)
      | inr le ↦ inl (ap (take n) (sym left) ∙ take-take n m ls le ∙ counted)
    ]

-- and where nothing is left
pub along_nothing : (p : PropagatorView) (u : TrailView) → u.entries ≡ [] → IsAlong p u
along_nothing p u e =
    let P : List Entry → Type 0 = λ es. take (length es) p.counted ≡ map (λ (x : Entry). x.lit) es in
    inr (subst P (sym e) refl)

-- after one more constraint in the store
pub ready_add : (p : PropagatorView) (store : List Live) (t : TrailView) (e : Live) → IsReady p store t → IsReady p (store ++ e ∷ []) t
ready_add p store t e r = record {
  variables = r.variables;
  live = λ c k h. is_live_added store e c ∙ ap (λ (b : Bool). cond b true (eqb e.id.0 c.0)) (r.live c k h);
  stored = λ c k h. ap (λ (x : Live). x.constraint) (live_at_added store e c (r.live c k h)) ∙ r.stored c k h;
  counted = r.counted;
}

-- after a constraint was detached and then removed from the store
pub ready_remove : (p q : PropagatorView) (store : List Live) (t : TrailView) (c : ConId) → IsReady p store t → ChangesOnly p.attached q.attached c None → q.variables ≡ p.variables → IsCounted q t
    → IsReady q (without c store) t
ready_remove p q store t c r change variables counted = record {
  variables = variables ∙ r.variables;
  live = λ d k h. elim (cases_eq d.0 c.0) [
    | inl e ↦ absurd (gone d k h e)
    | inr n ↦ (live_at_removed store c d n).0 ∙ r.live d k (before d k h n)
  ];
  stored = λ d k h. elim (cases_eq d.0 c.0) [
    | inl e ↦ absurd (gone d k h e)
    | inr n ↦ ap (λ (x : Live). x.constraint) (live_at_removed store c d n).1 ∙ r.stored d k (before d k h n)
  ];
  counted = counted;
}
  where
    gone : (d : ConId) (k : Linear) → attached_at q.attached d ≡ Some k → d.0 ≡ c.0 → ⊥
    gone d k h e = (let none : attached_at q.attached d ≡ None = ap (attached_at q.attached) (same_id d c e) ∙ change.here in absurd (cc))

    before : (d : ConId) (k : Linear) → attached_at q.attached d ≡ Some k → d.0 ≢ c.0 → attached_at p.attached d ≡ Some k
    before d k h n = sym (change.others d (other_number c d n)) ∙ h

-- after a constraint that isn't attached was removed from the store
pub ready_free : (p : PropagatorView) (store : List Live) (t : TrailView) (c : ConId) → IsReady p store t → attached_at p.attached c ≡ None → IsReady p (without c store) t
ready_free p store t c r h = ready_remove p p store t c r (record { here = h; others = λ d n. refl }) refl r.counted

-- after constraints were detached
pub ready_drop : (p q : PropagatorView) (store : List Live) (t : TrailView) (ids : List ConId) → IsReady p store t → Drops ids p.attached q.attached → q.variables ≡ p.variables → IsCounted q t
    → IsReady q store t
ready_drop p q store t ids r drops variables counted = record {
  variables = variables ∙ r.variables;
  live = λ d k h. r.live d k (before d k h);
  stored = λ d k h. r.stored d k (before d k h);
  counted = counted;
}
  where
    before : (d : ConId) (k : Linear) → attached_at q.attached d ≡ Some k → attached_at p.attached d ≡ Some k
    before d k h = elim (among ids d) [
      | inl w ↦ (
          let gone : attached_at q.attached d ≡ None = drops_gone ids p.attached q.attached d drops w in
          absurd (cc))
      | inr n ↦ sym (drops.others d n) ∙ h
    ]

-- an id that one goes to, or that none goes to
pub reached : (ids : List (Option ConId)) (d : ConId) → ((n : ℕ) × (get_or ids n None ≡ Some d)) ⊎ ((n : ℕ) → get_or ids n None ≢ Some d)
reached [] d = inr (λ n h. cc)
reached (None ∷ ids) d = later (reached ids d)
  where
    none : ((n : ℕ) → get_or ids n None ≢ Some d) → (n : ℕ) → get_or (None ∷ ids) n None ≢ Some d
    none r zero = λ h. cc
    none r (suc n) = r n

    later : ((n : ℕ) × (get_or ids n None ≡ Some d)) ⊎ ((n : ℕ) → get_or ids n None ≢ Some d) → ((n : ℕ) × (get_or (None ∷ ids) n None ≡ Some d)) ⊎ ((n : ℕ) → get_or (None ∷ ids) n None ≢ Some d)
    later (inl r) = inl (suc r.0, r.1)
    later (inr r) = inr (none r)
reached (Some e ∷ ids) d = elim (cases_eq e.0 d.0) [
  | inl q ↦ inl (0, ap (λ (c : ConId). Some c) (same_id e d q))
  | inr q ↦ later q (reached ids d)
]
  where
    same : (x y : ConId) → Some x ≡ Some y → x ≡ y
    same x y h = cc

    none : e.0 ≢ d.0 → ((n : ℕ) → get_or ids n None ≢ Some d) → (n : ℕ) → get_or (Some e ∷ ids) n None ≢ Some d
    none q r zero = λ h. q (ap (λ (c : ConId). c.0) (same e d h))
    none q r (suc n) = r n

    later : e.0 ≢ d.0 → ((n : ℕ) × (get_or ids n None ≡ Some d)) ⊎ ((n : ℕ) → get_or ids n None ≢ Some d) → ((n : ℕ) × (get_or (Some e ∷ ids) n None ≡ Some d))
        ⊎ ((n : ℕ) → get_or (Some e ∷ ids) n None ≢ Some d)
    later q (inl r) = inl (suc r.0, r.1)
    later q (inr r) = inr (none q r)

-- after the store gave other ids and the propagator took them
pub ready_remap : (p q : PropagatorView) (old new : List Live) (ids : List (Option ConId)) (t : TrailView) → IsReady p old t → IsRenaming old new ids → IsOneToOne ids
    → IsMoved (new_id ids) p.attached q.attached → q.variables ≡ p.variables → IsCounted q t → IsReady q new t
ready_remap p q old new ids t r renaming one moved variables counted = record {
  variables = variables ∙ r.variables;
  live = λ d k h. (let w = from d k h in (live_at_renamed old new ids w.0 d renaming one w.1).0);
  stored = λ d k h.
      (let w = from d k h in
      ap (λ (x : Content). x.constraint) (live_at_renamed old new ids w.0 d renaming one w.1).1 ∙ r.stored w.0 k (sym (moved.there w.0 d w.1) ∙ h));
  counted = counted;
}
  where
    from : (d : ConId) (k : Linear) → attached_at q.attached d ≡ Some k → (c : ConId) × (new_id ids c ≡ Some d)
    from d k h = elim (reached ids d) [
      | inl w ↦ (record { 0 = w.0 }, w.1)
      | inr w ↦ absurd (let none : attached_at q.attached d ≡ None = moved.others d (λ c. w c.0) in absurd (cc))
    ]
