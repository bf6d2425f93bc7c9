-- What two lists of attached constraints have together.
use Rattle.std.proofs.Common.{◌≡◌, ◌≢◌, ◌⊎◌, Option, Some, None, List, [], ◌∷◌, ◌++◌, get_or, refl, sym, ap, ◌∙◌, subst, inl, inr, arith}
use Rattle.std.proofs.lemmas.Bool.{cases_eq}
use Rattle.std.proofs.lemmas.Bool.Decides.{nat_tests}
use Rattle.pb_constraints.specs.declared.ConId.{ConId}
use Rattle.pb_rules.specs.Linear.{Linear}
use Rattle.trail_state.specs.Trail.{Entry}
use Rattle.propagate.specs.Attached.{Attached, attached_at, ChangesOnly, Drops, IsMoved}
use Rattle.propagate.specs.Forced.{Appends, IsConflict, AllClosed}
use Rattle.propagate.specs.Propagator.{AreApart}
use Rattle.propagate.proofs.Appending.{Appends-wider}
use Rattle.propagate.proofs.Dropping.{among, drops_gone}
use Rattle.propagate.proofs.Attaching.{same_id}
use Rattle.propagate.proofs.Ready.{reached}
use Rattle.constraint_store.specs.Live.{new_id}

-- what the first has under an id, both have
pub at_first : (xs ys : List Attached) (c : ConId) (k : Linear) → attached_at xs c ≡ Some k → attached_at (xs ++ ys) c ≡ Some k
at_first [] ys c k h = absurd (cc)
at_first (x ∷ xs) ys c k h = elim (cases_eq x.id.0 c.0) [
  | inl q ↦ grind (arith, nat_tests)
  | inr n ↦ (
      let h' : attached_at xs c ≡ Some k = grind (arith, nat_tests) in
      let ih = at_first xs ys c k h' in
      grind (arith, nat_tests))
]

-- where the first has nothing under an id, both have what the second has
at_second : (xs ys : List Attached) (c : ConId) → attached_at xs c ≡ None → attached_at (xs ++ ys) c ≡ attached_at ys c
at_second [] ys c h = refl
at_second (x ∷ xs) ys c h = elim (cases_eq x.id.0 c.0) [
  | inl q ↦ absurd (let v : attached_at (x ∷ xs) c ≡ Some x.constraint = grind (arith, nat_tests) in cc)
  | inr n ↦ (
      let h' : attached_at xs c ≡ None = grind (arith, nat_tests) in
      let ih = at_second xs ys c h' in
      grind (arith, nat_tests))
]

at_same_first : (xs ys us vs : List Attached) (c d : ConId) (o : Option Linear) → attached_at xs c ≡ o → attached_at us d ≡ o → attached_at ys c ≡ attached_at vs d
    → attached_at (xs ++ ys) c ≡ attached_at (us ++ vs) d
at_same_first xs ys us vs c d None h k e = at_second xs ys c h ∙ e ∙ sym (at_second us vs d k)
at_same_first xs ys us vs c d (Some l) h k e = at_first xs ys c l h ∙ sym (at_first us vs d l k)

-- what is the same in each of them is the same in both
at_same : (xs ys us vs : List Attached) (c d : ConId) → attached_at xs c ≡ attached_at us d → attached_at ys c ≡ attached_at vs d
    → attached_at (xs ++ ys) c ≡ attached_at (us ++ vs) d
at_same xs ys us vs c d e f = at_same_first xs ys us vs c d (attached_at us d) e refl f

at_none : (xs ys : List Attached) (c : ConId) → attached_at xs c ≡ None → attached_at ys c ≡ None → attached_at (xs ++ ys) c ≡ None
at_none xs ys c h k = at_second xs ys c h ∙ k

-- one of them has what both have
at_either : (xs ys : List Attached) (c : ConId) (k : Linear) → attached_at (xs ++ ys) c ≡ Some k → (attached_at xs c ≡ Some k) ⊎ (attached_at ys c ≡ Some k)
at_either xs ys c k h = at (attached_at xs c) refl
  where
    at : (o : Option Linear) → attached_at xs c ≡ o → (attached_at xs c ≡ Some k) ⊎ (attached_at ys c ≡ Some k)
    at None e = inr (sym (at_second xs ys c e) ∙ h)
    at (Some l) e = inl (e ∙ sym (at_first xs ys c l e) ∙ h)

-- what the second has, both have where they are apart
pub at_apart : (xs ys : List Attached) (c : ConId) (k : Linear) → AreApart xs ys → attached_at ys c ≡ Some k → attached_at (xs ++ ys) c ≡ Some k
at_apart xs ys c k apart h = elim (apart c) [
  | inl n ↦ at_second xs ys c n ∙ h
  | inr n ↦ absurd (cc)
]

-- what changes in the first alone, does in both
pub changes_first : (xs us ys : List Attached) (c : ConId) (o : Option Linear) → attached_at ys c ≡ None → ChangesOnly xs us c o → ChangesOnly (xs ++ ys) (us ++ ys) c o
changes_first xs us ys c o none e = record { here = here o e.here; others = λ d n. at_same us ys xs ys d d (e.others d n) refl }
  where
    here : (o : Option Linear) → attached_at us c ≡ o → attached_at (us ++ ys) c ≡ o
    here None h = at_none us ys c h none
    here (Some k) h = at_first us ys c k h

-- and in the second alone
pub changes_second : (xs ys vs : List Attached) (c : ConId) (o : Option Linear) → attached_at xs c ≡ None → ChangesOnly ys vs c o → ChangesOnly (xs ++ ys) (xs ++ vs) c o
changes_second xs ys vs c o none e = record { here = at_second xs vs c none ∙ e.here; others = λ d n. at_same xs vs xs ys d d refl (e.others d n) }

-- what is taken out of each is taken out of both
pub changes_both : (xs us ys vs : List Attached) (c : ConId) → ChangesOnly xs us c None → ChangesOnly ys vs c None → ChangesOnly (xs ++ ys) (us ++ vs) c None
changes_both xs us ys vs c e f = record { here = at_none us vs c e.here f.here; others = λ d n. at_same us vs xs ys d d (e.others d n) (f.others d n) }

-- and so are many
pub drops_both : (ids : List ConId) (xs us ys vs : List Attached) → Drops ids xs us → Drops ids ys vs → Drops ids (xs ++ ys) (us ++ vs)
drops_both ids xs us ys vs e f = record {
  gone = λ k d h. at_none us vs (get_or ids k d) (e.gone k d h) (f.gone k d h);
  others = λ d n. at_same us vs xs ys d d (e.others d n) (f.others d n);
}

-- what moves in each, does in both
pub moved_both : (to : ConId → Option ConId) (xs us ys vs : List Attached) → IsMoved to xs us → IsMoved to ys vs → IsMoved to (xs ++ ys) (us ++ vs)
moved_both to xs us ys vs e f = record {
  there = λ c d h. at_same us vs xs ys d c (e.there c d h) (f.there c d h);
  others = λ d n. at_none us vs d (e.others d n) (f.others d n);
}

-- what the first forces, both do
pub appends_first : (xs ys : List Attached) (old new : List Entry) → Appends xs old new → Appends (xs ++ ys) old new
appends_first xs ys old new a = Appends-wider xs (xs ++ ys) old new (at_first xs ys) a

-- and the second, where they are apart
pub appends_second : (xs ys : List Attached) (old new : List Entry) → AreApart xs ys → Appends ys old new → Appends (xs ++ ys) old new
appends_second xs ys old new apart a = Appends-wider ys (xs ++ ys) old new (λ c k h. at_apart xs ys c k apart h) a

-- a conflict with the first is one with both
pub conflict_first : (xs ys : List Attached) (es : List Entry) (c : ConId) → IsConflict xs es c → IsConflict (xs ++ ys) es c
conflict_first xs ys es c h = record { constraint = h.constraint; attached = at_first xs ys c h.constraint h.attached; conflict = h.conflict }

-- and so is one with the second, where they are apart
pub conflict_second : (xs ys : List Attached) (es : List Entry) (c : ConId) → AreApart xs ys → IsConflict ys es c → IsConflict (xs ++ ys) es c
conflict_second xs ys es c apart h = record { constraint = h.constraint; attached = at_apart xs ys c h.constraint apart h.attached; conflict = h.conflict }

-- where each is closed, both are
pub closed_both : (xs ys : List Attached) (es : List Entry) → AllClosed xs es → AllClosed ys es → AllClosed (xs ++ ys) es
closed_both xs ys es f g c k h = elim (at_either xs ys c k h) [
  | inl e ↦ f c k e
  | inr e ↦ g c k e
]

-- they stay apart where what is attached under an id is so in one of them alone
pub apart_changed : (xs us ys vs : List Attached) (c : ConId) → AreApart xs ys → ((d : ConId) → d ≢ c → attached_at us d ≡ attached_at xs d)
    → ((d : ConId) → d ≢ c → attached_at vs d ≡ attached_at ys d) → (attached_at us c ≡ None) ⊎ (attached_at vs c ≡ None) → AreApart us vs
apart_changed xs us ys vs c apart e f here d = elim (cases_eq d.0 c.0) [
  | inl q ↦ (
      let P : ConId → Type 0 = λ b. (attached_at us b ≡ None) ⊎ (attached_at vs b ≡ None) in
      subst P (sym (same_id d c q)) here)
  | inr n ↦ (
      let n' : d ≢ c = λ z. n (ap (λ (b : ConId). b.0) z) in
      elim (apart d) [
        | inl h ↦ inl (e d n' ∙ h)
        | inr h ↦ inr (f d n' ∙ h)
      ])
]

-- and where some are taken out of each
pub apart_dropped : (ids : List ConId) (xs us ys vs : List Attached) → AreApart xs ys → Drops ids xs us → Drops ids ys vs → AreApart us vs
apart_dropped ids xs us ys vs apart e f d = elim (among ids d) [
  | inl w ↦ inl (drops_gone ids xs us d e w)
  | inr n ↦ elim (apart d) [
    | inl h ↦ inl (e.others d n ∙ h)
    | inr h ↦ inr (f.others d n ∙ h)
  ]
]

-- or ids change
pub apart_moved : (ids : List (Option ConId)) (xs us ys vs : List Attached) → AreApart xs ys → IsMoved (new_id ids) xs us → IsMoved (new_id ids) ys vs → AreApart us vs
apart_moved ids xs us ys vs apart e f d = elim (reached ids d) [
  | inl w ↦ (
      let c : ConId = record { 0 = w.0 } in
      elim (apart c) [
        | inl h ↦ inl (e.there c d w.1 ∙ h)
        | inr h ↦ inr (f.there c d w.1 ∙ h)
      ])
  | inr n ↦ inl (e.others d (λ c. n c.0))
]
