-- Constraints that are detached first and then removed.
use Rattle.std.proofs.Common.{◌≡◌, ◌≢◌, ℕ, ◌+◌, ◌-◌, Bool, not, eqb, min, None, List, [], ◌∷◌, ◌++◌, length, get_or, take, refl, sym, ap, ◌∙◌, subst, arith, inl, inr, ◌⊎◌, zero, suc, add-one}
use Rattle.std.specs.Prelude.{All, Contains}
use Rattle.std.proofs.lemmas.Bool.{false≢true, eq-eqb}
use Rattle.std.proofs.lemmas.List.Elements.{All-head, All-tail, All-append, All-filter, filter_passes}
use Rattle.std.proofs.lemmas.List.{take_min, get_or_append_left, length-append}
use Rattle.std.proofs.lemmas.Map.Made.{Contains-tail}
use Rattle.plain_lists.proofs.Joined.{All-right}
use Rattle.pb_constraints.specs.declared.ConId.{ConId}
use Rattle.constraint_store.specs.Live.{Live, without}
use Rattle.trail_state.specs.Trail.{TrailView}
use Rattle.propagate.specs.Attached.{Attached, attached_at, Drops}
use Rattle.propagate.specs.Propagator.{PropagatorView, IsCounted}
use Rattle.propagate.proofs.Dropping.{among, drops_gone}
use Rattle.propagate.proofs.Ready.{ready_drop, ready_free}
use Rattle.ordered_solver.specs.Engines.{IsAttached, IsInRange, IsLoaded, AreLeaving}

-- all of them were detached
pub leaving_all : (live : List Live) (p q : PropagatorView) (t : TrailView) (ids : List ConId) → IsLoaded live p t → Drops ids p.attached q.attached → q.variables ≡ p.variables → IsCounted q t
    → AreLeaving live q t ids
leaving_all live p q t ids l drops variables counted = record {
  ready = ready_drop p q live t ids l.ready drops variables counted;
  gone = drops.gone;
  attached = λ k d h. elim (among ids (get_or live k d).id) [
    | inl w ↦ inl w
    | inr n ↦ inr (drops.others (get_or live k d).id n ∙ l.attached k d h)
  ];
  in_range = l.in_range;
}

-- some were detached, and then others
drops_both : (ids others : List ConId) (old mid new : List Attached) → Drops ids old mid → Drops others mid new → Drops (ids ++ others) old new
drops_both ids others old mid new p q =
    let G : ConId → Type 0 = λ c. attached_at new c ≡ None in
    record {
      gone = All-append G ids others (λ k c h. stays (get_or ids k c) (p.gone k c h)) q.gone;
      others = λ d n.
          (q.others d (All-right (λ (c : ConId). c ≢ d) ids others n) ∙ p.others d (front d n));
    }
  where
    front : (d : ConId) → All (λ (c : ConId). c ≢ d) (ids ++ others) → All (λ (c : ConId). c ≢ d) ids
    front d n k c h =
        let N : ConId → Type 0 = λ x. x ≢ d in
        let len = length-append ids others in
        subst N (get_or_append_left ids others c k h) (n k c (omega (arith, len)))

    stays : (c : ConId) → attached_at mid c ≡ None → attached_at new c ≡ None
    stays c g = elim (among others c) [
      | inl w ↦ drops_gone others mid new c q w
      | inr n ↦ (q.others c n ∙ g)
    ]

take_parts : (n : ℕ) (xs ys : List ConId) → take n (xs ++ ys) ≡ take n xs ++ take (n - length xs) ys
take_parts zero [] ys = refl
take_parts (suc n) [] ys = (let e : suc n ≡ suc n - 0 = omega arith in ap (λ (m : ℕ). take m ys) e)
take_parts zero (x ∷ xs) ys = (let e : 0 ≡ 0 - length (x ∷ xs) = omega arith in ap (λ (m : ℕ). take m ys) e)
take_parts (suc n) (x ∷ xs) ys =
    let e : n - length xs ≡ suc n - length (x ∷ xs) = omega arith in
    ap (λ (us : List ConId). x ∷ us) (take_parts n xs ys ∙ ap (λ (m : ℕ). take n xs ++ take m ys) e)

-- the first ids of a list that stands in two parts
pub drops_parts : (front back all : List ConId) (many first : ℕ) (old mid new : List Attached) → front ++ back ≡ all → first ≡ min many (length front) → Drops (take first front) old mid
    → Drops (take (many - first) back) mid new → Drops (take many all) old new
drops_parts front back all many first old mid new is e p q =
    let F : List ConId → Type 0 = λ us. Drops us old mid in
    let B : ℕ → Type 0 = λ n. Drops (take n back) mid new in
    let A : List ConId → Type 0 = λ us. Drops us old new in
    let p' : Drops (take many front) old mid = subst F (ap (λ (n : ℕ). take n front) e ∙ take_min many front) p in
    let q' : Drops (take (many - length front) back) mid new = subst B (omega arith) q in
    subst A (sym (take_parts many front back) ∙ ap (take many) is) (drops_both (take many front) (take (many - length front) back) old mid new p' q')

-- one was removed
pub leaving_fewer : (live after : List Live) (p : PropagatorView) (t : TrailView) (id : ConId) (ids : List ConId) → after ≡ without id live → AreLeaving live p t (id ∷ ids) → AreLeaving after p t ids
leaving_fewer live after p t id ids e l =
    let test : Live → Bool = λ x. not (eqb x.id.0 id.0) in
    let G : ConId → Type 0 = λ c. attached_at p.attached c ≡ None in
    let E : Live → Type 0 = λ x. Contains (id ∷ ids) x.id ⊎ IsAttached p.attached x in
    let A : List Live → Type 0 = λ ls. AreLeaving ls p t ids in
    subst A (sym e) (record {
      ready = ready_free p live t id l.ready (All-head G id ids l.gone);
      gone = All-tail G id ids l.gone;
      attached = λ k d h.
          (let x = get_or (without id live) k d in
          let other : x.id ≢ id = λ z. false≢true (sym (ap (λ (i : ConId). not (eqb i.0 id.0)) z ∙ ap not (eq-eqb id.0 id.0 refl)) ∙ filter_passes test live k d h) in
          still x other (All-filter test E live l.attached k d h));
      in_range = All-filter test (IsInRange t.variables) live l.in_range;
    })
  where
    still : (x : Live) → x.id ≢ id → Contains (id ∷ ids) x.id ⊎ IsAttached p.attached x → Contains ids x.id ⊎ IsAttached p.attached x
    still x n (inl w) = inl (Contains-tail id ids x.id (λ z. n (sym z)) w)
    still x n (inr a) = inr a

-- the first of a list that leaves
pub leaving_first : (live after : List Live) (p : PropagatorView) (t : TrailView) (all : List ConId) (id : ConId) (ids : List ConId) (n : ℕ) → all ≡ id ∷ ids → after ≡ without id live
    → AreLeaving live p t (take (n + 1) all) → AreLeaving after p t (take n ids)
leaving_first live after p t all id ids n is e l =
    let A : List ConId → Type 0 = λ us. AreLeaving live p t us in
    let first : take (n + 1) all ≡ id ∷ take n ids = ap (λ (m : ℕ). take m all) (add-one n) ∙ ap (λ (us : List ConId). take (suc n) us) is in
    leaving_fewer live after p t id (take n ids) e (subst A first l)
