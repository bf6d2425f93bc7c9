-- Store, propagator and trail stay together: after one more constraint, after its removal, and over another trail.
use Rattle.std.proofs.Common.{◌≡◌, ◌≢◌, ℕ, ◌<◌, Bool, true, false, cond, eqb, Option, Some, None, List, [], ◌∷◌, ◌++◌, length, get_or, take, drop, map, refl, sym, ap, ◌∙◌, subst, arith, zero, suc}
use Rattle.std.specs.Prelude.{All, is_some, IfNone}
use Rattle.std.proofs.lemmas.Bool.{false≢true, eq-eqb}
use Rattle.std.proofs.lemmas.List.{take-append-le, take-append-drop, length-take, map-append}
use Rattle.std.proofs.lemmas.List.Elements.{All-push}
use Rattle.pb_constraints.specs.declared.ConId.{ConId}
use Rattle.pb_rules.specs.Literal.{Literal}
use Rattle.pb_rules.specs.Linear.{Linear, VarsBelow}
use Rattle.constraint_store.specs.Live.{Live, is_live, live_at, constraint_of, without}
use Rattle.constraint_store.proofs.Laws.{is_live_added, live_at_new}
use Rattle.trail_state.specs.Trail.{Entry, TrailView}
use Rattle.propagate.specs.Attached.{Attached, ChangesOnly}
use Rattle.propagate.specs.Propagator.{PropagatorView, IsCounted}
use Rattle.propagate.proofs.Ready.{ready_attach, ready_add, ready_trail}
use Rattle.ordered_solver.specs.Trails.{GoesOnFrom}
use Rattle.ordered_solver.specs.Engines.{IsAttached, IsInRange, IsLoaded}

pub or_true : (b : Bool) → cond b true true ≡ true
or_true true = refl
or_true false = refl

pub live_added : (live : List Live) (x : Live) → is_live (live ++ x ∷ []) x.id ≡ true
live_added live x = is_live_added live x x.id ∙ ap (λ b. cond (is_live live x.id) true b) (eq-eqb x.id.0 x.id.0 refl) ∙ or_true (is_live live x.id)

pub constraint_added : (live : List Live) (x : Live) → is_live live x.id ≡ false → constraint_of (live ++ x ∷ []) x.id ≡ x.constraint
constraint_added live x fresh = ap (λ (e : Live). e.constraint) (live_at_new live x fresh)

-- the place of a live constraint
pub record HasPlace (live : List Live) (c : ConId) : Type 0 where
  pub place : ℕ
  pub within : place < length live
  pub there : (d : Live) → get_or live place d ≡ live_at live c

pub live_place : (live : List Live) (c : ConId) → is_live live c ≡ true → HasPlace live c
live_place [] c h = absurd (false≢true h)
live_place (e ∷ live) c h = go (eqb e.id.0 c.0) refl (live_place live c)
  where
    later : eqb e.id.0 c.0 ≡ false → HasPlace live c → HasPlace (e ∷ live) c
    later q r = (let w = r.within in record { place = suc r.place; within = omega arith; there = λ d. rw q (r.there d) })

    go : (b : Bool) → eqb e.id.0 c.0 ≡ b → (is_live live c ≡ true → HasPlace live c) → HasPlace (e ∷ live) c
    go true q ih = record { place = 0; within = omega arith; there = λ d. rw q refl }
    go false q ih = (let a : is_live (e ∷ live) c ≡ is_live live c = rw q refl in later q (ih (sym a ∙ h)))

-- what holds of each live constraint holds of the one under an id
pub live-all : (P : Live → Type 0) (live : List Live) (c : ConId) → All P live → is_live live c ≡ true → P (live_at live c)
live-all P live c all h =
    let r = live_place live c h in
    let d : Live = live_at live c in
    subst P (r.there d) (all r.place d r.within)

-- an id in the list is live
pub place_live : (live : List Live) (k : ℕ) (d : Live) → k < length live → is_live live (get_or live k d).id ≡ true
place_live [] k d h = absurd (omega arith)
place_live (e ∷ live) zero d h = rw (eq-eqb e.id.0 e.id.0 refl) refl
place_live (e ∷ live) (suc k) d h = ap (λ b. cond (eqb e.id.0 (get_or live k d).id.0) true b) (place_live live k d (omega arith)) ∙ or_true (eqb e.id.0 (get_or live k d).id.0)

-- the ids of the others are other ones
others_apart : (live : List Live) (id : ConId) → is_live live id ≡ false → (k : ℕ) (d : Live) → k < length live → (get_or live k d).id ≢ id
others_apart live id fresh k d h q = false≢true (sym fresh ∙ ap (is_live live) (sym q) ∙ place_live live k d h)

attached_change : (live : List Live) (held bs : List Attached) (id : ConId) (o : Option Linear) → is_live live id ≡ false → ChangesOnly held bs id o → All (IsAttached held) live
    → All (IsAttached bs) live
attached_change live held bs id o fresh change all k d h = change.others (get_or live k d).id (others_apart live id fresh k d h) ∙ all k d h

pub loaded_add : (live : List Live) (p q : PropagatorView) (t : TrailView) (x : Live) → IsLoaded live p t → is_live live x.id ≡ false → VarsBelow t.variables x.constraint.terms
    → ChangesOnly p.attached q.attached x.id (Some (constraint_of (live ++ x ∷ []) x.id)) → q.variables ≡ p.variables → IsCounted q t → IsLoaded (live ++ x ∷ []) q t
loaded_add live p q t x l fresh below change variables counted =
    record {
      ready = ready_attach p q (live ++ x ∷ []) t x.id (ready_add p live t x l.ready) (live_added live x) change variables counted;
      attached = All-push (IsAttached q.attached) live x (attached_change live p.attached q.attached x.id (Some (constraint_of (live ++ x ∷ []) x.id)) fresh change l.attached)
          (change.here ∙ ap (λ (c : Linear). Some c) (constraint_added live x fresh));
      in_range = All-push (IsInRange t.variables) live x l.in_range below;
    }

pub loaded_trail : (live : List Live) (p q : PropagatorView) (t u : TrailView) → IsLoaded live p t → q.attached ≡ p.attached → q.variables ≡ p.variables → u.variables ≡ t.variables → IsCounted q u
    → IsLoaded live q u
loaded_trail live p q t u l attached variables same counted =
    let A : List Attached → Type 0 = λ held. All (IsAttached held) live in
    let R : ℕ → Type 0 = λ n. All (IsInRange n) live in
    record {
      ready = ready_trail p q live t u l.ready attached variables same counted;
      attached = subst A (sym attached) l.attached;
      in_range = subst R (sym same) l.in_range;
    }

pub without_fresh : (live : List Live) (id : ConId) → is_live live id ≡ false → without id live ≡ live
without_fresh [] id h = refl
without_fresh (e ∷ live) id h = go (eqb e.id.0 id.0) refl (without_fresh live id)
  where
    go : (b : Bool) → eqb e.id.0 id.0 ≡ b → (is_live live id ≡ false → without id live ≡ live) → without id (e ∷ live) ≡ e ∷ live
    go true q ih = absurd (let a : is_live (e ∷ live) id ≡ true = rw q refl in false≢true (sym h ∙ a))
    go false q ih = (let a : is_live (e ∷ live) id ≡ is_live live id = rw q refl in rw q (ap (λ (ls : List Live). e ∷ ls) (ih (sym a ∙ h))))

-- the counted literals are those of a trail that goes on
pub counted_goes : (p : PropagatorView) (t u : TrailView) → GoesOnFrom t.entries u.entries → IsCounted p t → IsCounted p u
counted_goes p t u g counted =
    let lit : Entry → Literal = λ e. e.lit in
    let n : ℕ = length p.counted in
    let a : List Literal = map lit t.entries in
    let short : length (take n a) ≡ n = ap length counted in
    let len = length-take n a in
    let rest : List Entry = drop (length t.entries) u.entries in
    let whole : u.entries ≡ t.entries ++ rest = sym (take-append-drop (length t.entries) u.entries) ∙ ap (λ (es : List Entry). es ++ rest) g.kept in
    let mapped : map lit u.entries ≡ a ++ map lit rest = ap (map lit) whole ∙ map-append lit t.entries rest in
    ap (take n) mapped ∙ take-append-le n a (map lit rest) (omega arith) ∙ counted

none_holds : (o : Option ConId) (P : Type 0) → is_some o ≡ false → IfNone o P → P
none_holds None P e h = h
none_holds (Some x) P e h = absurd (false≢true (sym e))

-- what holds where an answer is none
pub closed_none : (o : Option ConId) (b : Bool) (P : Type 0) → b ≡ is_some o → b ≡ false → IfNone o P → P
closed_none o b P e f h = none_holds o P (sym e ∙ f) h

-- what was counted stays so where only the attached constraints change
pub counted_same : (p q : PropagatorView) (t : TrailView) → q ≡ record p { attached = q.attached } → IsCounted p t → IsCounted q t
counted_same p q t e counted =
    let N : List Literal → Type 0 = λ ls. take (length ls) (map (λ (x : Entry). x.lit) t.entries) ≡ ls in
    subst N (sym (ap (λ (x : PropagatorView). x.counted) e)) counted
