-- The oldest kept clause taken out, and new ids for what is live.
use Rattle.std.proofs.Common.{◌≡◌, ◌≢◌, ℕ, ◌<◌, Bool, true, false, not, cond, eqb, Option, Some, None, List, [], ◌∷◌, ◌++◌, length, get_or, map, refl, sym, ap, ◌∙◌, subst, arith, suc, unwrap_or, append_assoc}
use Rattle.std.specs.Prelude.{All, filter, is_some}
use Rattle.std.proofs.lemmas.Bool.{false≢true, ne_eqb, eq-eqb}
use Rattle.std.proofs.lemmas.List.Elements.{All-map, All-filter}
use Rattle.pb_constraints.specs.declared.ConId.{ConId}
use Rattle.proof_log.specs.Log.{LogValue}
use Rattle.constraint_store.specs.Live.{Live, Content, is_live, without, content, new_id, renamed, IsOneToOne, IsRenaming, HasDistinctIds}
use Rattle.trail_state.specs.Trail.{TrailView}
use Rattle.propagate.specs.Attached.{attached_at, IsMoved}
use Rattle.propagate.specs.Propagator.{PropagatorView, IsCounted}
use Rattle.propagate.proofs.Ready.{ready_remap}
use Rattle.ordered_solver.specs.Engines.{IsAttached, IsInRange, IsLoaded, IsKnown, HasKeptIds, is_kept, kept_in, given_in, kept_of, given_of, id_of, moved}
use Rattle.ordered_solver.specs.Lessons.{HasDropped}
use Rattle.ordered_solver.specs.Solver.{is_derived_id}
use Rattle.ordered_solver.proofs.Loading.{place_live, without_fresh, or_true}
use Rattle.ordered_solver.proofs.Parts.{fails}

-- an id that no other has isn't live among the others
not-live : (e : Live) (live : List Live) → ((k : ℕ) (d : Live) → k < length live → e.id.0 ≢ (get_or live k d).id.0) → is_live live e.id ≡ false
not-live e [] h = refl
not-live e (f ∷ live) h =
    let other : eqb f.id.0 e.id.0 ≡ false = ne_eqb f.id.0 e.id.0 (λ q. h 0 f (omega arith) (sym q)) in
    ap (λ b. cond b true (is_live live e.id)) other ∙ not-live e live (λ k d l. h (suc k) d (omega arith))

head_apart : (e : Live) (live : List Live) → HasDistinctIds (e ∷ live) → is_live live e.id ≡ false
head_apart e live h = not-live e live (λ k d l. h 0 (suc k) d (omega arith) (omega arith))

heads : (x y : Live) (xs ys : List Live) → x ∷ xs ≡ y ∷ ys → (x ≡ y) × (xs ≡ ys)
heads x y xs ys e = (cc, cc)

-- the first that passes a test is live
first_live : (p : Live → Bool) (live : List Live) (x : Live) (xs : List Live) → filter p live ≡ x ∷ xs → is_live live x.id ≡ true
first_live p [] x xs e = absurd (cc)
first_live p (f ∷ live) x xs e = go (p f) e (first_live p live x xs)
  where
    go : (b : Bool) → cond b (f ∷ filter p live) (filter p live) ≡ x ∷ xs → (filter p live ≡ x ∷ xs → is_live live x.id ≡ true) → is_live (f ∷ live) x.id ≡ true
    go true q ih =
        let is : f ≡ x = (heads f x (filter p live) xs q).0 in
        let here : eqb f.id.0 x.id.0 ≡ true = ap (λ (g : Live). eqb g.id.0 x.id.0) is ∙ eq-eqb x.id.0 x.id.0 refl in
        ap (λ b. cond b true (is_live live x.id)) here
    go false q ih = ap (λ b. cond (eqb f.id.0 x.id.0) true b) (ih q) ∙ or_true (eqb f.id.0 x.id.0)

pub kept-live : (log : LogValue) (live : List Live) (x : Live) (xs : List Live) → kept_in log live ≡ x ∷ xs → is_live live x.id ≡ true
kept-live log live x xs e = first_live (is_kept log) live x xs e

-- without the first that passes a test, the others that pass it are left, and all that fail it
pub without_first : (p : Live → Bool) (live : List Live) (x : Live) (xs : List Live) → HasDistinctIds live → filter p live ≡ x ∷ xs → (filter p (without x.id live) ≡ xs)
    × (filter (fails p) (without x.id live) ≡ filter (fails p) live)
without_first p [] x xs distinct e = absurd (cc)
without_first p (f ∷ live) x xs distinct e = go (p f) refl e (without_first p live x xs (λ i j d a l. distinct (suc i) (suc j) d (omega arith) (omega arith)))
  where
    apart : is_live live f.id ≡ false
    apart = head_apart f live distinct

    Goal : Type 0
    Goal = (filter p (without x.id (f ∷ live)) ≡ xs) × (filter (fails p) (without x.id (f ∷ live)) ≡ filter (fails p) (f ∷ live))

    here : p f ≡ true → f ≡ x → filter p live ≡ xs → Goal
    here t is tail =
        let out : without x.id (f ∷ live) ≡ without x.id live =
        ap (λ b. cond (not b) (f ∷ without x.id live) (without x.id live)) (ap (λ (g : Live). eqb g.id.0 x.id.0) is ∙ eq-eqb x.id.0 x.id.0 refl) in
        let rest : without x.id live ≡ live = ap (λ (g : Live). without g.id live) (sym is) ∙ without_fresh live f.id apart in
        let failing : filter (fails p) (f ∷ live) ≡ filter (fails p) live = ap (λ b. cond (not b) (f ∷ filter (fails p) live) (filter (fails p) live)) t in
        (ap (filter p) (out ∙ rest) ∙ tail, ap (filter (fails p)) (out ∙ rest) ∙ sym failing)

    later : p f ≡ false → filter p live ≡ x ∷ xs → ((filter p (without x.id live) ≡ xs) × (filter (fails p) (without x.id live) ≡ filter (fails p) live)) → Goal
    later t e' ih =
        let live-x = first_live p live x xs e' in
        let other : eqb f.id.0 x.id.0 ≡ false = ne_eqb f.id.0 x.id.0 (λ q. false≢true (sym apart ∙ ap (λ (n : ℕ). is_live live (record { 0 = n })) q ∙ live-x)) in
        let out : without x.id (f ∷ live) ≡ f ∷ without x.id live = ap (λ b. cond (not b) (f ∷ without x.id live) (without x.id live)) other in
        let passing : filter p (f ∷ without x.id live) ≡ filter p (without x.id live) = ap (λ b. cond b (f ∷ filter p (without x.id live)) (filter p (without x.id live))) t in
        let failing : filter (fails p) (f ∷ without x.id live) ≡ f ∷ filter (fails p) (without x.id live) =
        ap (λ b. cond (not b) (f ∷ filter (fails p) (without x.id live)) (filter (fails p) (without x.id live))) t in
        let before : filter (fails p) (f ∷ live) ≡ f ∷ filter (fails p) live = ap (λ b. cond (not b) (f ∷ filter (fails p) live) (filter (fails p) live)) t in
        (ap (filter p) out ∙ passing ∙ ih.0, ap (filter (fails p)) out ∙ failing ∙ ap (λ (ls : List Live). f ∷ ls) ih.1 ∙ sym before)

    go : (b : Bool) → p f ≡ b → filter p (f ∷ live) ≡ x ∷ xs → (filter p live ≡ x ∷ xs → (filter p (without x.id live) ≡ xs) × (filter (fails p) (without x.id live) ≡ filter (fails p) live)) → Goal
    go true t q ih =
        let at : f ∷ filter p live ≡ x ∷ xs = sym (ap (λ b. cond b (f ∷ filter p live) (filter p live)) t) ∙ q in
        let h = heads f x (filter p live) xs at in
        here t h.0 h.1
    go false t q ih =
        let at : filter p live ≡ x ∷ xs = sym (ap (λ b. cond b (f ∷ filter p live) (filter p live)) t) ∙ q in
        later t at (ih at)

-- the kept clause of the first id, and the others
pub record HasFirst (log : LogValue) (live : List Live) (id : ConId) (ids : List ConId) : Type 0 where
  pub clause : Live
  pub others : List Live
  pub under : clause.id ≡ id
  pub kept : kept_in log live ≡ clause ∷ others
  pub ids_are : ids ≡ map id_of others

pub first_kept : (log : LogValue) (live : List Live) (all ids : List ConId) (id : ConId) → HasKeptIds live all log → all ≡ id ∷ ids → HasFirst log live id ids
first_kept log live all ids id h e = go (kept_in log live) refl (sym e ∙ h.ids_are)
  where
    parts : (x : Live) (xs : List Live) → id ∷ ids ≡ map id_of (x ∷ xs) → (x.id ≡ id) × (ids ≡ map id_of xs)
    parts x xs q = (cc, cc)

    go : (ks : List Live) → kept_in log live ≡ ks → id ∷ ids ≡ map id_of ks → HasFirst log live id ids
    go [] k q = absurd (cc)
    go (x ∷ xs) k q = (let p = parts x xs q in record { clause = x; others = xs; under = p.0; kept = k; ids_are = p.1 })

-- after the first one was dropped
pub dropped_first : (log : LogValue) (live after : List Live) (id : ConId) (ids : List ConId) → HasDistinctIds live → All (IsKnown log) live → (h : HasFirst log live id ids)
    → after ≡ without id live → HasDropped log live after × HasKeptIds after ids log
dropped_first log live after id ids distinct known h e =
    let x : Live = h.clause in
    let is : after ≡ without x.id live = e ∙ ap (λ (i : ConId). without i live) (sym h.under) in
    let w = without_first (is_kept log) live x h.others distinct h.kept in
    let kept : kept_in log after ≡ h.others = ap (kept_in log) is ∙ w.0 in
    let K : List Live → Type 0 = λ ls. All (IsKnown log) ls in (
      record {
        same_given = ap (map content) (ap (given_in log) is ∙ w.1);
        dropped = content x ∷ [];
        oldest = ap (map content) h.kept ∙ ap (λ (ls : List Live). content x ∷ map content ls) (sym kept);
      },
      record {
        ids_are = h.ids_are ∙ ap (map id_of) (sym kept);
        known = subst K (sym is) (All-filter (λ (f : Live). not (eqb f.id.0 x.id.0)) (IsKnown log) live known);
      },
    )

pub dropped_more : (log : LogValue) (a b c : List Live) → HasDropped log a b → HasDropped log b c → HasDropped log a c
dropped_more log a b c p q = record {
  same_given = q.same_given ∙ p.same_given;
  dropped = p.dropped ++ q.dropped;
  oldest = p.oldest ∙ ap (λ (ls : List Content). p.dropped ++ ls) q.oldest ∙ sym (append_assoc p.dropped q.dropped (kept_of log c));
}

-- under new ids the same constraints are kept clauses
renamed-kept : (log : LogValue) (ids : List (Option ConId)) (live : List Live) → kept_in log (map (renamed ids) live) ≡ map (renamed ids) (kept_in log live)
renamed-kept log ids [] = refl
renamed-kept log ids (e ∷ live) = go (is_kept log e) (renamed-kept log ids live)
  where
    go : (b : Bool) → kept_in log (map (renamed ids) live) ≡ map (renamed ids) (kept_in log live) → cond b (renamed ids e ∷ kept_in log (map (renamed ids) live))
        (kept_in log (map (renamed ids) live)) ≡ map (renamed ids) (cond b (e ∷ kept_in log live) (kept_in log live))
    go true ih = ap (λ (ls : List Live). renamed ids e ∷ ls) ih
    go false ih = ih

moved_ids : (ids : List (Option ConId)) (live : List Live) → map id_of (map (renamed ids) live) ≡ map (moved ids) (map id_of live)
moved_ids ids [] = refl
moved_ids ids (e ∷ live) = ap (λ (is : List ConId). moved ids e.id ∷ is) (moved_ids ids live)

pub kept_renamed : (log : LogValue) (old new : List Live) (ids : List (Option ConId)) (kept after : List ConId) → IsRenaming old new ids → HasKeptIds old kept log → after ≡ map (moved ids) kept
    → HasKeptIds new after log
kept_renamed log old new ids kept after r h e = record {
  ids_are =
      e ∙ ap (map (moved ids)) h.ids_are ∙ sym (moved_ids ids (kept_in log old)) ∙ ap (map id_of) (sym (renamed-kept log ids old))
      ∙ ap (λ (ls : List Live). map id_of (kept_in log ls)) (sym r.ids_alone);
  known = subst (λ (ls : List Live). All (IsKnown log) ls) (sym r.ids_alone) (All-map (IsKnown log) (renamed ids) old h.known);
}

-- store, propagator and trail stay together under new ids
pub loaded_renamed : (old new : List Live) (p q : PropagatorView) (t : TrailView) (ids : List (Option ConId)) → IsLoaded old p t → IsRenaming old new ids → IsOneToOne ids
    → IsMoved (new_id ids) p.attached q.attached → q.variables ≡ p.variables → IsCounted q t → IsLoaded new q t
loaded_renamed old new p q t ids l r one change variables counted =
    let A : List Live → Type 0 = λ ls. All (IsAttached q.attached) ls in
    let R : List Live → Type 0 = λ ls. All (IsInRange t.variables) ls in
    record {
      ready = ready_remap p q old new ids t l.ready r one change variables counted;
      attached =
          subst A (sym r.ids_alone) (All-map (IsAttached q.attached) (renamed ids) old (λ k d h. at (get_or old k d) (new_id ids (get_or old k d).id) refl
          (r.exactly_live (get_or old k d).id ∙ place_live old k d h) (l.attached k d h)));
      in_range = subst R (sym r.ids_alone) (All-map (IsInRange t.variables) (renamed ids) old l.in_range);
    }
  where
    at : (e : Live) (o : Option ConId) → new_id ids e.id ≡ o → is_some (new_id ids e.id) ≡ true → IsAttached p.attached e → IsAttached q.attached (renamed ids e)
    at e None n s a = absurd (false≢true (sym (ap is_some n) ∙ s))
    at e (Some d) n s a =
        let is : (renamed ids e).id ≡ d = ap (λ (w : Option ConId). unwrap_or w e.id) n in
        ap (attached_at q.attached) is ∙ change.there e.id d n ∙ a

-- the same contents are the same given constraints and kept clauses
abbrev has_derived : LogValue → Content → Bool
has_derived log c = is_derived_id log.first log.lines c.proof_id

contents : (log : LogValue) (live : List Live) → (kept_of log live ≡ filter (has_derived log) (map content live)) × (given_of log live ≡ filter (λ c. not (has_derived log c)) (map content live))
contents log [] = (refl, refl)
contents log (e ∷ live) = go (is_kept log e) (contents log live)
  where
    Same : Bool → Type 0
    Same b = (map content (cond b (e ∷ kept_in log live) (kept_in log live)) ≡ cond b (content e ∷ filter (has_derived log) (map content live)) (filter (has_derived log) (map content live)))
        × (map content (cond (not b) (e ∷ given_in log live) (given_in log live)) ≡ cond (not b) (content e ∷ filter (λ c. not (has_derived log c)) (map content live))
        (filter (λ c. not (has_derived log c)) (map content live)))

    go : (b : Bool) → (kept_of log live ≡ filter (has_derived log) (map content live)) × (given_of log live ≡ filter (λ c. not (has_derived log c)) (map content live)) → Same b
    go true ih = (ap (λ (cs : List Content). content e ∷ cs) ih.0, ih.1)
    go false ih = (ih.0, ap (λ (cs : List Content). content e ∷ cs) ih.1)

pub contents_same : (log : LogValue) (old new : List Live) → map content new ≡ map content old → kept_of log new ≡ kept_of log old
contents_same log old new e = (contents log new).0 ∙ ap (filter (has_derived log)) e ∙ sym (contents log old).0

pub dropped_same : (log : LogValue) (old new : List Live) → map content new ≡ map content old → HasDropped log old new
dropped_same log old new e = record {
  same_given = (contents log new).1 ∙ ap (filter (λ c. not (has_derived log c))) e ∙ sym (contents log old).1;
  dropped = [];
  oldest = sym (contents_same log old new e);
}
