-- A search goes on by a lesson: the trail, the clauses and the lines stay as they have to be.
use Rattle.std.proofs.Common.{◌≡◌, ℕ, ◌+◌, ◌<◌, ◌^◌, Bool, true, false, cond, eqb, Option, Some, List, [], ◌∷◌, ◌++◌, length, get_or, map, take, refl, sym, ap, ◌∙◌, subst, arith, inl, inr, IsTrue, append_assoc}
use Rattle.std.specs.Prelude.{All, Ok}
use Rattle.std.proofs.lemmas.Bool.{cases_eq, false≢true}
use Rattle.std.proofs.lemmas.Bool.Decides.{nat_tests}
use Rattle.std.proofs.lemmas.List.{take_all, length_push, map-append}
use Rattle.std.proofs.lemmas.List.Elements.{All-push, All-append, All-cons, All-nil, All-map}
use Rattle.std.proofs.lemmas.Option.{same_Some}
use Rattle.pb_constraints.specs.declared.ConId.{ConId}
use Rattle.pb_rules.specs.declared.Op.{Op}
use Rattle.pb_rules.specs.Literal.{Literal}
use Rattle.pb_rules.specs.Linear.{Linear, Holds, IsModel}
use Rattle.pb_rules.specs.Partial.{IsClosed, IsClosedFor, Forces}
use Rattle.pb_rules.specs.Clauses.{IsClause, contradiction}
use Rattle.pb_rules.specs.Honest.{IsUnabsorbed, IsPropagated, AreHonest}
use Rattle.pb_rules.specs.Operations.{line_gives}
use Rattle.pb_rules.specs.Frames.{Line, derived, Frame, IsFrame, FitsFrom, Given, base_of, given_by, given_from, derived_from, context_of, with_derived, is_derived, StandsUnder}
use Rattle.pb_rules.proofs.Closed.{propagated_follows, honest_push}
use Rattle.pb_rules.proofs.Given.{given-append, given-push, given-ids, given_stays, given_knows, derived-push, derived_stands}
use Rattle.proof_log.specs.Log.{LogValue, next_id}
use Rattle.proof_log.specs.HonestLog.{AreHonestLines}
use Rattle.constraint_store.specs.Live.{Live, is_live, live_at, constraint_of, proof_id_of}
use Rattle.constraint_store.proofs.Laws.{is_live_added, live_at_added, live_at_new}
use Rattle.trail_state.specs.Trail.{Entry, value_in, level_of, upto_level}
use Rattle.propagate.specs.Attached.{Attached, attached_at, ChangesOnly}
use Rattle.propagate.specs.Forced.{IsForcedAt, AllClosed}
use Rattle.propagate.proofs.Attaching.{same_id}
use Rattle.conflict_graph.specs.Derives.{HasUnder, GiveOver, Derives}
use Rattle.conflict_graph.specs.Learned.{constraints_in}
use Rattle.ordered_solver.specs.Trails.{IsOrdered}
use Rattle.ordered_solver.specs.Engines.{IsAttached, IsKnown, is_kept, id_of}
use Rattle.ordered_solver.specs.Lessons.{Learns, Refutes, AreGiven, HasAdded, HasLearned}
use Rattle.ordered_solver.proofs.Ids.{kept_more, known_more}
use Rattle.ordered_solver.proofs.Steps.{IsWider, ordered_jump}
use Rattle.ordered_solver.proofs.Asserting.{back_below, leaves-one, quiet_below}

-- each attached constraint is live
abbrev pub AreLive : List Live → List Attached → Type 0
AreLive live held = (c : ConId) (k : Linear) → attached_at held c ≡ Some k → IsTrue (is_live live c)

-- what is attached goes on being so when a new id is
pub attached_wider : (live : List Live) (held bs : List Attached) (id : ConId) (o : Option Linear) → AreLive live held → is_live live id ≡ false → ChangesOnly held bs id o → IsWider held bs
attached_wider live held bs id o on fresh change c k h = change.others c (λ q. false≢true (sym fresh ∙ ap (is_live live) (sym q) ∙ on c k h)) ∙ h

-- the trail after a lesson
pub ordered_learns : (live after : List Live) (held bs : List Attached) (order : List Literal) (es now : List Entry) (log log_after : LogValue) (id : ConId) → AreLive live held → 0 < level_of es
    → IsOrdered held order es → Learns live after held bs es now log log_after id → IsOrdered bs order now
ordered_learns live after held bs order es now log log_after id on h o l =
    let c : Linear = l.clause.constraint in
    let below = back_below es c.terms l.back l.level_below h in
    let kept : List Entry = upto_level l.back es in
    let e : Entry = record { lit = l.lit; reason = Some l.clause.id } in
    let wider : IsWider held bs = attached_wider live held bs l.clause.id (Some c) on l.fresh l.attached in
    let closed : (m : ℕ) → m < l.back → AllClosed bs (upto_level m es) = λ m lt d k at. elim (cases_eq d.0 l.clause.id.0) [
      | inl q ↦ (let is : c ≡ k = same_Some c k (sym l.attached.here ∙ ap (attached_at bs) (sym (same_id d l.clause.id q)) ∙ at) in
          let P : Linear → Type 0 = λ x. IsClosed (value_in (upto_level m es)) x in
          subst P is (quiet_below live es c l.back m l.learned l.level_below h lt))
      | inr n ↦ o.closed_below m (omega arith) d k (sym (l.attached.others d (λ z. n (ap (λ (b : ConId). b.0) z))) ∙ at)
    ] in
    let all : take (length kept) kept ≡ kept = take_all (length kept) kept (omega arith) in
    let P : List Entry → Type 0 = λ fs. Forces (value_in fs) c l.lit in
    let forced : IsForcedAt bs kept (length kept) e = record { reason = l.clause.id; there = refl; constraint = c; attached = l.attached.here; forces = subst P (sym all) l.forces } in
    let Q : List Entry → Type 0 = λ fs. IsOrdered bs order fs in
    subst Q (sym l.pushed) (ordered_jump held bs order es l.back e below wider closed forced o)

pub constraints-append : (live more : List Live) → constraints_in (live ++ more) ≡ constraints_in live ++ constraints_in more
constraints-append live more = map-append (λ (e : Live). e.constraint) live more

-- under each level below the current one, the trail is closed for all live constraints
pub closed_live : (live : List Live) (held : List Attached) (es : List Entry) → All (IsAttached held) live → AllClosed held es → IsClosedFor (constraints_in live) (value_in es)
closed_live live held es attached closed = All-map (IsClosed (value_in es)) (λ (e : Live). e.constraint) live (λ i d l. closed (get_or live i d).id (get_or live i d).constraint (attached i d l))

-- a derived line
abbrev pub IsDerived : Line → Type 0
IsDerived l = is_derived l ≡ true

-- one honest line more
honest_line : (f : Frame) (g h : Given) (base : List Linear) (ls : List Line) (ops : List Op) (c : Linear) → AreHonestLines f g base ls → given_from f g ls ≡ Some h
    → line_gives (context_of h) ops ≡ Ok c → IsClause c → IsUnabsorbed (base ++ derived_from f g ls) c → AreHonestLines f g base (ls ++ derived ops ∷ [])
honest_line f g h base ls ops c honest e gives is new = record {
  derived_each = All-append IsDerived ls (derived ops ∷ []) honest.derived_each (All-cons IsDerived (derived ops) [] refl (All-nil IsDerived));
  after = with_derived h c;
  legal = given-push f g h ls ops c e gives;
  honest = subst (AreHonest base) (sym (derived-push f g h ls ops c e gives)) (honest_push base (derived_from f g ls) c honest.honest is new);
}

-- each live constraint stands under its id, one more of them too
under_more : (f : Frame) (h : Given) (live : List Live) (x : Live) (ops : List Op) → is_live live x.id ≡ false → x.proof_id < 2 ^ 63 → x.proof_id ≡ length h.constraints + 1
    → line_gives (context_of h) ops ≡ Ok x.constraint → HasUnder (context_of h) live → HasUnder (context_of (with_derived h x.constraint)) (live ++ x ∷ [])
under_more f h live x ops fresh small next gives under c on = elim (cases_eq x.id.0 c.0) [
  | inl q ↦ (let is : live_at (live ++ x ∷ []) c ≡ x = ap (live_at (live ++ x ∷ [])) (sym (same_id x.id c q)) ∙ live_at_new live x fresh in
      let S : Live → Type 0 = λ e. StandsUnder (context_of (with_derived h x.constraint)) e.proof_id e.constraint in
      subst S (sym is) (derived_stands h x.constraint x.proof_id small next))
  | inr n ↦ (let test : eqb x.id.0 c.0 ≡ false = grind (arith, nat_tests) in
      let old : is_live live c ≡ true = before (is_live live c) (eqb x.id.0 c.0) test (sym (is_live_added live x c) ∙ on) in
      let is : live_at (live ++ x ∷ []) c ≡ live_at live c = live_at_added live x c old in
      let S : Live → Type 0 = λ e. StandsUnder (context_of (with_derived h x.constraint)) e.proof_id e.constraint in
      subst S (sym is) (given_stays f h (with_derived h x.constraint) (derived ops ∷ []) (proof_id_of live c) (constraint_of live c) (given-push f h h [] ops x.constraint refl gives) (under c old)))
]
  where
    before : (a b : Bool) → b ≡ false → cond a true b ≡ true → a ≡ true
    before true b e h = refl
    before false b e h = absurd (false≢true (sym e ∙ h))

pub contradiction_clause : IsClause contradiction
contradiction_clause = record {
  normal = record { positive = λ k d l. absurd (omega (arith, l)); rising = λ i j d a l. absurd (omega (arith, l)); small = omega arith; small_degree = omega arith };
  unit = λ k d l. absurd (omega (arith, l));
  degree = refl;
}

-- in a frame, one constraint more is given
pub given_more : (f : Frame) (g : Given) (live more : List Live) (old log : LogValue) (lines : List Line) (x : Live) (ops : List Op) →
    IsFrame f → FitsFrom f old.first → given_by f old.lines ≡ Some g → log ≡ record old { lines = old.lines ++ lines } →
    is_live live x.id ≡ false → x.proof_id ≡ next_id log → x.proof_id < 2 ^ 63 → GiveOver live ops x.constraint →
    AreGiven f g live more lines → AreGiven f g (live ++ x ∷ []) (more ++ x ∷ []) (lines ++ derived ops ∷ [])
given_more f g live more old log lines x ops frame fits legal written fresh id small derives s =
    let h : Given = s.after in
    let c : Linear = x.constraint in
    let gives = derives (context_of h) (given_knows h) s.under in
    let whole : given_by f log.lines ≡ Some h = ap (λ (v : LogValue). given_by f v.lines) written ∙ given-append f (base_of f) g old.lines lines legal ∙ s.legal in
    let count = given-ids f (base_of f) h log.lines frame whole in
    let first : log.first ≡ old.first = ap (λ (v : LogValue). v.first) written in
    let next : x.proof_id ≡ length h.constraints + 1 = omega arith in
    let one = given-push f h h [] ops c refl gives in
    let Stands : Live → Type 0 = λ e. StandsUnder (context_of (with_derived h c)) e.proof_id e.constraint in
    record {
      after = with_derived h c;
      legal = given-push f g h lines ops c s.legal gives;
      under = under_more f h live x ops fresh small next gives s.under;
      stand =
          All-push Stands more x (λ k d l. given_stays f h (with_derived h c) (derived ops ∷ []) (get_or more k d).proof_id (get_or more k d).constraint one (s.stand k d l))
          (derived_stands h c x.proof_id small next);
      gives = derived-push f g h lines ops c s.legal gives ∙ ap (λ (cs : List Linear). cs ++ c ∷ []) s.gives ∙ sym (constraints-append more (x ∷ []));
    }

pub rest : {X : Type 0} → (xs : List X) → xs ≡ xs ++ []
rest [] = refl
rest (x ∷ xs) = ap (λ ys. x ∷ ys) (rest xs)

-- at the beginning nothing is added
abbrev pub added_none : (start : List Live) (ids : List ConId) (log : LogValue) → HasAdded start start ids ids log log
added_none start ids log = record {
  more = [];
  split = rest start;
  ids_are = rest ids;
  lines = [];
  written = ap (λ (ls : List Line). record log { lines = ls }) (rest log.lines);
  derived_each = All-nil IsDerived;
  one_each = refl;
  derived_ids = All-nil (λ (e : Live). is_kept log e ≡ true);
  known = All-nil (IsKnown log);
  follow = λ v m. m;
  shown = λ f g frame fits legal under. record { after = g; legal = refl; under = under; stand = λ k d l. absurd (omega (arith, l)); gives = refl };
}

-- one clause more, which the live constraints propagate
abbrev pub added_more : (start live : List Live) (ids ids_after : List ConId) (old log log_after : LogValue) (x : Live) → HasAdded start live ids ids_after old log → is_live live x.id ≡ false
    → Derives live log log_after x.constraint → x.proof_id ≡ next_id log → x.proof_id < 2 ^ 63 → IsClause x.constraint → IsPropagated (constraints_in live) x.constraint
    → HasAdded start (live ++ x ∷ []) ids (ids_after ++ x.id ∷ []) old log_after
added_more start live ids ids_after old log log_after x h fresh derives next small clause propagated =
    let ops : List Op = derives.ops in
    let written : log_after ≡ record old { lines = old.lines ++ (h.lines ++ derived ops ∷ []) } = derives.one_more
    ∙ ap (λ (v : LogValue). record v { lines = v.lines ++ derived ops ∷ [] }) h.written ∙ ap (λ (ls : List Line). record old { lines = ls }) (append_assoc old.lines h.lines (derived ops ∷ [])) in
    record {
      more = h.more ++ x ∷ [];
      split = ap (λ (ls : List Live). ls ++ x ∷ []) h.split ∙ append_assoc start h.more (x ∷ []);
      ids_are = ap (λ (is : List ConId). is ++ x.id ∷ []) h.ids_are ∙ append_assoc ids (map id_of h.more) (x.id ∷ []) ∙ ap (λ (is : List ConId). ids ++ is) (sym (map-append id_of h.more (x ∷ [])));
      lines = h.lines ++ derived ops ∷ [];
      written = written;
      derived_each = All-push IsDerived h.lines (derived ops) h.derived_each refl;
      one_each = length_push h.lines (derived ops) ∙ ap (λ (m : ℕ). m + 1) h.one_each ∙ sym (length_push h.more x);
      derived_ids = subst (λ (v : LogValue). All (λ (e : Live). is_kept v e ≡ true) (h.more ++ x ∷ [])) (sym derives.one_more) (kept_more log h.more x ops next h.known h.derived_ids);
      known = subst (λ (v : LogValue). All (IsKnown v) (h.more ++ x ∷ [])) (sym derives.one_more) (known_more log h.more x ops next h.known);
      follow = λ v m.
          (let before = h.follow v m in
          let holds : Holds v x.constraint = propagated_follows (constraints_in live) x.constraint v clause propagated before in
          let M : List Linear → Type 0 = λ cs. IsModel cs v in
          subst M (sym (constraints-append live (x ∷ []))) (All-push (Holds v) (constraints_in live) x.constraint before holds));
      shown = λ f g frame fits legal under. given_more f g live h.more old log h.lines x ops frame fits legal h.written fresh next small derives.legal (h.shown f g frame fits legal under);
    }

-- at the beginning nothing is learned
pub learned_none : (start : List Live) (ids : List ConId) (log : LogValue) → HasLearned start start ids ids log log 0
learned_none start ids log = record {
  added = added_none start ids log;
  counted = refl;
  honest =
      λ f g frame fits legal under. record {
        derived_each = All-nil IsDerived;
        after = g;
        legal = refl;
        honest =
            record { clauses_each = All-nil IsClause; unabsorbed = λ k d l. absurd (omega arith) };
      };
}

-- one lesson more
pub learned_more : (start live after : List Live) (ids ids_after : List ConId) (held bs : List Attached) (order : List Literal) (es now : List Entry) (old log log_after : LogValue) (n : ℕ)
    (id : ConId) → All (IsAttached held) live → 0 < level_of es → IsOrdered held order es → HasLearned start live ids ids_after old log n → Learns live after held bs es now log log_after id
    → HasLearned start after ids (ids_after ++ id ∷ []) old log_after (n + 1)
learned_more start live after ids ids_after held bs order es now old log log_after n id attached h o s l =
    let x : Live = l.clause in
    let c : Linear = x.constraint in
    let a = s.added in
    let below = back_below es c.terms l.back l.level_below h in
    let ops : List Op = (l.derives).ops in
    let closed = closed_live live held (upto_level l.back es) attached (o.closed_below l.back below) in
    let new : IsUnabsorbed (constraints_in live) c = record { assignment = value_in (upto_level l.back es); closed = closed; leaves_one = leaves-one live es c l.back l.learned l.level_below h } in
    let ids-is : ids_after ++ x.id ∷ [] ≡ ids_after ++ id ∷ [] = ap (λ (i : ConId). ids_after ++ i ∷ []) l.under in
    let P : List ConId → List Live → Type 0 = λ is ls. HasLearned start ls ids is old log_after (n + 1) in
    subst (λ (ls : List Live). P (ids_after ++ id ∷ []) ls) (sym l.added) (subst (λ (is : List ConId). P is (live ++ x ∷ [])) ids-is (record {
      added = added_more start live ids ids_after old log log_after x a l.fresh l.derives l.proof_id l.small l.learned.clause l.learned.propagated;
      counted = length_push a.lines (derived ops) ∙ ap (λ m. m + 1) s.counted;
      honest = λ f g frame fits legal under.
          (let w = a.shown f g frame fits legal under in
          let gives = (l.derives).legal (context_of w.after) (given_knows w.after) w.under in
          let all : constraints_in start ++ derived_from f g a.lines ≡ constraints_in live = ap (λ (cs : List Linear). constraints_in start ++ cs) w.gives ∙ sym (constraints-append start a.more)
          ∙ ap constraints_in (sym a.split) in
          let U : List Linear → Type 0 = λ cs. IsUnabsorbed cs c in
          honest_line f g w.after (constraints_in start) a.lines ops c (s.honest f g frame fits legal under) w.legal gives l.learned.clause (subst U (sym all) new));
    }))

-- `0 >= 1` is one clause more
abbrev pub added_refuted : (start live after : List Live) (ids ids_after : List ConId) (old log log_after : LogValue) (id : ConId) → HasAdded start live ids ids_after old log
    → Refutes live after log log_after id → HasAdded start after ids (ids_after ++ id ∷ []) old log_after
added_refuted start live after ids ids_after old log log_after id h r =
    let x : Live = record { id = id; constraint = contradiction; proof_id = r.proof_id } in
    subst (λ (ls : List Live). HasAdded start ls ids (ids_after ++ id ∷ []) old log_after) (sym r.added)
    (added_more start live ids ids_after old log log_after x h r.fresh r.derives r.next r.small contradiction_clause r.propagated)
