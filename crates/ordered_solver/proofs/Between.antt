-- What a solver keeps between its calls: at its start, and after each of them.
use Rattle.std.proofs.Common.{◌≡◌, ℕ, ◌+◌, Bool, List, [], ◌∷◌, ◌++◌, length, map, min, sym, ap, ◌∙◌, subst}
use Rattle.std.specs.Prelude.{All}
use Rattle.std.proofs.lemmas.List.{length-map, map-append}
use Rattle.std.proofs.lemmas.List.Elements.{All-push, All-append}
use Rattle.pb_constraints.specs.declared.ConId.{ConId}
use Rattle.pb_rules.specs.Linear.{Linear}
use Rattle.pb_rules.specs.Frames.{Line, cover}
use Rattle.proof_log.specs.Log.{LogValue}
use Rattle.constraint_store.specs.Live.{Live, Content, content}
use Rattle.trail_state.specs.Trail.{TrailView}
use Rattle.propagate.specs.Propagator.{PropagatorView}
use Rattle.ordered_solver.specs.Engines.{IsLoaded, IsIdle, IsKnown, HasKeptIds, IsBetweenCalls, kept_in, given_in, given_of, kept_of, id_of}
use Rattle.ordered_solver.specs.Lessons.{HasAdded, HasDropped, GoesOnKept}
use Rattle.ordered_solver.specs.Solver.{SolverValue, IsGivenId, HasGivenId, AreKept, numbered, kept_limit}
use Rattle.ordered_solver.proofs.Ids.{given_ids_new, given_ids_later, known_later, kept_later, given_later_in}
use Rattle.ordered_solver.proofs.Parts.{all_unmap, none-kept, kept-given, kept_behind}
use Rattle.ordered_solver.proofs.Dropping.{contents_same, dropped_same, dropped_more}
use Rattle.ordered_solver.proofs.KeptOn.{keeps_none, keeps_given, keeps_cover, keeps_on, given_on}

-- a new solver's constraints are all given, and none is kept
pub new_parts : (log : LogValue) (live : List Live) (cs : List Linear) → log.lines ≡ [] → map content live ≡ numbered 1 cs → (given_of log live ≡ numbered 1 cs) × (kept_of log live ≡ [])
new_parts log live cs e g =
    let none = none-kept log live e in
    (ap (map content) none.1 ∙ g, ap (map content) none.0)

pub between_new : (live : List Live) (p : PropagatorView) (t : TrailView) (ids : List ConId) (log : LogValue) (cs : List Linear) → IsIdle live p t → ids ≡ []
    → log ≡ record { first = length cs + 1; lines = [] } → map content live ≡ numbered 1 cs → IsBetweenCalls live p t ids log
between_new live p t ids log cs idle no-ids e g =
    let lines : log.lines ≡ [] = ap (λ (v : LogValue). v.lines) e in
    let none = none-kept log live lines in
    let all : All (HasGivenId log) (map content live) = given_ids_new log cs (map content live) e g in
    record {
      idle = idle;
      listed = record {
        ids_are = no-ids ∙ sym (ap (map id_of) none.0);
        known = λ k d l. (all_unmap (HasGivenId log) content live all k d l).before_next;
      };
      given_ids = subst (λ (ls : List Live). All (HasGivenId log) (map content ls)) (sym none.1) all;
      keeps = subst (λ (ls : List Live). AreKept (given_of log live) (map content ls) log) (sym none.0) (keeps_none log (given_of log live) lines);
    }

-- the parts after one more given constraint
pub given_parts : (log : LogValue) (live : List Live) (x : Live) → IsGivenId log x.proof_id → (given_of log (live ++ x ∷ []) ≡ given_of log live ++ content x ∷ [])
    × (kept_of log (live ++ x ∷ []) ≡ kept_of log live)
given_parts log live x g =
    let r = kept-given log live x g.not_derived in
    (ap (map content) r.1 ∙ map-append content (given_in log live) (x ∷ []), ap (map content) r.0)

pub between_given : (live after : List Live) (p q : PropagatorView) (t u : TrailView) (ids ids_after : List ConId) (log log_after : LogValue) (x : Live) → IsBetweenCalls live p t ids log
    → IsGivenId log x.proof_id → after ≡ live ++ x ∷ [] → IsLoaded after q u → u ≡ t → ids_after ≡ ids → log_after ≡ log → IsBetweenCalls after q u ids_after log_after
between_given live after p q t u ids ids_after log log_after x b g e loaded same-trail same-ids same-log =
    let parts = given_parts log live x g in
    let listed : HasKeptIds (live ++ x ∷ []) ids log = record {
      ids_are = b.listed.ids_are ∙ sym (ap (map id_of) (kept-given log live x g.not_derived).0);
      known = All-push (IsKnown log) live x b.listed.known g.before_next;
    } in
    let given-ids : All (HasGivenId log) (given_of log live ++ content x ∷ []) = All-push (HasGivenId log) (given_of log live) (content x) b.given_ids g in
    let keeps : AreKept (given_of log live ++ content x ∷ []) (kept_of log live) log = keeps_given log (given_of log live) (kept_of log live) (content x) b.keeps in
    let K : List Content → List Content → Type 0 = λ gs ks. AreKept gs ks log in
    let keeps' : K (given_of log (live ++ x ∷ [])) (kept_of log (live ++ x ∷ [])) = subst (K (given_of log (live ++ x ∷ []))) (sym parts.1)
    (subst (λ (gs : List Content). K gs (kept_of log live)) (sym parts.0) keeps) in
    let L : List Live → LogValue → List ConId → Type 0 = λ ls v is. IsIdle ls q u → IsBetweenCalls ls q u is v in
    let made : L (live ++ x ∷ []) log ids = λ idle. record {
      idle = idle;
      listed = listed;
      given_ids = subst (λ (gs : List Content). All (HasGivenId log) gs) (sym parts.0) given-ids;
      keeps =
          keeps';
    } in
    subst (λ (is : List ConId). L after log_after is) (sym same-ids) (subst (λ (v : LogValue). L after v ids) (sym same-log) (subst (λ (ls : List Live). L ls log ids) (sym e) made))
    (record { loaded = loaded; nothing = ap (λ (v : TrailView). v.entries) same-trail ∙ b.idle.nothing })

-- the parts in a longer log
pub later_parts : (log new : LogValue) (more : List Line) (live : List Live) → new ≡ record log { lines = log.lines ++ more } → All (IsKnown log) live → (given_of new live ≡ given_of log live)
    × (kept_of new live ≡ kept_of log live)
later_parts log new more live e known = (ap (map content) (given_later_in log new more live e known), ap (map content) (kept_later log new more live e known))

pub between_cover : (live : List Live) (p : PropagatorView) (t : TrailView) (ids : List ConId) (log new : LogValue) (v : List ℕ) → IsBetweenCalls live p t ids log
    → new ≡ record log { lines = log.lines ++ cover v ∷ [] } → IsBetweenCalls live p t ids new
between_cover live p t ids log new v b e =
    let more : List Line = cover v ∷ [] in
    let parts = later_parts log new more live e b.listed.known in
    let given-ids : All (HasGivenId new) (given_of log live) = given_ids_later log new more (given_of log live) e b.given_ids in
    let keeps : AreKept (given_of log live) (kept_of log live) new = subst (λ (w : LogValue). AreKept (given_of log live) (kept_of log live) w) (sym e)
    (keeps_cover log (given_of log live) (kept_of log live) v b.given_ids b.keeps) in
    record {
      idle = b.idle;
      listed = record {
        ids_are = b.listed.ids_are ∙ sym (ap (map id_of) (kept_later log new more live e b.listed.known));
        known = known_later log new more live e b.listed.known;
      };
      given_ids = subst (λ (gs : List Content). All (HasGivenId new) gs) (sym parts.0) given-ids;
      keeps = subst (λ (ks : List Content). AreKept (given_of new live) ks new) (sym parts.1) (subst (λ (gs : List Content). AreKept gs (kept_of log live) new) (sym parts.0) keeps);
    }

-- after clauses were added
pub listed_added : (start all : List Live) (ids ids_after : List ConId) (old new : LogValue) → HasKeptIds start ids old → HasAdded start all ids ids_after old new → HasKeptIds all ids_after new
listed_added start all ids ids_after old new h a =
    let kept : kept_in new all ≡ kept_in old start ++ a.more = ap (kept_in new) a.split ∙ kept_behind new start a.more a.derived_ids
    ∙ ap (λ (ls : List Live). ls ++ a.more) (kept_later old new a.lines start a.written h.known) in
    record {
      ids_are = a.ids_are ∙ ap (λ (is : List ConId). is ++ map id_of a.more) h.ids_are ∙ sym (map-append id_of (kept_in old start) a.more) ∙ sym (ap (map id_of) kept);
      known = subst (λ (ls : List Live). All (IsKnown new) ls) (sym a.split) (All-append (IsKnown new) start a.more (known_later old new a.lines start a.written h.known) a.known);
    }

-- and the oldest dropped, by the number of their ids, and the gaps closed
pub goes_kept : (start all mid live : List Live) (ids ids_after rest : List ConId) (old new : LogValue) → HasAdded start all ids ids_after old new → HasDropped new all mid
    → HasKeptIds all ids_after new → HasKeptIds mid rest new → length rest ≡ min kept_limit (length ids_after) → map content live ≡ map content mid → GoesOnKept start live old new
goes_kept start all mid live ids ids_after rest old new added dropped before after few same =
    let size : (ls : List Live) (is : List ConId) → HasKeptIds ls is new → length (kept_of new ls) ≡ length is = λ ls is h.
    (let a : length (kept_of new ls) ≡ length (kept_in new ls) = length-map (kept_in new ls) content in
    let b : length (map id_of (kept_in new ls)) ≡ length (kept_in new ls) = length-map (kept_in new ls) id_of in
    a ∙ sym b ∙ sym (ap length h.ids_are)) in
    let closed : HasDropped new mid live = dropped_same new mid live same in
    record {
      all = all;
      ids = ids;
      ids_after = ids_after;
      added = added;
      dropped = dropped_more new all mid live dropped closed;
      count = ap length (contents_same new mid live same) ∙ size mid rest after ∙ few ∙ ap (min kept_limit) (sym (size all ids_after before));
    }

-- values of a solver with the same parts
pub same_value : (a b : SolverValue) → a.variables ≡ b.variables → a.given ≡ b.given → a.kept ≡ b.kept → a.log ≡ b.log → a.spent ≡ b.spent → a ≡ b
same_value a b v g k l s =
    ap (λ (x : ℕ). record a { variables = x }) v ∙ ap (λ (x : List Content). record a { variables = b.variables; given = x }) g
    ∙ ap (λ (x : List Content). record a { variables = b.variables; given = b.given; kept = x }) k ∙ ap (λ (x : LogValue). record b { log = x; spent = a.spent }) l
    ∙ ap (λ (x : Bool). record b { spent = x }) s

pub between_on : (start live : List Live) (p q : PropagatorView) (t u : TrailView) (ids rest : List ConId) (old new : LogValue) → IsBetweenCalls start p t ids old → IsIdle live q u
    → HasKeptIds live rest new → GoesOnKept start live old new → IsBetweenCalls live q u rest new
between_on start live p q t u ids rest old new b idle listed k = record {
  idle = idle;
  listed = listed;
  given_ids =
      subst (λ (gs : List Content). All (HasGivenId new) gs) (sym (given_on start live old new b.listed.known k))
      (given_ids_later old new k.added.lines (given_of old start) k.added.written b.given_ids);
  keeps = keeps_on start live old new b.listed.known b.given_ids b.keeps k;
}
