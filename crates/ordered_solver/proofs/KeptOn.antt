-- What a solver keeps goes on being so: after one more given constraint, a cover, and a search with its new lines.
use Rattle.std.proofs.Common.{◌≡◌, ℕ, ◌+◌, ◌<◌, Bool, true, false, cond, eqb, Some, min, List, [], ◌∷◌, ◌++◌, length, get_or, map, refl, sym, ap, ◌∙◌, subst, arith, zero, suc, append_assoc, append-nil, length-append}
use Rattle.std.specs.Prelude.{All, slice_get, ◌&&◌}
use Rattle.std.proofs.lemmas.List.{get_or_append_left, length_push, length-map, map-append}
use Rattle.std.proofs.lemmas.List.Elements.{All-head, All-tail, All-nil, All-map, All-append, filter_passes}
use Rattle.std.proofs.lemmas.List.Sums.{sum_by-cons, sum_by-append}
use Rattle.plain_lists.proofs.Joined.{All-right}
use Rattle.pb_rules.specs.Linear.{Linear, Holds, IsModel}
use Rattle.pb_rules.specs.Frames.{Line, cover, Frame, IsFrame, FitsFrom, Given, context_of, base_of, under, given_by, given_from, derived_from, derived_by, derived_count, is_derived, ids_of, StandsUnder}
use Rattle.pb_rules.proofs.Closed.{models_front, models_back}
use Rattle.pb_rules.proofs.Given.{given_front, given-ids, given_grows, given_stays, derived-append}
use Rattle.proof_log.specs.Log.{LogValue}
use Rattle.pb_constraints.specs.declared.ConId.{ConId}
use Rattle.constraint_store.specs.Live.{Live, Content, content}
use Rattle.ordered_solver.specs.Engines.{IsKnown, is_kept, kept_in, given_in, given_of, kept_of}
use Rattle.ordered_solver.specs.Lessons.{AreGiven, HasAdded, GoesOnKept}
use Rattle.ordered_solver.specs.Solver.{HasGivenId, HasDerivedId, StandsIn, AreLastDerived, AreKept, constraints_of, is_derived_id, kept_limit}
use Rattle.ordered_solver.proofs.Ids.{kept_later, given_later_in}
use Rattle.ordered_solver.proofs.Lessons.{IsDerived}
use Rattle.ordered_solver.proofs.Parts.{given_are, under_parts, model_all, model_kept, kept_behind, given_before}

some_same : (g h : Given) → Some g ≡ Some h → g ≡ h
some_same g h e = cc

-- what stands goes on standing after more lines
pub stands_on : (f : Frame) (g h : Given) (ls : List Line) (given : List Content) → given_from f g ls ≡ Some h → All (StandsIn (context_of g)) given → All (StandsIn (context_of h)) given
stands_on f g h ls given e all k d l =
    let c : Content = get_or given k d in
    given_stays f g h ls c.proof_id c.constraint e (all k d l)

slice_back : (cs ds : List Linear) (i : ℕ) (c : Linear) → i < length cs → slice_get (cs ++ ds) i ≡ Some c → slice_get cs i ≡ Some c
slice_back [] ds i c l h = absurd (omega arith)
slice_back (d ∷ cs) ds zero c l h = h
slice_back (d ∷ cs) ds (suc i) c l h = slice_back cs ds i c (omega arith) h

under_back : (cs ds : List Linear) (id : ℕ) (c : Linear) → id < length cs + 1 → under (cs ++ ds) id ≡ Some c → under cs id ≡ Some c
under_back cs ds zero c l h = h
under_back cs ds (suc i) c l h = slice_back cs ds i c (omega arith) h

-- what was given an id below a log's next one stood under it before more lines came
pub stands_back : (f : Frame) (log : LogValue) (g h : Given) (more : List Line) (given : List Content) → IsFrame f → FitsFrom f log.first → given_by f log.lines ≡ Some g
    → given_from f g more ≡ Some h → All (HasGivenId log) given → All (StandsIn (context_of h)) given → All (StandsIn (context_of g)) given
stands_back f log g h more given frame fits legal later ids all k d l =
    let c : Content = get_or given k d in
    let s = all k d l in
    let count = given-ids f (base_of f) g log.lines frame legal in
    let before = (ids k d l).before_next in
    let grows = given_grows f g h more later in
    let there : under (g.constraints ++ grows.0) c.proof_id ≡ Some c.constraint = ap (λ (cs : List Linear). under cs c.proof_id) (sym grows.1) ∙ s.there in
    record { small = s.small; there = under_back g.constraints grows.0 c.proof_id c.constraint (omega arith) there }

-- before the first line
pub keeps_none : (log : LogValue) (given : List Content) → log.lines ≡ [] → AreKept given [] log
keeps_none log given e =
    let none : derived_count log.lines ≡ 0 = ap derived_count e in
    record {
      count = omega arith;
      derived_ids = All-nil (HasDerivedId log);
      follow = λ v m. All-nil (Holds v);
      last = λ f g frame fits legal stand. record { earlier = []; last = ap (derived_by f) e; stand = All-nil (StandsIn (context_of g)) };
    }

-- after one more given constraint
pub keeps_given : (log : LogValue) (given kept : List Content) (c : Content) → AreKept given kept log → AreKept (given ++ c ∷ []) kept log
keeps_given log given kept c h =
    let len = length_push given c in
    record {
      count = h.count;
      derived_ids = h.derived_ids;
      follow =
          λ v m. h.follow v (models_front v (constraints_of given) (constraints_of (c ∷ [])) (subst (λ (cs : List Linear). IsModel cs v) (map-append (λ (x : Content). x.constraint) given (c ∷ []))
          m));
      last = λ f g frame fits legal stand. h.last f g frame fits legal (λ k d l. subst (StandsIn (context_of g)) (get_or_append_left given (c ∷ []) d k l) (stand k d (omega arith)));
    }

-- a derived line's id stays one
derived_still : (first : ℕ) (ls more : List Line) (id : ℕ) → is_derived_id first ls id ≡ true → is_derived_id first (ls ++ more) id ≡ true
derived_still first [] more id h = absurd (cc)
derived_still first (l ∷ ls) more id h = go (is_derived l && eqb id first) h (derived_still (first + ids_of l) ls more id)
  where
    go : (b : Bool) → cond b true (is_derived_id (first + ids_of l) ls id) ≡ true → (is_derived_id (first + ids_of l) ls id ≡ true → is_derived_id (first + ids_of l) (ls ++ more) id ≡ true)
        → cond b true (is_derived_id (first + ids_of l) (ls ++ more) id) ≡ true
    go true q ih = refl
    go false q ih = ih q

derived_ids_still : (log : LogValue) (more : List Line) (kept : List Content) → All (HasDerivedId log) kept → All (HasDerivedId (record log { lines = log.lines ++ more })) kept
derived_ids_still log more kept all k d l = derived_still log.first log.lines more (get_or kept k d).proof_id (all k d l)

-- after a cover
pub keeps_cover : (log : LogValue) (given kept : List Content) (v : List ℕ) → All (HasGivenId log) given → AreKept given kept log
    → AreKept given kept (record log { lines = log.lines ++ cover v ∷ [] })
keeps_cover log given kept v ids h =
    let one : Line = cover v in
    let sum : derived_count (log.lines ++ one ∷ []) ≡ derived_count log.lines + derived_count (one ∷ []) = sum_by-append (λ (l : Line). cond (is_derived l) 1 0) log.lines (one ∷ []) in
    let none : derived_count (one ∷ []) ≡ 0 = refl in
    record {
      count = h.count ∙ ap (min kept_limit) (omega arith);
      derived_ids = derived_ids_still log (one ∷ []) kept h.derived_ids;
      follow = h.follow;
      last = λ f g frame fits legal stand.
          (let m = given_front f (base_of f) g log.lines (one ∷ []) legal in
          let a = h.last f m.0 frame fits m.1 (stands_back f log m.0 g (one ∷ []) given frame fits m.1 m.2 ids stand) in
          record {
            earlier = a.earlier;
            last = derived-append f (base_of f) m.0 log.lines (one ∷ []) m.1 ∙ append-nil (derived_by f log.lines) ∙ a.last;
            stand = stands_on f m.0 g (one ∷ []) kept m.2 a.stand;
          });
    }

-- of derived lines each counts
all-count : (ls : List Line) → All IsDerived ls → derived_count ls ≡ length ls
all-count [] h = refl
all-count (l ∷ ls) h =
    let here : cond {A = ℕ} (is_derived l) 1 0 ≡ 1 = ap (λ b. cond {A = ℕ} b 1 0) (All-head IsDerived l ls h) in
    let sum : derived_count (l ∷ ls) ≡ cond {A = ℕ} (is_derived l) 1 0 + derived_count ls = sum_by-cons (λ (x : Line). cond {A = ℕ} (is_derived x) 1 0) l ls in
    let ih = all-count ls (All-tail IsDerived l ls h) in
    omega arith

-- the kept clauses before any is dropped: those of before, and the new ones
kept-all : (start all : List Live) (ids ids_after : List ConId) (old new : LogValue) → All (IsKnown old) start → (a : HasAdded start all ids ids_after old new)
    → kept_of new all ≡ kept_of old start ++ map content a.more
kept-all start all ids ids_after old new known a =
    let split : kept_in new all ≡ kept_in new start ++ a.more = ap (kept_in new) a.split ∙ kept_behind new start a.more a.derived_ids in
    let same : kept_in new start ≡ kept_in old start = kept_later old new a.lines start a.written known in
    ap (map content) (split ∙ ap (λ (xs : List Live). xs ++ a.more) same) ∙ map-append content (kept_in old start) a.more

given-all : (start all : List Live) (ids ids_after : List ConId) (old new : LogValue) → All (IsKnown old) start → HasAdded start all ids ids_after old new → given_of new all ≡ given_of old start
given-all start all ids ids_after old new known a =
    ap (map content) (ap (given_in new) a.split ∙ given_before new start a.more a.derived_ids ∙ given_later_in old new a.lines start a.written known)

-- the given constraints stay
pub given_on : (start live : List Live) (old new : LogValue) → All (IsKnown old) start → GoesOnKept start live old new → given_of new live ≡ given_of old start
given_on start live old new known k = k.dropped.same_given ∙ given-all start k.all k.ids k.ids_after old new known k.added

count_on : (start live : List Live) (old new : LogValue) → All (IsKnown old) start → AreKept (given_of old start) (kept_of old start) old → GoesOnKept start live old new
    → length (kept_of new live) ≡ min kept_limit (derived_count new.lines)
count_on start live old new known h k =
    let a = k.added in
    let whole : length (kept_of new k.all) ≡ length (kept_of old start) + length (map content a.more) = ap length (kept-all start k.all k.ids k.ids_after old new known a)
    ∙ length-append (kept_of old start) (map content a.more) in
    let mapped : length (map content a.more) ≡ length a.more = length-map a.more content in
    let lines : derived_count new.lines ≡ derived_count (old.lines ++ a.lines) = ap (λ (v : LogValue). derived_count v.lines) a.written in
    let sum : derived_count (old.lines ++ a.lines) ≡ derived_count old.lines + derived_count a.lines = sum_by-append (λ (l : Line). cond {A = ℕ} (is_derived l) 1 0) old.lines a.lines in
    let each = all-count a.lines a.derived_each in
    let one = a.one_each in
    let before = h.count in
    let cut = k.count in
    omega arith

follow_on : (start live : List Live) (old new : LogValue) → All (IsKnown old) start → AreKept (given_of old start) (kept_of old start) old → GoesOnKept start live old new → (v : ℕ → Bool)
    → IsModel (constraints_of (given_of new live)) v → IsModel (constraints_of (kept_of new live)) v
follow_on start live old new known h k v m =
    let M : List Content → Type 0 = λ cs. IsModel (constraints_of cs) v in
    let given : IsModel (constraints_of (given_of old start)) v = subst M (given_on start live old new known k) m in
    let all = k.added.follow v (model_all v old start given (h.follow v given)) in
    let both : IsModel (constraints_of (k.dropped.dropped ++ kept_of new live)) v = subst M k.dropped.oldest (model_kept v new k.all all) in
    models_back v (constraints_of k.dropped.dropped) (constraints_of (kept_of new live)) (subst (λ (cs : List Linear). IsModel cs v)
    (map-append (λ (x : Content). x.constraint) k.dropped.dropped (kept_of new live)) both)

-- in a frame, what is kept before any is dropped
last_all : (f : Frame) (start all : List Live) (ids ids_after : List ConId) (old new : LogValue) (g h : Given) → All (IsKnown old) start → (a : HasAdded start all ids ids_after old new)
    → given_by f old.lines ≡ Some g → given_from f g a.lines ≡ Some h → AreLastDerived f g old.lines (kept_of old start) → AreGiven f g all a.more a.lines
    → AreLastDerived f h new.lines (kept_of new all)
last_all f start all ids ids_after old new g h known a legal later kp w =
    let ks : List Content = kept_of old start in
    let ms : List Content = map content a.more in
    let same : w.after ≡ h = some_same w.after h (sym w.legal ∙ later) in
    let S : Given → Type 0 = λ x. All (λ (e : Live). StandsUnder (context_of x) e.proof_id e.constraint) a.more in
    let stands : All (StandsIn (context_of h)) (ks ++ ms) = All-append (StandsIn (context_of h)) ks ms (stands_on f g h a.lines ks later kp.stand)
    (All-map (StandsIn (context_of h)) content a.more (subst S same w.stand)) in
    let new-ones : derived_from f g a.lines ≡ constraints_of ms = w.gives ∙ sym (given_are a.more) in
    let whole : derived_by f new.lines ≡ derived_by f old.lines ++ derived_from f g a.lines = ap (λ (v : LogValue). derived_by f v.lines) a.written
    ∙ derived-append f (base_of f) g old.lines a.lines legal in
    let parts : derived_by f old.lines ++ derived_from f g a.lines ≡ (kp.earlier ++ constraints_of ks) ++ constraints_of ms = ap (λ (cs : List Linear). cs ++ derived_from f g a.lines) kp.last
    ∙ ap (λ (cs : List Linear). (kp.earlier ++ constraints_of ks) ++ cs) new-ones in
    let joined : (kp.earlier ++ constraints_of ks) ++ constraints_of ms ≡ kp.earlier ++ constraints_of (ks ++ ms) = append_assoc kp.earlier (constraints_of ks) (constraints_of ms)
    ∙ ap (λ (cs : List Linear). kp.earlier ++ cs) (sym (map-append (λ (x : Content). x.constraint) ks ms)) in
    let L : List Content → Type 0 = λ cs. AreLastDerived f h new.lines cs in
    subst L (sym (kept-all start all ids ids_after old new known a)) (record { earlier = kp.earlier; last = whole ∙ parts ∙ joined; stand = stands })

-- and after the oldest were dropped
last_dropped : (f : Frame) (h : Given) (lines : List Line) (dropped kept : List Content) → AreLastDerived f h lines (dropped ++ kept) → AreLastDerived f h lines kept
last_dropped f h lines dropped kept a =
    let len = length-append dropped kept in
    record {
      earlier = a.earlier ++ constraints_of dropped;
      last =
          a.last ∙ ap (λ (cs : List Linear). a.earlier ++ cs) (map-append (λ (x : Content). x.constraint) dropped kept) ∙ sym (append_assoc a.earlier (constraints_of dropped) (constraints_of kept));
      stand = All-right (StandsIn (context_of h)) dropped kept a.stand;
    }

last_on : (start live : List Live) (old new : LogValue) → All (IsKnown old) start → All (HasGivenId old) (given_of old start) → AreKept (given_of old start) (kept_of old start) old
    → GoesOnKept start live old new → (f : Frame) (h : Given) → IsFrame f → FitsFrom f new.first → given_by f new.lines ≡ Some h → All (StandsIn (context_of h)) (given_of new live)
    → AreLastDerived f h new.lines (kept_of new live)
last_on start live old new known ids keeps k f h frame fits legal stand =
    let a = k.added in
    let whole : given_by f (old.lines ++ a.lines) ≡ Some h = ap (λ (v : LogValue). given_by f v.lines) (sym a.written) ∙ legal in
    let m = given_front f (base_of f) h old.lines a.lines whole in
    let fits-old : FitsFrom f old.first = subst (FitsFrom f) (ap (λ (v : LogValue). v.first) a.written) fits in
    let S : List Content → Type 0 = λ cs. All (StandsIn (context_of h)) cs in
    let back = stands_back f old m.0 h a.lines (given_of old start) frame fits-old m.1 m.2 ids (subst S (given_on start live old new known k) stand) in
    let kp = keeps.last f m.0 frame fits-old m.1 back in
    let w = a.shown f m.0 frame fits-old m.1 (under_parts (context_of m.0) old start back kp.stand) in
    let all = last_all f start k.all k.ids k.ids_after old new m.0 h known a m.1 m.2 kp w in
    last_dropped f h new.lines k.dropped.dropped (kept_of new live) (subst (λ (cs : List Content). AreLastDerived f h new.lines cs) k.dropped.oldest all)

-- after a search
pub keeps_on : (start live : List Live) (old new : LogValue) → All (IsKnown old) start → All (HasGivenId old) (given_of old start) → AreKept (given_of old start) (kept_of old start) old
    → GoesOnKept start live old new → AreKept (given_of new live) (kept_of new live) new
keeps_on start live old new known ids keeps k = record {
  count = count_on start live old new known keeps k;
  derived_ids = All-map (HasDerivedId new) content (kept_in new live) (filter_passes (is_kept new) live);
  follow = follow_on start live old new known keeps k;
  last = last_on start live old new known ids keeps k;
}
