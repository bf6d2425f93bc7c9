-- The live constraints are the given ones and the kept clauses: what is said of the parts is said of all, and the other way round.
use Rattle.std.proofs.Common.{◌≡◌, ℕ, Bool, true, false, not, cond, List, [], ◌∷◌, ◌++◌, length, get_or, map, refl, sym, ap, ◌∙◌, subst, arith, append-nil}
use Rattle.std.specs.Prelude.{All, Contains, filter}
use Rattle.std.proofs.lemmas.List.{get_or-map, length-map}
use Rattle.std.proofs.lemmas.List.Elements.{All-head, All-tail, All-cons, All-map, All-filter, All-contains, Contains-append_left, Contains-append_right, filter-append}
use Rattle.pb_rules.specs.Linear.{Linear, Holds, IsModel, AreAmong}
use Rattle.pb_rules.specs.Operations.{Context}
use Rattle.pb_rules.specs.Frames.{Line, StandsUnder}
use Rattle.pb_rules.proofs.Closed.{among_append}
use Rattle.proof_log.specs.Log.{LogValue}
use Rattle.constraint_store.specs.Live.{Live, content}
use Rattle.conflict_graph.specs.Derives.{HasUnder}
use Rattle.conflict_graph.specs.Learned.{constraints_in}
use Rattle.ordered_solver.specs.Engines.{is_kept, kept_in, given_in, given_of, kept_of}
use Rattle.ordered_solver.specs.Solver.{StandsIn, constraints_of, is_derived_id}
use Rattle.ordered_solver.proofs.Loading.{live-all}

-- the constraints of live ones with and without their ids
pub given_are : (live : List Live) → constraints_of (map content live) ≡ constraints_in live
given_are [] = refl
given_are (e ∷ live) = ap (λ (cs : List Linear). e.constraint ∷ cs) (given_are live)

abbrev pub fails : (Live → Bool) → Live → Bool
fails p e = not (p e)

-- what holds of those that pass a test and of those that fail it holds of all
pub parts_all : (P : Live → Type 0) (p : Live → Bool) (live : List Live) → All P (filter (fails p) live) → All P (filter p live) → All P live
parts_all P p [] a b = a
parts_all P p (e ∷ live) a b = go (p e) refl (parts_all P p live)
  where
    go : (t : Bool) → p e ≡ t → (All P (filter (fails p) live) → All P (filter p live) → All P live) → All P (e ∷ live)
    go true q ih =
        let fa : filter (fails p) (e ∷ live) ≡ filter (fails p) live = ap (λ (t : Bool). cond (not t) (e ∷ filter (fails p) live) (filter (fails p) live)) q in
        let pa : filter p (e ∷ live) ≡ e ∷ filter p live = ap (λ (t : Bool). cond t (e ∷ filter p live) (filter p live)) q in
        let b' : All P (e ∷ filter p live) = subst (λ (xs : List Live). All P xs) pa b in
        All-cons P e live (All-head P e (filter p live) b') (ih (subst (λ (xs : List Live). All P xs) fa a) (All-tail P e (filter p live) b'))
    go false q ih =
        let fa : filter (fails p) (e ∷ live) ≡ e ∷ filter (fails p) live = ap (λ (t : Bool). cond (not t) (e ∷ filter (fails p) live) (filter (fails p) live)) q in
        let pa : filter p (e ∷ live) ≡ filter p live = ap (λ (t : Bool). cond t (e ∷ filter p live) (filter p live)) q in
        let a' : All P (e ∷ filter (fails p) live) = subst (λ (xs : List Live). All P xs) fa a in
        All-cons P e live (All-head P e (filter (fails p) live) a') (ih (All-tail P e (filter (fails p) live) a') (subst (λ (xs : List Live). All P xs) pa b))

-- what holds of what a function makes of a list
pub all_unmap : {X Y : Type 0} (P : Y → Type 0) (f : X → Y) (xs : List X) → All P (map f xs) → All (λ x. P (f x)) xs
all_unmap P f xs all k d l =
    let len : length (map f xs) ≡ length xs = length-map xs f in
    subst P (get_or-map f xs k d (f d) l) (all k (f d) (omega arith))

-- what stands in a frame by a solver's two lists stands there by its store
pub under_parts : (context : Context) (log : LogValue) (live : List Live) → All (StandsIn context) (given_of log live) → All (StandsIn context) (kept_of log live) → HasUnder context live
under_parts context log live given kept c on =
    let S : Live → Type 0 = λ e. StandsUnder context e.proof_id e.constraint in
    live-all S live c (parts_all S (is_kept log) live (all_unmap (StandsIn context) content (given_in log live) given) (all_unmap (StandsIn context) content (kept_in log live) kept)) on

abbrev HoldsOf : (ℕ → Bool) → Live → Type 0
HoldsOf v e = Holds v e.constraint

constraint_all : (v : ℕ → Bool) (live : List Live) → IsModel (constraints_in live) v → All (HoldsOf v) live
constraint_all v live m = all_unmap (Holds v) (λ (e : Live). e.constraint) live m

content-all : (v : ℕ → Bool) (live : List Live) → IsModel (constraints_of (map content live)) v → All (HoldsOf v) live
content-all v live m = constraint_all v live (subst (λ (cs : List Linear). IsModel cs v) (given_are live) m)

all-content : (v : ℕ → Bool) (live : List Live) → All (HoldsOf v) live → IsModel (constraints_of (map content live)) v
all-content v live all = subst (λ (cs : List Linear). IsModel cs v) (sym (given_are live)) (All-map (Holds v) (λ (e : Live). e.constraint) live all)

-- models of the parts, and of all
pub model_all : (v : ℕ → Bool) (log : LogValue) (live : List Live) → IsModel (constraints_of (given_of log live)) v → IsModel (constraints_of (kept_of log live)) v → IsModel (constraints_in live) v
model_all v log live given kept =
    All-map (Holds v) (λ (e : Live). e.constraint) live (parts_all (HoldsOf v) (is_kept log) live (content-all v (given_in log live) given) (content-all v (kept_in log live) kept))

pub model_given : (v : ℕ → Bool) (log : LogValue) (live : List Live) → IsModel (constraints_in live) v → IsModel (constraints_of (given_of log live)) v
model_given v log live m = all-content v (given_in log live) (All-filter (fails (is_kept log)) (HoldsOf v) live (constraint_all v live m))

pub model_kept : (v : ℕ → Bool) (log : LogValue) (live : List Live) → IsModel (constraints_in live) v → IsModel (constraints_of (kept_of log live)) v
model_kept v log live m = all-content v (kept_in log live) (All-filter (is_kept log) (HoldsOf v) live (constraint_all v live m))

-- a list has the constraint of a live one
abbrev HasIt : List Linear → Live → Type 0
HasIt cs e = Contains cs e.constraint

has_own : (live : List Live) → All (HasIt (constraints_in live)) live
has_own live k d l =
    let f : Live → Linear = λ e. e.constraint in
    let len : length (map f live) ≡ length live = length-map live f in
    (k, omega arith, get_or-map f live k d (f (get_or live k d)) l)

among_of : (cs : List Linear) (live : List Live) → All (HasIt cs) live → AreAmong (constraints_in live) cs
among_of cs live all c h = All-contains (λ (x : Linear). Contains cs x) (constraints_in live) c (All-map (λ (x : Linear). Contains cs x) (λ (e : Live). e.constraint) live all) h

among_part : (p : Live → Bool) (live : List Live) → AreAmong (constraints_of (map content (filter p live))) (constraints_in live)
among_part p live =
    subst (λ (cs : List Linear). AreAmong cs (constraints_in live)) (sym (given_are (filter p live)))
    (among_of (constraints_in live) (filter p live) (All-filter p (HasIt (constraints_in live)) live (has_own live)))

-- the given constraints are among all, and so are both parts
pub given_among : (log : LogValue) (live : List Live) → AreAmong (constraints_of (given_of log live)) (constraints_in live)
given_among log live = among_part (fails (is_kept log)) live

pub both_among : (log : LogValue) (live : List Live) → AreAmong (constraints_of (given_of log live) ++ constraints_of (kept_of log live)) (constraints_in live)
both_among log live = among_append (constraints_of (given_of log live)) (constraints_of (kept_of log live)) (constraints_in live) (given_among log live) (among_part (is_kept log) live)

-- and all are among the two parts
pub all_among : (log : LogValue) (live : List Live) → AreAmong (constraints_in live) (constraints_of (given_of log live) ++ constraints_of (kept_of log live))
all_among log live =
    let gs : List Linear = constraints_of (given_of log live) in
    let ks : List Linear = constraints_of (kept_of log live) in
    among_of (gs ++ ks) live (parts_all (HasIt (gs ++ ks)) (is_kept log) live
    (λ k d l. Contains-append_left gs ks (get_or (given_in log live) k d).constraint (subst (λ (cs : List Linear). HasIt cs (get_or (given_in log live) k d)) (sym (given_are (given_in log live)))
    (has_own (given_in log live) k d l)))
    (λ k d l. Contains-append_right gs ks (get_or (kept_in log live) k d).constraint (subst (λ (cs : List Linear). HasIt cs (get_or (kept_in log live) k d)) (sym (given_are (kept_in log live)))
    (has_own (kept_in log live) k d l))))

-- a test that each element passes keeps all, and the opposite one none
filter-all : (p : Live → Bool) (live : List Live) → All (λ e. p e ≡ true) live → filter p live ≡ live
filter-all p [] h = refl
filter-all p (e ∷ live) h =
    let here : p e ≡ true = All-head (λ (x : Live). p x ≡ true) e live h in
    let ih = filter-all p live (All-tail (λ (x : Live). p x ≡ true) e live h) in
    ap (λ (t : Bool). cond t (e ∷ filter p live) (filter p live)) here ∙ ap (λ (xs : List Live). e ∷ xs) ih

filter-none : (p : Live → Bool) (live : List Live) → All (λ e. p e ≡ true) live → filter (fails p) live ≡ []
filter-none p [] h = refl
filter-none p (e ∷ live) h =
    let here : p e ≡ true = All-head (λ (x : Live). p x ≡ true) e live h in
    let ih = filter-none p live (All-tail (λ (x : Live). p x ≡ true) e live h) in
    ap (λ (t : Bool). cond (not t) (e ∷ filter (fails p) live) (filter (fails p) live)) here ∙ ih

-- behind others, clauses that are kept
pub kept_behind : (log : LogValue) (start more : List Live) → All (λ e. is_kept log e ≡ true) more → kept_in log (start ++ more) ≡ kept_in log start ++ more
kept_behind log start more all = filter-append (is_kept log) start more ∙ ap (λ (xs : List Live). kept_in log start ++ xs) (filter-all (is_kept log) more all)

pub given_before : (log : LogValue) (start more : List Live) → All (λ e. is_kept log e ≡ true) more → given_in log (start ++ more) ≡ given_in log start
given_before log start more all =
    filter-append (fails (is_kept log)) start more ∙ ap (λ (xs : List Live). given_in log start ++ xs) (filter-none (is_kept log) more all) ∙ append-nil (given_in log start)

-- where nothing is kept, all is given
turned : (p : Live → Bool) (live : List Live) → All (λ e. p e ≡ false) live → (filter p live ≡ []) × (filter (fails p) live ≡ live)
turned p [] h = (refl, refl)
turned p (e ∷ live) h =
    let here : p e ≡ false = All-head (λ (x : Live). p x ≡ false) e live h in
    let ih = turned p live (All-tail (λ (x : Live). p x ≡ false) e live h) in (
      ap (λ (t : Bool). cond t (e ∷ filter p live) (filter p live)) here ∙ ih.0,
      ap (λ (t : Bool). cond (not t) (e ∷ filter (fails p) live) (filter (fails p) live)) here
          ∙ ap (λ (xs : List Live). e ∷ xs) ih.1,
    )

pub none-kept : (log : LogValue) (live : List Live) → log.lines ≡ [] → (kept_in log live ≡ []) × (given_in log live ≡ live)
none-kept log live e = turned (is_kept log) live (λ k d l. ap (λ (ls : List Line). is_derived_id log.first ls (get_or live k d).proof_id) e)

-- one given constraint more
pub kept-given : (log : LogValue) (live : List Live) (x : Live) → is_kept log x ≡ false → (kept_in log (live ++ x ∷ []) ≡ kept_in log live)
    × (given_in log (live ++ x ∷ []) ≡ given_in log live ++ x ∷ [])
kept-given log live x e =
    let p : Live → Bool = is_kept log in
    let one : filter p (x ∷ []) ≡ [] = ap (λ (t : Bool). cond t (x ∷ []) []) e in
    let other : filter (fails p) (x ∷ []) ≡ x ∷ [] = ap (λ (t : Bool). cond (not t) (x ∷ []) []) e in (
      filter-append p live (x ∷ []) ∙ ap (λ (xs : List Live). kept_in log live ++ xs) one ∙ append-nil (kept_in log live),
      filter-append (fails p) live (x ∷ [])
          ∙ ap (λ (xs : List Live). given_in log live ++ xs) other,
    )
