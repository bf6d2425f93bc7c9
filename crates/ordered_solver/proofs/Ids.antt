-- Given ids stay given ids when a log grows, and kept clauses stay kept ones.
use Rattle.std.proofs.Common.{◌≡◌, ℕ, ◌+◌, ◌<◌, Bool, true, false, cond, eqb, List, [], ◌∷◌, ◌++◌, length, get_or, refl, sym, ap, ◌∙◌, subst, arith, zero, suc}
use Rattle.std.specs.Prelude.{All, filter, not, ◌&&◌}
use Rattle.std.proofs.lemmas.Bool.Decides.{nat_tests}
use Rattle.std.proofs.lemmas.List.Elements.{All-push, All-head, All-tail}
use Rattle.std.proofs.lemmas.List.Sums.{sum_by-cons, sum_by-append}
use Rattle.pb_rules.specs.Linear.{Linear}
use Rattle.pb_rules.specs.declared.Op.{Op}
use Rattle.pb_rules.specs.Frames.{Line, derived, is_derived, ids_of, ids_in}
use Rattle.proof_log.specs.Log.{LogValue, next_id}
use Rattle.constraint_store.specs.Live.{Live, Content}
use Rattle.ordered_solver.specs.Engines.{IsKnown, is_kept, kept_in, given_in}
use Rattle.ordered_solver.specs.Solver.{IsGivenId, HasGivenId, is_derived_id, numbered}
use Rattle.ordered_solver.proofs.Loading.{or_true}

neither : (b : Bool) → b && false ≡ false
neither true = refl
neither false = refl

-- an id below the first one is no line's
below_first : (first : ℕ) (ls : List Line) (id : ℕ) → id < first → is_derived_id first ls id ≡ false
below_first first [] id h = refl
below_first first (l ∷ ls) id h =
    let other : eqb id first ≡ false = grind (arith, nat_tests) in
    let here : is_derived l && eqb id first ≡ false = ap (λ b. is_derived l && b) other ∙ neither (is_derived l) in
    let ih = below_first (first + ids_of l) ls id (omega arith) in
    ap (λ b. cond b true (is_derived_id (first + ids_of l) ls id)) here ∙ ih

-- more lines leave the ids before them
derived_more : (first : ℕ) (ls more : List Line) (id : ℕ) → id < first + ids_in ls → is_derived_id first (ls ++ more) id ≡ is_derived_id first ls id
derived_more first [] more id h = below_first first more id (omega arith)
derived_more first (l ∷ ls) more id h =
    let sum : ids_in (l ∷ ls) ≡ ids_of l + ids_in ls = sum_by-cons ids_of l ls in
    ap (λ b. cond (is_derived l && eqb id first) true b) (derived_more (first + ids_of l) ls more id (omega arith))

given_later : (log : LogValue) (more : List Line) (id : ℕ) → IsGivenId log id → IsGivenId (record log { lines = log.lines ++ more }) id
given_later log more id g =
    let sum : ids_in (log.lines ++ more) ≡ ids_in log.lines + ids_in more = sum_by-append ids_of log.lines more in
    let before = g.before_next in
    record { from_one = g.from_one; before_next = omega arith; not_derived = derived_more log.first log.lines more id before ∙ g.not_derived }

-- all of them
pub given_ids_later : (log new : LogValue) (more : List Line) (given : List Content) → new ≡ record log { lines = log.lines ++ more } → All (HasGivenId log) given → All (HasGivenId new) given
given_ids_later log new more given e all k d l =
    let P : LogValue → Type 0 = λ v. HasGivenId v (get_or given k d) in
    subst P (sym e) (given_later log more (get_or given k d).proof_id (all k d l))

numbered_at : (id : ℕ) (cs : List Linear) (k : ℕ) (d : Content) → k < length (numbered id cs) → ((get_or (numbered id cs) k d).proof_id ≡ id + k) × (k < length cs)
numbered_at id [] k d h = absurd (omega arith)
numbered_at id (c ∷ cs) zero d h = (omega arith, omega arith)
numbered_at id (c ∷ cs) (suc k) d h = let r = numbered_at (id + 1) cs k d (omega arith) in (omega (arith, r.0), omega (arith, r.1))

-- those of a new solver
pub given_ids_new : (log : LogValue) (cs : List Linear) (given : List Content) → log ≡ record { first = length cs + 1; lines = [] } → given ≡ numbered 1 cs → All (HasGivenId log) given
given_ids_new log cs given e g =
    let fresh : LogValue = record { first = length cs + 1; lines = [] } in
    let all : All (HasGivenId fresh) (numbered 1 cs) = λ k d l.
    (let r = numbered_at 1 cs k d l in
    let at = r.0 in
    let lt = r.1 in
    record { from_one = omega arith; before_next = omega arith; not_derived = refl }) in
    let P : LogValue → List Content → Type 0 = λ v xs. All (HasGivenId v) xs in
    subst (λ (v : LogValue). P v given) (sym e) (subst (P fresh) (sym g) all)

-- the next id is that of a derived line which comes next
derived_next : (first : ℕ) (ls : List Line) (ops : List Op) (id : ℕ) → id ≡ first + ids_in ls → is_derived_id first (ls ++ derived ops ∷ []) id ≡ true
derived_next first [] ops id e =
    let here : eqb id first ≡ true = grind (arith, nat_tests) in
    ap (λ b. cond b true false) here
derived_next first (l ∷ ls) ops id e =
    let sum : ids_in (l ∷ ls) ≡ ids_of l + ids_in ls = sum_by-cons ids_of l ls in
    ap (λ b. cond (is_derived l && eqb id first) true b) (derived_next (first + ids_of l) ls ops id (omega arith)) ∙ or_true (is_derived l && eqb id first)

-- one learned clause more under the next id
abbrev pub with_line : LogValue → List Op → LogValue
with_line log ops = record log { lines = log.lines ++ derived ops ∷ [] }

pub kept_more : (log : LogValue) (more : List Live) (x : Live) (ops : List Op) → x.proof_id ≡ next_id log → All (IsKnown log) more → All (λ e. is_kept log e ≡ true) more
    → All (λ e. is_kept (with_line log ops) e ≡ true) (more ++ x ∷ [])
kept_more log more x ops next known all =
    let K : Live → Type 0 = λ e. is_kept (with_line log ops) e ≡ true in
    All-push K more x (λ k d l. derived_more log.first log.lines (derived ops ∷ []) (get_or more k d).proof_id (known k d l) ∙ all k d l) (derived_next log.first log.lines ops x.proof_id next)

pub known_more : (log : LogValue) (more : List Live) (x : Live) (ops : List Op) → x.proof_id ≡ next_id log → All (IsKnown log) more → All (IsKnown (with_line log ops)) (more ++ x ∷ [])
known_more log more x ops next known =
    let sum : ids_in (log.lines ++ derived ops ∷ []) ≡ ids_in log.lines + ids_in (derived ops ∷ []) = sum_by-append ids_of log.lines (derived ops ∷ []) in
    let one : ids_in (derived ops ∷ []) ≡ ids_of (derived ops) + ids_in [] = sum_by-cons ids_of (derived ops) [] in
    All-push (IsKnown (with_line log ops)) more x (λ k d l. (let before = known k d l in omega arith)) (omega arith)

-- what a longer log knows
pub known_later : (log new : LogValue) (more : List Line) (live : List Live) → new ≡ record log { lines = log.lines ++ more } → All (IsKnown log) live → All (IsKnown new) live
known_later log new more live e known =
    let sum : ids_in (log.lines ++ more) ≡ ids_in log.lines + ids_in more = sum_by-append ids_of log.lines more in
    subst (λ (v : LogValue). All (IsKnown v) live) (sym e) (λ k d l. (let before = known k d l in omega arith))

-- tests that say the same of each element keep the same
filter_same : (p q : Live → Bool) (live : List Live) → All (λ e. p e ≡ q e) live → filter p live ≡ filter q live
filter_same p q [] h = refl
filter_same p q (e ∷ live) h =
    let here : p e ≡ q e = All-head (λ (x : Live). p x ≡ q x) e live h in
    let rest = filter_same p q live (All-tail (λ (x : Live). p x ≡ q x) e live h) in
    ap (λ b. cond b (e ∷ filter p live) (filter p live)) here ∙ ap (λ (ls : List Live). cond (q e) (e ∷ ls) ls) rest

same_test : (log new : LogValue) (more : List Line) (live : List Live) → new ≡ record log { lines = log.lines ++ more } → All (IsKnown log) live → All (λ e. is_kept new e ≡ is_kept log e) live
same_test log new more live e known =
    subst (λ (v : LogValue). All (λ (x : Live). is_kept v x ≡ is_kept log x) live) (sym e) (λ k d l. derived_more log.first log.lines more (get_or live k d).proof_id (known k d l))

-- in a longer log the same constraints are kept clauses, and the same are given
pub kept_later : (log new : LogValue) (more : List Line) (live : List Live) → new ≡ record log { lines = log.lines ++ more } → All (IsKnown log) live → kept_in new live ≡ kept_in log live
kept_later log new more live e known = filter_same (is_kept new) (is_kept log) live (same_test log new more live e known)

pub given_later_in : (log new : LogValue) (more : List Line) (live : List Live) → new ≡ record log { lines = log.lines ++ more } → All (IsKnown log) live → given_in new live ≡ given_in log live
given_later_in log new more live e known =
    let same = same_test log new more live e known in
    filter_same (λ x. not (is_kept new x)) (λ x. not (is_kept log x)) live (λ k d l. ap not (same k d l))
