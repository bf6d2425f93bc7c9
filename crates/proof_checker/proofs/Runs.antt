-- Runs of words that weaken.
use Rattle.std.proofs.Common.{◌≡◌, ℕ, suc, ◌+◌, ◌-◌, ◌<◌, ◌≤◌, ◌^◌, Bool, cond, List, [], ◌∷◌, ◌++◌, length, map, take, drop, get_or, Option, Some, Result, Ok, Err, refl, sym, ap, ◌∙◌, subst, arith, Bor}
use Rattle.std.specs.Prelude.{All}
use Rattle.std.proofs.lemmas.Bool.{lt-ltb}
use Rattle.std.proofs.lemmas.List.{map_more, map_push, get_or-drop, drop-drop, length-append, length-drop}
use Rattle.std.proofs.lemmas.List.Elements.{All-push}
use Rattle.std.proofs.lemmas.List.Sorted.{IsNonDecreasingBy-push}
use Rattle.line_words.specs.Rules.{said}
use Rattle.pb_rules.specs.declared.Op.{Op}
use Rattle.pb_rules.specs.declared.Op.TheVariants.{Weaken}
use Rattle.pb_rules.specs.Linear.{Linear}
use Rattle.pb_rules.specs.CuttingPlanes.{weaken}
use Rattle.pb_rules.specs.Operations.{Fault, and_then, for_top, if_known, unknown, no_step}
use Rattle.cutting_planes.specs.Weakened.{weaken_each}
use Rattle.block_encode.specs.Laws.{KnowsBelow}
use Rattle.front_model.specs.Judging.{judge_op, judge_words}
use Rattle.proof_checker.specs.Answers.{context_over, StepHalts}
use Rattle.proof_checker.specs.Runs.{word_op, weakening, Follows, IsRun, weaken_run}
use Rattle.proof_checker.specs.declared.faults.StepFault.{StepFault}
use Rattle.proof_checker.proofs.Loops.{halts_on}

abbrev Lent : Type 0
Lent = Bor (List ℕ)

-- ---- finding one

pub run_begins : (known : ℕ) (ws : List Lent) (from : ℕ) (xs : List ℕ) → from ≤ length ws → xs ≡ [] → IsRun known ws from xs
run_begins known ws from xs l none = subst (IsRun known ws from) (sym none) empty
  where
    empty : IsRun known ws from []
    empty = record {
      says = refl;
      within = omega (arith, l);
      there = λ k d q. absurd (omega (arith, q));
      rising = λ i j d p q. absurd (omega (arith, q));
    }

pub run_goes_on : (known : ℕ) (ws : List Lent) (from next least x : ℕ) (xs new : List ℕ) (d : Lent) → IsRun known ws from xs → All (λ y. y ≤ least) xs → next ≡ from + length xs → next < length ws
    → Follows known least (get_or ws next d).now x → new ≡ xs ++ x ∷ [] → IsRun known ws from new
run_goes_on known ws from next least x xs new d r h here l f more =
    let vs = drop from ws in
    let n = length xs in
    let w = get_or ws next d in
    let long : length (xs ++ x ∷ []) ≡ n + 1 = length-append xs (x ∷ []) in
    let inside : n < length vs = omega (arith, length-drop from ws, here, l) in
    let found : get_or vs n d ≡ w = get_or-drop from ws n d ∙ ap (λ (k : ℕ). get_or ws k d) (sym here) in
    let front = map word_op (take n vs) in
    let words : map word_op (take (n + 1) vs) ≡ front ++ word_op w ∷ [] = map_more word_op vs n d inside ∙ ap (λ (v : Lent). front ++ word_op v ∷ []) found in
    let vars : front ++ word_op w ∷ [] ≡ map weakening (xs ++ x ∷ []) =
    ap (λ (os : List (Option Op)). os ++ word_op w ∷ []) r.says ∙ (ap (λ (o : Option Op). map weakening xs ++ o ∷ []) f.says ∙ sym (map_push weakening xs x)) in
    let whole : IsRun known ws from (xs ++ x ∷ []) = record {
      says = ap (λ (k : ℕ). map word_op (take k vs)) long ∙ (words ∙ vars);
      within = omega (arith, long, here, l);
      there = All-push (λ y. y < known) xs x r.there f.there;
      rising = IsNonDecreasingBy-push (λ y. y) xs x r.rising (λ e some. (let last = h (n - 1) e (omega (arith, some)) in omega (arith, last, f.after)));
    } in
    subst (IsRun known ws from) (sym more) whole

pub none_above : (least : ℕ) (xs : List ℕ) → xs ≡ [] → All (λ y. y ≤ least) xs
none_above least xs none k d q = absurd (omega (arith, q, ap length none))

pub least_goes_on : (least x : ℕ) (xs new : List ℕ) → All (λ y. y ≤ least) xs → least ≤ x → new ≡ xs ++ x ∷ [] → All (λ y. y ≤ x) new
least_goes_on least x xs new h l more = subst (All (λ y. y ≤ x)) (sym more) (All-push (λ y. y ≤ x) xs x (λ k d q. (let before = h k d q in omega (arith, before, l))) (omega arith))

-- ---- carrying one out

weakens : (cs : List Linear) (known x : ℕ) (st : List Linear) → KnowsBelow cs known → known ≤ 2 ^ 62 → x < known → judge_op (context_over cs) st (Some (Weaken x)) ≡ for_top (λ a. Ok (weaken x a)) st
weakens cs known x st knows few l =
    let done : Result (List Linear) Fault = for_top (λ a. Ok (weaken x a)) st in
    let small : x < 2 ^ 63 = omega (arith, few, l) in
    ap (λ (b : Bool). cond b (if_known (context_over cs) x done) (Err no_step)) (lt-ltb x (2 ^ 63) small)
    ∙ ap (λ (b : Bool). cond b done (Err (unknown x))) (knows x ∙ lt-ltb x known l)

-- the words of a run over a constraint
over_top : (cs : List Linear) (known : ℕ) (xs : List ℕ) (ws : List Lent) (a : Linear) (st : List Linear) → KnowsBelow cs known → known ≤ 2 ^ 62
    → map word_op (take (length xs) ws) ≡ map weakening xs → All (λ x. x < known) xs
    → judge_words (context_over cs) (said ws) (a ∷ st) ≡ judge_words (context_over cs) (said (drop (length xs) ws)) (weaken_each xs a ∷ st)
over_top cs known [] ws a st knows few e h = refl
over_top cs known (x ∷ xs) [] a st knows few e h = absurd cc
over_top cs known (x ∷ xs) (w ∷ ws) a st knows few e h =
    let go = and_then (judge_words (context_over cs) (said ws)) in
    let head : word_op w ≡ Some (Weaken x) = cc in
    let tail : map word_op (take (length xs) ws) ≡ map weakening xs = cc in
    ap (λ (o : Option Op). go (judge_op (context_over cs) (a ∷ st) o)) head
    ∙ (ap go (weakens cs known x (a ∷ st) knows few (h 0 x (omega arith)))
    ∙ over_top cs known xs ws (weaken x a) st knows few tail (λ k d q. h (suc k) d (omega (arith, q))))

-- the words of a run that isn't empty
over : (cs : List Linear) (known : ℕ) (xs : List ℕ) (ws : List Lent) (st : List Linear) → KnowsBelow cs known → known ≤ 2 ^ 62 → map word_op (take (length xs) ws) ≡ map weakening xs
    → All (λ x. x < known) xs → 0 < length xs
    → judge_words (context_over cs) (said ws) st ≡ and_then (judge_words (context_over cs) (said (drop (length xs) ws))) (weaken_run xs st)
over cs known [] ws st knows few e h some = absurd (omega (arith, some))
over cs known (x ∷ xs) [] st knows few e h some = absurd cc
over cs known (x ∷ xs) (w ∷ ws) [] knows few e h some =
    let go = and_then (judge_words (context_over cs) (said ws)) in
    let head : word_op w ≡ Some (Weaken x) = cc in
    ap (λ (o : Option Op). go (judge_op (context_over cs) [] o)) head ∙ ap go (weakens cs known x [] knows few (h 0 x (omega arith)))
over cs known (x ∷ xs) (w ∷ ws) (a ∷ st) knows few e h some = over_top cs known (x ∷ xs) (w ∷ ws) a st knows few e h

pub run_taken : (cs : List Linear) (known : ℕ) (ws : List Lent) (from next : ℕ) (xs vars : List ℕ) (st new : List Linear) → KnowsBelow cs known → known ≤ 2 ^ 62 → IsRun known ws from xs
    → 0 < length xs → vars ≡ xs → next ≡ from + length xs
    → weaken_run vars st ≡ Ok new → judge_words (context_over cs) (said (drop from ws)) st ≡ judge_words (context_over cs) (said (drop next ws)) new
run_taken cs known ws from next xs vars st new knows few r some same on e =
    let rest : drop (length xs) (drop from ws) ≡ drop next ws = drop-drop (length xs) from ws ∙ ap (λ (k : ℕ). drop k ws) (sym on) in
    let left : weaken_run xs st ≡ Ok new = ap (λ (vs : List ℕ). weaken_run vs st) (sym same) ∙ e in
    over cs known xs (drop from ws) st knows few r.says r.there some
    ∙ (ap (and_then (judge_words (context_over cs) (said (drop (length xs) (drop from ws))))) left
    ∙ ap (λ (vs : List Lent). judge_words (context_over cs) (said vs) new) rest)

pub run_refused : (cs : List Linear) (known : ℕ) (ws : List Lent) (from : ℕ) (xs vars : List ℕ) (st : List Linear) (f : StepFault) → KnowsBelow cs known → known ≤ 2 ^ 62 → IsRun known ws from xs
    → 0 < length xs → vars ≡ xs
    → StepHalts (weaken_run vars st) f → StepHalts (judge_words (context_over cs) (said (drop from ws)) st) f
run_refused cs known ws from xs vars st f knows few r some same h =
    let rest = judge_words (context_over cs) (said (drop (length xs) (drop from ws))) in
    let halts : StepHalts (weaken_run xs st) f = subst (λ (vs : List ℕ). StepHalts (weaken_run vs st) f) same h in
    subst (λ (o : Result (List Linear) Fault). StepHalts o f) (sym (over cs known xs (drop from ws) st knows few r.says r.there some)) (halts_on rest (weaken_run xs st) f halts)
