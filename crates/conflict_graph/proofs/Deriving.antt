-- What the written operations give: a constraint in conflict becomes a clause, and two clauses their resolvent.
use Rattle.std.proofs.Common.{◌≡◌, ℕ, ◌+◌, ◌-◌, ◌<◌, ◌≤◌, ◌^◌, Bool, true, false, cond, eqb, ltb, map, Option, List, [], ◌∷◌, ◌++◌, length, get_or, refl, sym, ap, ◌∙◌, subst, arith, suc}
use Rattle.std.specs.Prelude.{Result, Ok}
use Rattle.std.proofs.lemmas.Bool.Decides.{nat_tests}
use Rattle.std.proofs.lemmas.List.{append_assoc}
use Rattle.pb_rules.specs.declared.Term.{Term}
use Rattle.pb_rules.specs.Linear.{Linear}
use Rattle.pb_rules.specs.Partial.{is_false, open_weight}
use Rattle.pb_rules.specs.CuttingPlanes.{add, coef_of, up, divided, cut}
use Rattle.pb_rules.specs.declared.Op.{Op}
use Rattle.pb_rules.specs.declared.Op.TheVariants.{Add, Divide, Saturate, Weaken}
use Rattle.pb_rules.specs.Operations.{Context, Fault, KnowsLive, mentions, small_number, apply_all}
use Rattle.pb_rules.specs.Frames.{StandsUnder}
use Rattle.pb_rules.proofs.Assignments.{open-cons}
use Rattle.pb_rules.proofs.Normal.{excess-none}
use Rattle.pb_rules.proofs.Rising.{From}
use Rattle.pb_rules.proofs.Carried.{apply_all-append}
use Rattle.conflict_graph.specs.Clauses.{clause_of, clause_row, false_terms, false_signs, weakenings, greatest, finishing, clause_ops}
use Rattle.conflict_graph.proofs.Rows.{clashes, resolved, resolvent}
use Rattle.conflict_graph.proofs.Making.{Terms, Below, Below-push, weaken_at, making, up-one, Positive, positive_of, false-positive, cut_whole, divided-one}

-- a variable that an operation may name
abbrev CanName : Context → ℕ → Type 0
CanName context x = (small_number x ≡ true) × (context.knows x ≡ true)

-- each variable of the terms may be named
abbrev KnowsAll : Context → List Term → Type 0
KnowsAll context [] = Unit {0}
KnowsAll context (t ∷ ts) = CanName context t.lit.var × KnowsAll context ts

small_is : (n : ℕ) → n < 2 ^ 63 → small_number n ≡ true
small_is n h = grind (arith, nat_tests)

knows_part : (context : Context) (ts : List Term) → ((i : ℕ) (d : Term) → i < length ts → (get_or ts i d).lit.var < 2 ^ 63) → ((x : ℕ) → mentions x ts ≡ true → context.knows x ≡ true)
    → KnowsAll context ts
knows_part context [] w h = tt
knows_part context (t ∷ ts) w h =
    let hit : eqb t.lit.var t.lit.var ≡ true = grind (arith, nat_tests) in
    ((small_is t.lit.var (w 0 t (omega arith)), h t.lit.var (rw hit refl)), knows_part context ts (λ i d l. w (suc i) d (omega arith)) (λ x m. h x (go x (eqb t.lit.var x) m)))
  where
    go : (x : ℕ) (b : Bool) → mentions x ts ≡ true → cond b true (mentions x ts) ≡ true
    go x true m = refl
    go x false m = m

Below-weaker : (j k : ℕ) (ts : List Term) → j ≤ k → Below j ts → Below k ts
Below-weaker j k [] l h = tt
Below-weaker j k (t ∷ ts) l h = let a = h.0 in (omega arith, Below-weaker j k ts l h.1)

-- the weakenings take out the terms that are not false, and their coefficients
pub weakened : (context : Context) (a : ℕ → Option Bool) (done ts : List Term) (k d : ℕ) (st : List Linear) → Below k done → From k ts → KnowsAll context ts
    → apply_all context (weakenings a ts) (record { terms = done ++ ts; degree = d + open_weight a ts } ∷ st) ≡ Ok (record { terms = done ++ false_terms a ts; degree = d } ∷ st)
weakened context a done [] k d st b f n = let e : d + 0 ≡ d = omega arith in let P : ℕ → Result (List Linear) Fault = λ m. Ok (record { terms = done ++ []; degree = m } ∷ st) in ap P e
weakened context a done (t ∷ ts) k d st b f n =
    let le = f.0 in
    let oc = open-cons a t ts in
    go (is_false a t.lit) (open_weight a (t ∷ ts)) oc (weakened context a (done ++ t ∷ []) ts (t.lit.var + 1) d st (Below-push k (t.lit.var + 1) done t (omega arith) (omega arith) b) f.1 n.1)
    (weakened context a done ts (t.lit.var + 1) d st (Below-weaker k (t.lit.var + 1) done (omega arith) b) f.1 n.1)
  where
    go : (o : Bool) (w : ℕ) → w ≡ cond o 0 t.coef + open_weight a ts →
        apply_all context (weakenings a ts) (record { terms = (done ++ t ∷ []) ++ ts; degree = d + open_weight a ts } ∷ st)
        ≡ Ok (record { terms = (done ++ t ∷ []) ++ false_terms a ts; degree = d } ∷ st) →
        apply_all context (weakenings a ts) (record { terms = done ++ ts; degree = d + open_weight a ts } ∷ st) ≡ Ok (record { terms = done ++ false_terms a ts; degree = d } ∷ st) →
        apply_all context (cond o (weakenings a ts) (Weaken t.lit.var ∷ weakenings a ts)) (record { terms = done ++ t ∷ ts; degree = d + w } ∷ st)
        ≡ Ok (record { terms = done ++ cond o (t ∷ false_terms a ts) (false_terms a ts); degree = d } ∷ st)
    go true w e kept gone =
        let P : List Term → List Linear = λ us. record { terms = us; degree = d + open_weight a ts } ∷ st in
        let Q : List Term → Result (List Linear) Fault = λ us. Ok (record { terms = us; degree = d } ∷ st) in
        let R : ℕ → Type 0 = λ m. apply_all context (weakenings a ts) (record { terms = done ++ t ∷ ts; degree = d + m } ∷ st)
        ≡ Ok (record { terms = done ++ t ∷ false_terms a ts; degree = d } ∷ st) in
        let e' : open_weight a ts ≡ w = omega arith in
        subst R e' (ap (λ us. apply_all context (weakenings a ts) (P us)) (sym (append_assoc done (t ∷ []) ts)) ∙ kept ∙ ap Q (append_assoc done (t ∷ []) (false_terms a ts)))
    go false w e kept gone =
        let x = weaken_at done ts t k b f.0 in
        let known = n.0 in
        let R : List Term → ℕ → List Linear = λ us m. record { terms = us; degree = m } ∷ st in
        let num : d + w - coef_of t.lit.var (done ++ t ∷ ts) ≡ d + open_weight a ts = rw x.1 (omega arith) in
        rw (known.0, known.1) (ap (λ us. apply_all context (weakenings a ts) (R us (d + w - coef_of t.lit.var (done ++ t ∷ ts)))) x.0
        ∙ ap (λ m. apply_all context (weakenings a ts) (R (done ++ ts) m)) num ∙ gone)

-- what is left of a constraint, finished
finished : (context : Context) (d : ℕ) (ts us : List Term) (st : List Linear) → 0 < d → d < 2 ^ 63 → Positive ts → map (divided d) (cut d ts) ≡ us
    → apply_all context (finishing d (greatest ts)) (record { terms = ts; degree = d } ∷ st) ≡ Ok (record { terms = us; degree = 1 } ∷ st)
finished context d ts us st pos small all made = go (ltb d (greatest ts)) refl (ltb 1 d) refl
  where
    last : List Term → ℕ → Result (List Linear) Fault
    last xs m = Ok (record { terms = xs; degree = m } ∷ st)

    whole : ltb d (greatest ts) ≡ false → cut d ts ≡ ts
    whole t = cut_whole d ts pos (grind (arith, nat_tests)) all

    one : ltb 1 d ≡ false → d ≡ 1
    one t = (let le : d ≤ 1 = grind (arith, nat_tests) in omega arith)

    up-is : up d d ≡ 1
    up-is = up-one d d (omega arith) (omega arith)

    d-pos : eqb d 0 ≡ false
    d-pos = grind (arith, nat_tests)

    d-small : small_number d ≡ true
    d-small = small_is d small

    by-one : (xs : List Term) → d ≡ 1 → map (divided d) xs ≡ xs
    by-one xs e = ap (λ (m : ℕ). map (divided m) xs) e ∙ divided-one xs

    go : (a : Bool) → ltb d (greatest ts) ≡ a → (b : Bool) → ltb 1 d ≡ b → apply_all context (cond a (Saturate ∷ []) [] ++ cond b (Divide d ∷ []) []) (record { terms = ts; degree = d } ∷ st)
        ≡ Ok (record { terms = us; degree = 1 } ∷ st)
    go true p true q = rw (d-pos, d-small) (ap (λ xs. last xs (up d d)) made ∙ ap (last us) up-is)
    go true p false q = ap (λ xs. last xs d) (sym (by-one (cut d ts) (one q)) ∙ made) ∙ ap (last us) (one q)
    go false p true q = rw (d-pos, d-small) (ap (λ xs. last xs (up d d)) (ap (map (divided d)) (sym (whole p)) ∙ made) ∙ ap (last us) up-is)
    go false p false q = ap (λ xs. last xs d) (sym (whole p) ∙ sym (by-one (cut d ts) (one q)) ∙ made) ∙ ap (last us) (one q)

-- from a constraint in conflict to the clause of its false literals
pub making_gives : (context : Context) (n id : ℕ) (a : ℕ → Option Bool) (c : Linear) (st : List Linear) → KnowsLive context → StandsUnder context id c → n ≤ 2 ^ 63 → Terms 0 n c.terms
    → c.degree < 2 ^ 63 → open_weight a c.terms < c.degree →
    apply_all context (clause_ops id a c) st ≡ Ok (clause_of n (false_signs a c.terms) ∷ st)
making_gives context n id a c st live stands few terms small conflict =
    let d : ℕ = c.degree - open_weight a c.terms in
    let id-test : small_number id ≡ true = small_is id stands.small in
    let here = stands.there in
    let w = weakened context a [] c.terms 0 d st tt terms.from (knows_part context c.terms (λ j e l. (let v = terms.within j e l in omega arith)) (live id c here)) in
    let split : c.degree ≡ d + open_weight a c.terms = omega arith in
    let P : ℕ → Type 0 = λ m. apply_all context (weakenings a c.terms) (record { terms = c.terms; degree = m } ∷ st) ≡ Ok (record { terms = false_terms a c.terms; degree = d } ∷ st) in
    let w' : apply_all context (weakenings a c.terms) (c ∷ st) ≡ Ok (record { terms = false_terms a c.terms; degree = d } ∷ st) = subst P (sym split) w in
    let left : List Term = false_terms a c.terms in
    let last : List Op = finishing d (greatest left) in
    let N : ℕ → Type 0 = λ m. Terms 0 m c.terms in
    let n-is : n ≡ 0 + n = omega arith in
    let m = making n 0 d a c.terms (omega arith) (subst N n-is terms) in
    let ends = finished context d left (clause_row n 0 (false_signs a c.terms)) st (omega arith) (omega arith) (false-positive a c.terms (positive_of c.terms terms.positive)) m in
    let app = apply_all-append context (weakenings a c.terms) last (c ∷ st) (record { terms = left; degree = d } ∷ st) w' in
    rw (id-test, here) (app ∙ ends)

-- two clauses on the stack that clash in one variable
pub resolving_gives : (context : Context) (n : ℕ) (f g : ℕ → Option Bool) (st : List Linear) → n < 2 ^ 62 → clashes n 0 f g ≡ 1 →
    apply_all context (Add ∷ Saturate ∷ []) (clause_of n g ∷ clause_of n f ∷ st) ≡ Ok (clause_of n (λ x. resolved (f x) (g x)) ∷ st)
resolving_gives context n f g st small one =
    let r = resolvent n f g one in
    let t = r.1 in
    let e = r.2 in
    let none = excess-none (add (clause_of n f) (clause_of n g)) (omega arith) (omega arith) in
    rw none (ap (λ (c : Linear). Ok (c ∷ st)) r.0)
