-- An operation that was carried out: what it needed, and what it left on the stack.
use Rattle.std.proofs.Common.{◌≡◌, ℕ, ◌<◌, ◌^◌, Bool, true, false, cond, eqb, Option, Some, None, List, [], ◌∷◌, ◌++◌, refl, sym, ap, ◌∙◌, arith, inl, inr}
use Rattle.std.specs.Prelude.{Result, Ok, Err, ok_or}
use Rattle.std.proofs.lemmas.Bool.{cases_eq, cases_lt}
use Rattle.std.proofs.lemmas.Bool.Decides.{nat_tests}
use Rattle.pb_rules.specs.declared.Op.{Op}
use Rattle.pb_rules.specs.declared.Op.TheVariants.{Id, Axiom, Add, Times, Divide, Saturate, Weaken}
use Rattle.pb_rules.specs.Literal.{Literal}
use Rattle.pb_rules.specs.Linear.{Linear}
use Rattle.pb_rules.specs.CuttingPlanes.{axiom_of, add, times, divide, saturate, weaken}
use Rattle.pb_rules.specs.Operations.{Context, Fault, no_step, zero_divisor, unknown, excess, unless_too_large, fits, small_number, and_then, if_small, if_known, push, apply, apply_all, only_one, line_gives}

-- how an operation went on to a stack
pub data Carried (context : Context) (after : List Linear) : Op → List Linear → Type 0 where
  by_id : {i : ℕ} {st : List Linear} (c : Linear) → i < 2 ^ 63 → context.live i ≡ Some c → after ≡ c ∷ st → Carried context after (Id i) st
  by_axiom : {l : Literal} {st : List Linear} → l.var < 2 ^ 63 → context.knows l.var ≡ true → after ≡ axiom_of l ∷ st → Carried context after (Axiom l) st
  by_sum : {a b : Linear} {st : List Linear} → excess (add a b) ≡ None → after ≡ add a b ∷ st → Carried context after Add (b ∷ a ∷ st)
  by_factor : {n : ℕ} {a : Linear} {st : List Linear} → 0 < n → n < 2 ^ 63 → excess (times n a) ≡ None → after ≡ times n a ∷ st → Carried context after (Times n) (a ∷ st)
  by_divisor : {n : ℕ} {a : Linear} {st : List Linear} → 0 < n → n < 2 ^ 63 → after ≡ divide n a ∷ st → Carried context after (Divide n) (a ∷ st)
  by_cut : {a : Linear} {st : List Linear} → after ≡ saturate a ∷ st → Carried context after Saturate (a ∷ st)
  by_weakening : {x : ℕ} {a : Linear} {st : List Linear} → x < 2 ^ 63 → context.knows x ≡ true → after ≡ weaken x a ∷ st → Carried context after (Weaken x) (a ∷ st)

-- ---- the tests on the way, one by one

abbrev Stacks : Type 0
Stacks = Result (List Linear) Fault

was_small : {X : Type 0} (n : ℕ) (r : Stacks) (after : List Linear) → (n < 2 ^ 63 → r ≡ Ok after → X) → if_small n r ≡ Ok after → X
was_small n r after next e = elim (cases_lt n (2 ^ 63)) [
  | inl l ↦ (let t : small_number n ≡ true = grind (arith, nat_tests) in next l (rw t at e))
  | inr g ↦ (let t : small_number n ≡ false = grind (arith, nat_tests) in absurd (let f = rw t at e in cc))
]

was_known : {X : Type 0} (context : Context) (x : ℕ) (r : Stacks) (after : List Linear) → (context.knows x ≡ true → r ≡ Ok after → X) → if_known context x r ≡ Ok after → X
was_known {X} context x r after next e = go (context.knows x) refl e
  where
    go : (b : Bool) → context.knows x ≡ b → cond b r (Err (unknown x)) ≡ Ok after → X
    go true q f = next q f
    go false q f = absurd (cc)

was_positive : {X : Type 0} (n : ℕ) (why : Fault) (r : Stacks) (after : List Linear) → (0 < n → r ≡ Ok after → X) → cond (eqb n 0) (Err why) r ≡ Ok after → X
was_positive n why r after next e = elim (cases_eq n 0) [
  | inl z ↦ (let t : eqb n 0 ≡ true = grind (arith, nat_tests) in absurd (let f = rw t at e in cc))
  | inr z ↦ (let t : eqb n 0 ≡ false = grind (arith, nat_tests) in next (omega arith) (rw t at e))
]

was_pushed : {X : Type 0} (r : Result Linear Fault) (st after : List Linear) → ((a : Linear) → r ≡ Ok a → after ≡ a ∷ st → X) → push st r ≡ Ok after → X
was_pushed (Ok a) st after next e = next a refl (let q : a ∷ st ≡ after = cc in sym q)
was_pushed (Err why) st after next e = absurd (cc)

-- a result that fits is as it was
pub fitted : (a b : Linear) → fits a ≡ Ok b → (excess a ≡ None) × (a ≡ b)
fitted a b e = go (excess a) refl e
  where
    go : (o : Option ℕ) → excess a ≡ o → unless_too_large o a ≡ Ok b → (excess a ≡ None) × (a ≡ b)
    go None q f = (q, cc)
    go (Some n) q f = absurd (cc)

found : (o : Option Linear) (i : ℕ) (a : Linear) → ok_or o (unknown i) ≡ Ok a → o ≡ Some a
found None i a e = absurd (cc)
found (Some b) i a e = (let q : b ≡ a = cc in ap (λ (c : Linear). Some c) q)

same_top : (a b : Linear) (st after : List Linear) → a ≡ b → after ≡ b ∷ st → after ≡ a ∷ st
same_top a b st after e f = f ∙ ap (λ (c : Linear). c ∷ st) (sym e)

-- an operation that applies is carried out
pub carried : (context : Context) (o : Op) (st after : List Linear) → apply context o st ≡ Ok after → Carried context after o st
carried context (Id i) st after e =
    was_small i (push st (ok_or (context.live i) (unknown i))) after (λ small f.
    was_pushed (ok_or (context.live i) (unknown i)) st after (λ c q is. by_id c small (found (context.live i) i c q) is) f) e
carried context (Axiom l) st after e =
    was_small l.var (if_known context l.var (Ok (axiom_of l ∷ st))) after (λ small f.
    was_known context l.var (Ok (axiom_of l ∷ st)) after (λ known g. by_axiom small known (let q : axiom_of l ∷ st ≡ after = cc in sym q)) f) e
carried context Add [] after e = absurd (cc)
carried context Add (a ∷ []) after e = absurd (cc)
carried context Add (b ∷ a ∷ st) after e =
    was_pushed (fits (add a b)) st after (λ c q is. (let f = fitted (add a b) c q in by_sum f.0 (same_top (add a b) c st after f.1 is))) e
carried context (Times n) [] after e =
    was_small n (cond (eqb n 0) (Err no_step) (Err no_step)) after (λ small f. was_positive n no_step (Err no_step) after (λ positive g. absurd (cc)) f) e
carried context (Times n) (a ∷ st) after e =
    was_small n (cond (eqb n 0) (Err no_step) (push st (fits (times n a)))) after (λ small f.
    was_positive n no_step (push st (fits (times n a))) after (λ positive g.
    was_pushed (fits (times n a)) st after (λ c q is. (let f = fitted (times n a) c q in by_factor positive small f.0 (same_top (times n a) c st after f.1 is))) g) f) e
carried context (Divide n) [] after e =
    was_small n (cond (eqb n 0) (Err zero_divisor) (Err no_step)) after (λ small f. was_positive n zero_divisor (Err no_step) after (λ positive g. absurd (cc)) f) e
carried context (Divide n) (a ∷ st) after e =
    was_small n (cond (eqb n 0) (Err zero_divisor) (Ok (divide n a ∷ st))) after (λ small f.
    was_positive n zero_divisor (Ok (divide n a ∷ st)) after (λ positive g. by_divisor positive small (let q : divide n a ∷ st ≡ after = cc in sym q)) f) e
carried context Saturate [] after e = absurd (cc)
carried context Saturate (a ∷ st) after e = by_cut (let q : saturate a ∷ st ≡ after = cc in sym q)
carried context (Weaken x) [] after e =
    was_small x (if_known context x (Err no_step)) after (λ small f. was_known context x (Err no_step) after (λ known g. absurd (cc)) f) e
carried context (Weaken x) (a ∷ st) after e =
    was_small x (if_known context x (Ok (weaken x a ∷ st))) after (λ small f.
    was_known context x (Ok (weaken x a ∷ st)) after (λ known g. by_weakening small known (let q : weaken x a ∷ st ≡ after = cc in sym q)) f) e

-- the first of several operations, and the others after it
pub first_op : (context : Context) (o : Op) (os : List Op) (st after : List Linear) → apply_all context (o ∷ os) st ≡ Ok after → (mid : List Linear) × (apply context o st ≡ Ok mid)
    × (apply_all context os mid ≡ Ok after)
first_op context o os st after e = go (apply context o st) refl e
  where
    go : (r : Stacks) → apply context o st ≡ r → and_then (apply_all context os) r ≡ Ok after → (mid : List Linear) × (apply context o st ≡ Ok mid) × (apply_all context os mid ≡ Ok after)
    go (Ok mid) q f = (mid, q, f)
    go (Err why) q f = absurd (cc)

-- a legal line leaves one constraint, which it gives
pub line_stack : (context : Context) (os : List Op) (c : Linear) → line_gives context os ≡ Ok c → apply_all context os [] ≡ Ok (c ∷ [])
line_stack context os c e = go (apply_all context os []) refl e
  where
    one : (st : List Linear) → only_one st ≡ Ok c → st ≡ c ∷ []
    one [] f = absurd (cc)
    one (a ∷ []) f = (let q : a ≡ c = cc in ap (λ (d : Linear). d ∷ []) q)
    one (a ∷ b ∷ st) f = absurd (cc)

    go : (r : Stacks) → apply_all context os [] ≡ r → and_then only_one r ≡ Ok c → apply_all context os [] ≡ Ok (c ∷ [])
    go (Ok st) q f = q ∙ ap (λ (s : List Linear). Ok s) (one st f)
    go (Err why) q f = absurd (cc)

-- operations after others
pub apply_all-append : (context : Context) (os ps : List Op) (st mid : List Linear) → apply_all context os st ≡ Ok mid → apply_all context (os ++ ps) st ≡ apply_all context ps mid
apply_all-append context [] ps st mid h = let e : st ≡ mid = cc in ap (apply_all context ps) e
apply_all-append context (o ∷ os) ps st mid h =
    let s = first_op context o os st mid h in
    ap (and_then (apply_all context (os ++ ps))) s.1 ∙ apply_all-append context os ps s.0 mid s.2
