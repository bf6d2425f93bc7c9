use Rattle.std.proofs.Common.{◌≡◌, ℕ, ◌+◌, ◌*◌, ◌<◌, ◌≤◌, Bool, true, false, cond, eqb, ltb, Some, None, List, [], ◌∷◌, refl, sym, ap, subst, arith, inl, inr, map, min}
use Rattle.std.specs.Prelude.{All, Ok}
use Rattle.std.proofs.lemmas.Bool.{cases_lt}
use Rattle.std.proofs.lemmas.Bool.Decides.{nat_tests}
use Rattle.std.proofs.lemmas.List.Elements.{All-cons, All-head, All-tail, All-nil}
use Rattle.std.proofs.lemmas.Grind.{div_ceil_times}
use Rattle.std.proofs.lemmas.Nat.{mul-le}
use Rattle.std.proofs.Math.Nat.{mul-add, mul-zero, mul_comm}
use Rattle.pb_rules.specs.declared.Term.{Term}
use Rattle.pb_rules.specs.declared.Op.{Op}
use Rattle.pb_rules.specs.declared.Op.TheVariants.{Id, Axiom, Add, Times, Divide, Saturate, Weaken}
use Rattle.pb_rules.specs.Literal.{Literal, lit_true}
use Rattle.pb_rules.specs.Linear.{Linear, Holds, true_weight}
use Rattle.pb_rules.specs.CuttingPlanes.{axiom_of, add, times, multiplied, divide, divided, up, saturate, cut, weaken, without_var, coef_of}
use Rattle.pb_rules.specs.Operations.{Context, excess, apply_all, line_gives}
use Rattle.pb_rules.proofs.Sums.{true_weight-cons, add-holds}
use Rattle.pb_rules.proofs.Carried.{Carried, by_id, by_axiom, by_sum, by_factor, by_divisor, by_cut, by_weakening, carried, first_op, line_stack}

pub axiom-holds : (v : ℕ → Bool) (l : Literal) → Holds v (axiom_of l)
axiom-holds v l = omega arith

scaled : (o : Bool) (n k : ℕ) → cond o (n * k) 0 ≡ n * cond o k 0
scaled true n k = refl
scaled false n k = sym (mul-zero n)

times_weight : (v : ℕ → Bool) (n : ℕ) (ts : List Term) → true_weight v (map (multiplied n) ts) ≡ n * true_weight v ts
times_weight v n [] = sym (mul-zero n)
times_weight v n (t ∷ ts) =
    let a = true_weight-cons v (multiplied n t) (map (multiplied n) ts) in
    let b = true_weight-cons v t ts in
    let ih = times_weight v n ts in
    let here = scaled (lit_true v t.lit) n t.coef in
    let split = mul-add n (cond (lit_true v t.lit) t.coef 0) (true_weight v ts) in
    let whole : n * true_weight v (t ∷ ts) ≡ n * (cond (lit_true v t.lit) t.coef 0 + true_weight v ts) = ap (λ m. n * m) b in
    omega arith

-- a multiple holds where the constraint does
pub times-holds : (v : ℕ → Bool) (n : ℕ) (c : Linear) → Holds v c → Holds v (times n c)
times-holds v n c h =
    let a = times_weight v n c.terms in
    let b = mul-le n c.degree n (true_weight v c.terms) (omega arith) h in
    omega arith

-- rounding up loses nothing
pub up_times : (n m : ℕ) → 0 < n → m ≤ n * up n m
up_times n m p = let a = (div_ceil_times m n p).0 in let b = mul_comm (up n m) n in omega arith

-- the least number whose product is enough
pub up_least : (n m k : ℕ) → 0 < n → m ≤ n * k → up n m ≤ k
up_least n m k p h = elim (cases_lt k (up n m)) [
  | inl l ↦ (let a = (div_ceil_times m n p).1 in
      let b = mul_comm (up n m) n in
      let c = mul-le n (k + 1) n (up n m) (omega arith) (omega arith) in
      let d = mul-add n k 1 in
      let e : n * 1 ≡ n = omega arith in
      absurd (omega arith))
  | inr g ↦ g
]

divide_weight : (v : ℕ → Bool) (n : ℕ) (ts : List Term) → 0 < n → true_weight v ts ≤ n * true_weight v (map (divided n) ts)
divide_weight v n [] p = omega arith
divide_weight v n (t ∷ ts) p =
    let a = true_weight-cons v (divided n t) (map (divided n) ts) in
    let b = true_weight-cons v t ts in
    let ih = divide_weight v n ts p in
    let here = scaled (lit_true v t.lit) n (up n t.coef) in
    let most : cond (lit_true v t.lit) t.coef 0 ≤ cond (lit_true v t.lit) (n * up n t.coef) 0 = go (lit_true v t.lit) in
    let split = mul-add n (cond (lit_true v t.lit) (up n t.coef) 0) (true_weight v (map (divided n) ts)) in
    let whole : n * true_weight v (map (divided n) (t ∷ ts)) ≡ n * (cond (lit_true v t.lit) (up n t.coef) 0 + true_weight v (map (divided n) ts)) = ap (λ m. n * m) a in
    omega arith
  where
    go : (o : Bool) → cond o t.coef 0 ≤ cond o (n * up n t.coef) 0
    go true = up_times n t.coef p
    go false = omega arith

-- division, rounded up, keeps what holds
pub divide-holds : (v : ℕ → Bool) (n : ℕ) (c : Linear) → 0 < n → Holds v c → Holds v (divide n c)
divide-holds v n c p h =
    let w = divide_weight v n c.terms p in
    up_least n c.degree (true_weight v (map (divided n) c.terms)) p (omega arith)

cut-weight : (v : ℕ → Bool) (d : ℕ) (ts : List Term) → min d (true_weight v ts) ≤ true_weight v (cut d ts)
cut-weight v d [] = omega arith
cut-weight v d (t ∷ ts) = go (ltb 0 (min t.coef d)) refl (cut-weight v d ts)
  where
    r : Term
    r = record { coef = min t.coef d; lit = t.lit }

    least : (o : Bool) (a b : ℕ) → min d a ≤ b → min d (cond o t.coef 0 + a) ≤ cond o (min t.coef d) 0 + b
    least true a b h = omega arith
    least false a b h = omega arith

    go : (o : Bool) → ltb 0 (min t.coef d) ≡ o → min d (true_weight v ts) ≤ true_weight v (cut d ts) → min d (true_weight v (t ∷ ts)) ≤ true_weight v (cut d (t ∷ ts))
    go true e ih =
        let a = true_weight-cons v t ts in
        let b = true_weight-cons v r (cut d ts) in
        let h = least (lit_true v t.lit) (true_weight v ts) (true_weight v (cut d ts)) ih in
        rw e (omega arith)
    go false e ih =
        let a = true_weight-cons v t ts in
        let h = least (lit_true v t.lit) (true_weight v ts) (true_weight v (cut d ts)) ih in
        let z : min t.coef d ≡ 0 = grind (arith, nat_tests) in
        let none = empty (lit_true v t.lit) z in
        rw e (omega arith)
      where
        empty : (o : Bool) → min t.coef d ≡ 0 → cond o (min t.coef d) 0 ≡ 0
        empty true z = z
        empty false z = refl

-- saturation keeps what holds
pub saturate-holds : (v : ℕ → Bool) (c : Linear) → Holds v c → Holds v (saturate c)
saturate-holds v c h = let w = cut-weight v c.degree c.terms in omega arith

without-weight : (v : ℕ → Bool) (x : ℕ) (ts : List Term) → true_weight v ts ≤ true_weight v (without_var x ts) + coef_of x ts
without-weight v x [] = omega arith
without-weight v x (t ∷ ts) = go (eqb t.lit.var x) refl (without-weight v x ts)
  where
    most : (o : Bool) → cond o t.coef 0 ≤ t.coef
    most true = omega arith
    most false = omega arith

    go : (o : Bool) → eqb t.lit.var x ≡ o → true_weight v ts ≤ true_weight v (without_var x ts) + coef_of x ts → true_weight v (t ∷ ts) ≤ true_weight v (without_var x (t ∷ ts)) + coef_of x (t ∷ ts)
    go true e ih =
        let a = true_weight-cons v t ts in
        let m = most (lit_true v t.lit) in
        rw e (omega arith)
    go false e ih =
        let a = true_weight-cons v t ts in
        let b = true_weight-cons v t (without_var x ts) in
        rw e (omega arith)

-- weakening keeps what holds
pub weaken-holds : (v : ℕ → Bool) (x : ℕ) (c : Linear) → Holds v c → Holds v (weaken x c)
weaken-holds v x c h = let w = without-weight v x c.terms in omega arith

-- what the operations keep in a context: it holds of what is live, and of what each rule makes
pub record IsKept (context : Context) (P : Linear → Type 0) : Type 0 where
  pub standing : (id : ℕ) (c : Linear) → context.live id ≡ Some c → P c
  pub axioms : (l : Literal) → context.knows l.var ≡ true → P (axiom_of l)
  pub sums : (a b : Linear) → P a → P b → excess (add a b) ≡ None → P (add a b)
  pub multiples : (n : ℕ) (a : Linear) → 0 < n → P a → excess (times n a) ≡ None → P (times n a)
  pub quotients : (n : ℕ) (a : Linear) → 0 < n → P a → P (divide n a)
  pub cuts : (a : Linear) → P a → P (saturate a)
  pub weaker : (x : ℕ) (a : Linear) → P a → P (weaken x a)

module _ (context : Context) (P : Linear → Type 0) (k : IsKept context P) where
  put : (a : Linear) (st after : List Linear) → P a → All P st → after ≡ a ∷ st → All P after
  put a st after p all e = subst (All P) (sym e) (All-cons P a st p all)

  -- one operation keeps it
  apply_keeps : (o : Op) (st after : List Linear) → All P st → Carried context after o st → All P after
  apply_keeps (Id i) st after all (by_id c small there is) = put c st after (k.standing i c there) all is
  apply_keeps (Axiom l) st after all (by_axiom small known is) = put (axiom_of l) st after (k.axioms l known) all is
  apply_keeps Add [] after all h = elim h [ ]
  apply_keeps Add (b ∷ []) after all h = elim h [ ]
  apply_keeps Add (b ∷ a ∷ st) after all (by_sum small is) =
      let rest = All-tail P b (a ∷ st) all in
      put (add a b) st after (k.sums a b (All-head P a st rest) (All-head P b (a ∷ st) all) small) (All-tail P a st rest) is
  apply_keeps (Times n) [] after all h = elim h [ ]
  apply_keeps (Times n) (a ∷ st) after all (by_factor positive small fits is) = put (times n a) st after (k.multiples n a positive (All-head P a st all) fits) (All-tail P a st all) is
  apply_keeps (Divide n) [] after all h = elim h [ ]
  apply_keeps (Divide n) (a ∷ st) after all (by_divisor positive small is) = put (divide n a) st after (k.quotients n a positive (All-head P a st all)) (All-tail P a st all) is
  apply_keeps Saturate [] after all h = elim h [ ]
  apply_keeps Saturate (a ∷ st) after all (by_cut is) = put (saturate a) st after (k.cuts a (All-head P a st all)) (All-tail P a st all) is
  apply_keeps (Weaken x) [] after all h = elim h [ ]
  apply_keeps (Weaken x) (a ∷ st) after all (by_weakening small known is) = put (weaken x a) st after (k.weaker x a (All-head P a st all)) (All-tail P a st all) is

  -- operations one after another keep it
  apply_all_keeps : (os : List Op) (st after : List Linear) → All P st → apply_all context os st ≡ Ok after → All P after
  apply_all_keeps [] st after all e = let q : st ≡ after = cc in subst (All P) q all
  apply_all_keeps (o ∷ os) st after all e =
      let s = first_op context o os st after e in
      apply_all_keeps os s.0 after (apply_keeps o st s.0 all (carried context o st s.0 s.1)) s.2

  -- and so does a line
  pub line_keeps : (os : List Op) (c : Linear) → line_gives context os ≡ Ok c → P c
  line_keeps os c e = All-head P c [] (apply_all_keeps os [] (c ∷ []) (All-nil P) (line_stack context os c e))

-- each rule keeps what holds under an assignment
holds_kept : (v : ℕ → Bool) (context : Context) → ((id : ℕ) (c : Linear) → context.live id ≡ Some c → Holds v c) → IsKept context (Holds v)
holds_kept v context live = record {
  standing = live;
  axioms = λ l known. axiom-holds v l;
  sums = λ a b p q x. add-holds v a b p q;
  multiples = λ n a z p x. times-holds v n a p;
  quotients = λ n a z p. divide-holds v n a z p;
  cuts = λ a p. saturate-holds v a p;
  weaker = λ x a p. weaken-holds v x a p;
}

-- a line is sound: an assignment under which all that is live holds satisfies what it gives
pub line_sound : (v : ℕ → Bool) (context : Context) (os : List Op) (c : Linear) → ((id : ℕ) (c : Linear) → context.live id ≡ Some c → Holds v c) → line_gives context os ≡ Ok c → Holds v c
line_sound v context os c live e = line_keeps context (Holds v) (holds_kept v context live) os c e
