-- A legal line gives a constraint whose variables were there before.
use Rattle.std.proofs.Common.{◌≡◌, ℕ, ◌+◌, ◌-◌, Bool, true, false, cond, eqb, ltb, List, [], ◌∷◌, map, min, Some, refl, sym, ap, ◌∙◌, subst, arith, ◌⊎◌, inl, inr}
use Rattle.std.specs.Prelude.{Ok, ◌++◌}
use Rattle.std.proofs.lemmas.Bool.{eq-eqb, eqb-true}
use Rattle.pb_rules.specs.declared.Term.{Term}
use Rattle.pb_rules.specs.declared.Op.{Op}
use Rattle.pb_rules.specs.Literal.{Literal}
use Rattle.pb_rules.specs.Linear.{Linear}
use Rattle.pb_rules.specs.CuttingPlanes.{axiom_of, Sum, same_sign, joined, merge, multiplied, divided, cut, without_var}
use Rattle.pb_rules.specs.Operations.{Context, mentions, IsKnown, KnowsLive, line_gives}
use Rattle.pb_rules.specs.Frames.{Line, derived, cover, Frame, Given, any_mentions, context_of, with_derived, given_from, blocks_from}
use Rattle.pb_rules.proofs.Sound.{IsKept, line_keeps}
use Rattle.pb_rules.proofs.Given.{Goes, by_ops, by_block, goes, first_line, given_knows}
use Rattle.pb_rules.proofs.Normal.{Merged, done, first, second, both, merged}

-- a term has the variable
abbrev Has : ℕ → List Term → Type 0
Has x ts = mentions x ts ≡ true

here : (x : ℕ) (t : Term) (ts : List Term) → t.lit.var ≡ x → Has x (t ∷ ts)
here x t ts e = ap (λ (b : Bool). cond b true (mentions x ts)) (eq-eqb t.lit.var x e)

later : (x : ℕ) (t : Term) (ts : List Term) → Has x ts → Has x (t ∷ ts)
later x t ts h = go (eqb t.lit.var x)
  where
    go : (b : Bool) → cond b true (mentions x ts) ≡ true
    go true = refl
    go false = h

either : (x : ℕ) (t : Term) (ts : List Term) → Has x (t ∷ ts) → (t.lit.var ≡ x) ⊎ Has x ts
either x t ts h = go (eqb t.lit.var x) refl h
  where
    go : (b : Bool) → eqb t.lit.var x ≡ b → cond b true (mentions x ts) ≡ true → (t.lit.var ≡ x) ⊎ Has x ts
    go true q h = inl (eqb-true t.lit.var x q)
    go false q h = inr h

-- terms made one by one of others, with their literals
module _ (g : Term → Term) (same : (t : Term) → (g t).lit ≡ t.lit) where
  map_has : (x : ℕ) (ts : List Term) → Has x (map g ts) → Has x ts
  map_has x [] h = h
  map_has x (t ∷ ts) h =
      elim (either x (g t) (map g ts) h) [
        | inl e ↦ here x t ts (sym (ap (λ (l : Literal). l.var) (same t)) ∙ e)
        | inr m ↦ later x t ts (map_has x ts m)
      ]

cut_has : (x d : ℕ) (ts : List Term) → Has x (cut d ts) → Has x ts
cut_has x d [] h = h
cut_has x d (t ∷ ts) h = go (cut_has x d ts) (ltb 0 (min t.coef d)) h
  where
    go : (Has x (cut d ts) → Has x ts) → (b : Bool) → Has x (cond b (record { coef = min t.coef d; lit = t.lit } ∷ cut d ts) (cut d ts)) → Has x (t ∷ ts)
    go ih true h =
        elim (either x (record { coef = min t.coef d; lit = t.lit }) (cut d ts) h) [
          | inl e ↦ here x t ts e
          | inr m ↦ later x t ts (ih m)
        ]
    go ih false h = later x t ts (ih h)

without_has : (x y : ℕ) (ts : List Term) → Has x (without_var y ts) → Has x ts
without_has x y [] h = h
without_has x y (t ∷ ts) h = go (without_has x y ts) (eqb t.lit.var y) h
  where
    go : (Has x (without_var y ts) → Has x ts) → (b : Bool) → Has x (cond b ts (t ∷ without_var y ts)) → Has x (t ∷ ts)
    go ih true h = later x t ts h
    go ih false h =
        elim (either x t (without_var y ts) h) [
          | inl e ↦ here x t ts e
          | inr m ↦ later x t ts (ih m)
        ]

-- ---- sums

abbrev Joined : Term → Term → Sum → Bool → Bool → Bool → Sum
Joined t u s a b c =
    cond a (record { terms = record { coef = t.coef + u.coef; lit = u.lit } ∷ s.terms; cancelled = s.cancelled })
    (cond b (record { terms = s.terms; cancelled = s.cancelled + t.coef })
    (cond c (record { terms = record { coef = u.coef - t.coef; lit = u.lit } ∷ s.terms; cancelled = s.cancelled + t.coef })
    (record { terms = record { coef = t.coef - u.coef; lit = t.lit } ∷ s.terms; cancelled = s.cancelled + u.coef })))

joined_has : (x : ℕ) (t u : Term) (s : Sum) → Has x (joined t u s).terms → (t.lit.var ≡ x) ⊎ ((u.lit.var ≡ x) ⊎ Has x s.terms)
joined_has x t u s h = go (same_sign t.lit.yes u.lit.yes) (eqb t.coef u.coef) (ltb t.coef u.coef) h
  where
    go : (a b c : Bool) → Has x (Joined t u s a b c).terms → (t.lit.var ≡ x) ⊎ ((u.lit.var ≡ x) ⊎ Has x s.terms)
    go true b c h = inr (either x (record { coef = t.coef + u.coef; lit = u.lit }) s.terms h)
    go false true c h = inr (inr h)
    go false false true h = inr (either x (record { coef = u.coef - t.coef; lit = u.lit }) s.terms h)
    go false false false h =
        elim (either x (record { coef = t.coef - u.coef; lit = t.lit }) s.terms h) [
          | inl e ↦ inl e
          | inr m ↦ inr (inr m)
        ]

-- a variable of a merge is one of either list
merged_has : (x : ℕ) (ts us : List Term) (s : Sum) → Merged ts us s → Has x s.terms → Has x ts ⊎ Has x us
merged_has x [] us _ done h = inr h
merged_has x (t ∷ ts) us _ (first s b m) h =
    elim (either x t s.terms h) [
      | inl e ↦ inl (here x t ts e)
      | inr k ↦ elim (merged_has x ts us s m k) [ inl a ↦ inl (later x t ts a) | inr b ↦ inr b ]
    ]
merged_has x (t ∷ ts) (u ∷ us) _ (second s l m) h =
    elim (either x u s.terms h) [
      | inl e ↦ inr (here x u us e)
      | inr k ↦ elim (merged_has x (t ∷ ts) us s m k) [ inl a ↦ inl a | inr b ↦ inr (later x u us b) ]
    ]
merged_has x (t ∷ ts) (u ∷ us) _ (both s e m) h =
    elim (joined_has x t u s h) [
      | inl q ↦ inl (here x t ts q)
      | inr k ↦ elim k [
        | inl q ↦ inr (here x u us q)
        | inr n ↦ elim (merged_has x ts us s m n) [ inl a ↦ inl (later x t ts a) | inr b ↦ inr (later x u us b) ]
      ]
    ]

-- ---- lines

axiom_known : (context : Context) (l : Literal) → context.knows l.var ≡ true → IsKnown context (axiom_of l)
axiom_known context l known x h =
    elim (either x (record { coef = 1; lit = l }) [] h) [
      | inl e ↦ subst (λ (y : ℕ). context.knows y ≡ true) e known
      | inr m ↦ absurd (let c : false ≡ true = m in cc)
    ]

-- each rule keeps that all variables are there
known_kept : (context : Context) → KnowsLive context → IsKept context (IsKnown context)
known_kept context live = record {
  standing = live;
  axioms = axiom_known context;
  sums = λ a b p q small x h. elim (merged_has x a.terms b.terms (merge a.terms b.terms) (merged a.terms b.terms) h) [ inl m ↦ p x m | inr m ↦ q x m ];
  multiples = λ n a z p small x h. p x (map_has (multiplied n) (λ t. refl) x a.terms h);
  quotients = λ n a z p x h. p x (map_has (divided n) (λ t. refl) x a.terms h);
  cuts = λ a p x h. p x (cut_has x a.degree a.terms h);
  weaker = λ y a p x h. p x (without_has x y a.terms h);
}

-- a line gives a constraint whose variables are there
pub line_known : (context : Context) (os : List Op) (c : Linear) → KnowsLive context → line_gives context os ≡ Ok c → IsKnown context c
line_known context os c live e = line_keeps context (IsKnown context) (known_kept context live) os c e

or_assoc : (a b m : Bool) → cond a true (cond b true m) ≡ cond (cond a true b) true m
or_assoc true b m = refl
or_assoc false b m = refl

-- a constraint of two lists has a variable where one of either list has it
pub mentions-append : (cs ds : List Linear) (x : ℕ) → any_mentions (cs ++ ds) x ≡ cond (any_mentions cs x) true (any_mentions ds x)
mentions-append [] ds x = refl
mentions-append (c ∷ cs) ds x = ap (λ (b : Bool). cond (mentions x c.terms) true b) (mentions-append cs ds x) ∙ or_assoc (mentions x c.terms) (any_mentions cs x) (any_mentions ds x)

-- a constraint whose variables are there adds none
pub derived-knows : (g : Given) (c : Linear) → IsKnown (context_of g) c → (x : ℕ) → (context_of (with_derived g c)).knows x ≡ (context_of g).knows x
derived-knows g c known x = mentions-append g.constraints (c ∷ []) x ∙ turn (mentions x c.terms) (any_mentions g.constraints x) (known x)
  where
    turn : (m k : Bool) → (m ≡ true → k ≡ true) → cond k true (cond m true false) ≡ k
    turn m true h = refl
    turn true false h = sym (h refl)
    turn false false h = refl

-- after lines the variables are there that were there before, and those of the blocks of the covers
pub given_variables : (f : Frame) (g h : Given) (ls : List Line) → given_from f g ls ≡ Some h → (x : ℕ)
    → (context_of h).knows x ≡ cond ((context_of g).knows x) true (any_mentions (blocks_from f g.covers ls) x)
given_variables f g h [] e x = let q : g ≡ h = cc in ap (λ (k : Given). any_mentions k.constraints x) (sym q) ∙ none (any_mentions g.constraints x)
  where
    none : (b : Bool) → b ≡ cond b true false
    none true = refl
    none false = refl
given_variables f g h (l ∷ ls) e x =
    let s = first_line f g h l ls e in
    given_variables f s.0 h ls s.2 x ∙ go l s.0 (goes f g s.0 l s.1)
  where
    go : (l : Line) (k : Given) → Goes f g k l → cond ((context_of k).knows x) true (any_mentions (blocks_from f k.covers ls) x)
        ≡ cond ((context_of g).knows x) true (any_mentions (blocks_from f g.covers (l ∷ ls)) x)
    go (derived ops) k (by_ops c q is) =
        let known = line_known (context_of g) ops c (given_knows g) q in
        ap (λ (k : Given). cond ((context_of k).knows x) true (any_mentions (blocks_from f k.covers ls) x)) is
        ∙ ap (λ (b : Bool). cond b true (any_mentions (blocks_from f g.covers ls) x)) (derived-knows g c known x)
    go (cover v) k (by_block small is) =
        let block : List Linear = f.block (g.covers + 1) v in
        let more : List Linear = blocks_from f (g.covers + 1) ls in
        ap (λ (k : Given). cond ((context_of k).knows x) true (any_mentions (blocks_from f k.covers ls) x)) is
        ∙ ap (λ (b : Bool). cond b true (any_mentions more x)) (mentions-append g.constraints block x)
        ∙ sym (or_assoc (any_mentions g.constraints x) (any_mentions block x) (any_mentions more x))
        ∙ ap (λ (b : Bool). cond (any_mentions g.constraints x) true b) (sym (mentions-append block more x))
