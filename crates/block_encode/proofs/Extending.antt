-- A model of the encoding that no cover of some lines covers can be made a model of all their blocks.
use Rattle.std.proofs.Common.{◌≡◌, ℕ, ◌+◌, ◌-◌, ◌*◌, ◌<◌, ◌≤◌, Bool, cond, List, [], ◌∷◌, ◌++◌, length, get_or, refl, sym, ap, ◌∙◌, subst, arith, ◌⊎◌, inl, inr}
use Rattle.std.specs.Prelude.{All, not}
use Rattle.std.proofs.lemmas.List.{append_assoc, append-nil}
use Rattle.std.proofs.lemmas.List.Elements.{All-append, All-head, All-tail}
use Rattle.pb_rules.specs.declared.Term.{Term}
use Rattle.pb_rules.specs.Literal.{lit_true}
use Rattle.pb_rules.specs.Linear.{Linear, Holds, IsModel, VarsBelow, true_weight}
use Rattle.pb_rules.specs.Frames.{Line, derived, cover, blocks_from, blocks_by}
use Rattle.pb_rules.proofs.Sums.{true_weight-cons}
use Rattle.pb_constraints.specs.Sets.{IsBelow}
use Rattle.spec_model.specs.Spec.{SpecValue, Bits, all_variables}
use Rattle.spec_model.specs.Vectors.{vector_of, IsAtMost}
use Rattle.spec_model.specs.Genotypes.{IsSameDesign}
use Rattle.spec_model.proofs.Vectors.{same_vector}
use Rattle.encode_model.specs.Encoding.{encoding}
use Rattle.encode_model.specs.Block.{below_var, block_of, cover_frame}
use Rattle.encode_model.proofs.Formed.{encoding_below}
use Rattle.block_encode.specs.Laws.{AgreeOutside, variables_to, covers_in, OfCover, LeavesOpen, ExtendsAll, AllExtend}
use Rattle.block_encode.proofs.Meaning.{same_design, uncovered_extend}
use Rattle.block_encode.proofs.Forms.{block_in_range}

-- Whether a constraint holds depends on its variables alone.
weight_agrees : (v w : ℕ → Bool) (n : ℕ) (ts : List Term) → VarsBelow n ts → ((x : ℕ) → x < n → v x ≡ w x) → true_weight v ts ≡ true_weight w ts
weight_agrees v w n [] h e = omega arith
weight_agrees v w n (t ∷ ts) h e =
    let small : t.lit.var < n = All-head (λ (u : Term). u.lit.var < n) t ts h in
    let same : cond (lit_true v t.lit) t.coef 0 ≡ cond (lit_true w t.lit) t.coef 0 = ap (λ (b : Bool). cond (cond t.lit.yes b (not b)) t.coef 0) (e t.lit.var small) in
    omega (arith, true_weight-cons v t ts, true_weight-cons w t ts, same, weight_agrees v w n ts (All-tail (λ (u : Term). u.lit.var < n) t ts h) e)

holds_agrees : (v w : ℕ → Bool) (n : ℕ) (c : Linear) → IsBelow n c → ((x : ℕ) → x < n → v x ≡ w x) → Holds v c → Holds w c
holds_agrees v w n c h e holds = omega (arith, holds, weight_agrees v w n c.terms h e)

model_agrees : (v w : ℕ → Bool) (n : ℕ) (cs : List Linear) → All (IsBelow n) cs → ((x : ℕ) → x < n → v x ≡ w x) → IsModel cs v → IsModel cs w
model_agrees v w n cs h e m k d l = holds_agrees v w n (get_or cs k d) (h k d l) e (m k d l)

wider : (m n : ℕ) (ts : List Term) → m ≤ n → VarsBelow m ts → VarsBelow n ts
wider m n ts le h k d l = omega (arith, le, h k d l)

-- The variables of the next block lie behind all before it, and before all after it.
pub next_behind : (s : SpecValue) (b j : ℕ) → below_var s (b + 1) j ≡ variables_to s b + j
next_behind s b j =
    let e : (b + 1) - 1 ≡ b = omega arith in
    let k : ((b + 1) - 1) * length s.objectives ≡ b * length s.objectives = ap (λ (n : ℕ). n * length s.objectives) e in
    omega (arith, k)

pub one_more : (s : SpecValue) (b : ℕ) → variables_to s (b + 1) ≡ variables_to s b + length s.objectives
one_more s b = omega (arith, mul_more b (length s.objectives))
  where
    mul_more : (m n : ℕ) → (m + 1) * n ≡ m * n + n
    mul_more m n = grind arith

agrees_before : (s : SpecValue) (b : ℕ) (f g : Bits) → AgreeOutside s (b + 1) g f → (x : ℕ) → x < variables_to s b → f x ≡ g x
agrees_before s b f g h x l = sym (h x (λ j k e. absurd (omega (arith, l, e, next_behind s b j))))

agrees_after : (s : SpecValue) (b : ℕ) (f g : Bits) → AgreeOutside s (b + 1) g f → (x : ℕ) → variables_to s (b + 1) ≤ x → g x ≡ f x
agrees_after s b f g h x l = h x (λ j k e. absurd (omega (arith, l, k, e, next_behind s b j, one_more s b)))

pub more_later : (s : SpecValue) (b n : ℕ) → variables_to s b ≤ variables_to s (b + n)
more_later s b n = omega (arith, mul_more b n (length s.objectives))
  where
    mul_more : (m n k : ℕ) → (m + n) * k ≡ m * k + n * k
    mul_more m n k = grind arith

-- after b covers: values of the variables of the blocks to come
record IsExtended (s : SpecValue) (base : List Linear) (b : ℕ) (ls : List Line) (f : Bits) : Type 0 where
  values : Bits
  agree : (x : ℕ) → (x < variables_to s b) ⊎ (variables_to s (b + covers_in ls) ≤ x) → values x ≡ f x
  model : IsModel (base ++ blocks_from (cover_frame s) b ls) values

-- the vector that no cover covers is that of another assignment of the same design too
still_open : (s : SpecValue) (f g : Bits) (ls : List Line) → IsSameDesign s f g → All (OfCover (LeavesOpen s f)) ls → All (OfCover (LeavesOpen s g)) ls
still_open s f g ls same h k d l = at (get_or ls k d) (h k d l)
  where
    at : (line : Line) → OfCover (LeavesOpen s f) line → OfCover (LeavesOpen s g) line
    at (derived ops) x = tt
    at (cover v) x = record { one_each = x.one_each; within = x.within; uncovered = subst (λ (u : List ℕ). ¬ IsAtMost v u) (same_vector s f g same) x.uncovered }

extend : (s : SpecValue) (ls : List Line) (b : ℕ) (base : List Linear) (f : Bits) → All (IsBelow (variables_to s b)) base → IsModel base f → All (OfCover (LeavesOpen s f)) ls
    → IsExtended s base b ls f
extend s [] b base f inside m h = record { values = f; agree = λ x l. refl; model = subst (λ (cs : List Linear). IsModel cs f) (sym (append-nil base)) m }
extend s (derived ops ∷ ls) b base f inside m h =
    let r = extend s ls b base f inside m (All-tail (OfCover (LeavesOpen s f)) (derived ops) ls h) in
    record { values = r.values; agree = r.agree; model = r.model }
extend s (cover v ∷ ls) b base f inside m h =
    let here : LeavesOpen s f v = All-head (OfCover (LeavesOpen s f)) (cover v) ls h in
    let x = (uncovered_extend s (b + 1) v f here.one_each here.within).1 here.uncovered in
    let before : (y : ℕ) → y < variables_to s b → f y ≡ x.values y = agrees_before s b f x.values x.agree in
    let block : List Linear = block_of s (b + 1) v in
    let old : All (IsBelow (variables_to s (b + 1))) base = (λ k d l. wider (variables_to s b) (variables_to s (b + 1)) (get_or base k d).terms (omega (arith, one_more s b)) (inside k d l)) in
    let fresh : All (IsBelow (variables_to s (b + 1))) block = block_in_range s (b + 1) v (omega arith) here.one_each in
    let same : IsSameDesign s f x.values = λ y l. sym (same_design s (b + 1) x.values f x.agree y l) in
    let r = extend s ls (b + 1) (base ++ block) x.values
    (All-append (IsBelow (variables_to s (b + 1))) base block old fresh)
    (All-append (Holds x.values) base block (model_agrees f x.values (variables_to s b) base inside before m) x.model)
    (still_open s f x.values ls same (All-tail (OfCover (LeavesOpen s f)) (cover v) ls h)) in
    let count : b + (covers_in ls + 1) ≡ (b + 1) + covers_in ls = omega arith in
    record {
      values = r.values;
      agree = λ y l. agree_at r.values x.values y (b + (covers_in ls + 1)) count r.agree before x.agree l;
      model = subst (λ (cs : List Linear). IsModel cs r.values) (append_assoc base block (blocks_from (cover_frame s) (b + 1) ls)) r.model;
    }
  where
    agree_at : (values mid : Bits) (y n : ℕ) → n ≡ (b + 1) + covers_in ls → ((z : ℕ) → (z < variables_to s (b + 1)) ⊎ (variables_to s ((b + 1) + covers_in ls) ≤ z) → values z ≡ mid z)
        → ((z : ℕ) → z < variables_to s b → f z ≡ mid z) → AgreeOutside s (b + 1) mid f
        → (y < variables_to s b) ⊎ (variables_to s n ≤ y) → values y ≡ f y
    agree_at values mid y n e there before outside (inl l) = there y (inl (omega (arith, l, one_more s b))) ∙ sym (before y l)
    agree_at values mid y n e there before outside (inr l) =
        let far : variables_to s ((b + 1) + covers_in ls) ≤ y = subst (λ (k : ℕ). variables_to s k ≤ y) e l in
        there y (inr far) ∙ agrees_after s b f mid outside y (omega (arith, more_later s (b + 1) (covers_in ls), far))

-- a model whose vector no cover covers can be made one of all blocks too
pub all_extend : AllExtend
all_extend s ls f wf m h =
    let none : all_variables s ≡ variables_to s 0 = omega arith in
    let inside : All (IsBelow (variables_to s 0)) (encoding s) = subst (λ (n : ℕ). All (IsBelow n) (encoding s)) none (encoding_below s wf) in
    let r = extend s ls 0 (encoding s) f inside m h in
    record { values = r.values; agree = λ x l. r.agree x (at x l); model = r.model }
  where
    at : (x : ℕ) → (x < all_variables s) ⊎ (variables_to s (covers_in ls) ≤ x) → (x < variables_to s 0) ⊎ (variables_to s (0 + covers_in ls) ≤ x)
    at x (inl l) = inl (omega (arith, l))
    at x (inr l) = (let e : covers_in ls ≡ 0 + covers_in ls = omega arith in inr (subst (λ (n : ℕ). variables_to s n ≤ x) e l))
