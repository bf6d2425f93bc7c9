-- Which variables are there over the encoding and the blocks of covers.
use Rattle.std.proofs.Common.{◌≡◌, ℕ, zero, suc, ◌+◌, ◌-◌, ◌<◌, ◌≤◌, Bool, true, false, cond, eqb, ltb, List, [], ◌∷◌, ◌++◌, length, map, refl, sym, ap, ◌∙◌, subst, arith, ◌⊎◌, inl, inr}
use Rattle.std.specs.Prelude.{All}
use Rattle.std.proofs.lemmas.Bool.{cases_lt, cases_Bool, eqb-true, lt-ltb, le-ltb}
use Rattle.std.proofs.lemmas.List.{append_assoc, append-nil}
use Rattle.std.proofs.lemmas.List.Elements.{All-head, All-tail}
use Rattle.pb_rules.specs.declared.Term.{Term}
use Rattle.pb_rules.specs.Linear.{Linear, VarsBelow}
use Rattle.pb_rules.specs.Operations.{mentions}
use Rattle.pb_rules.specs.Frames.{any_mentions, Line, derived, cover, HasNumbers, CoversHave, blocks_from, blocks_by}
use Rattle.pb_rules.proofs.Known.{mentions-append}
use Rattle.pb_constraints.specs.Sets.{IsBelow}
use Rattle.spec_model.specs.Spec.{SpecValue, below, all_variables}
use Rattle.spec_model.specs.WellFormed.{IsWellFormed}
use Rattle.encode_model.specs.Encoding.{encoding}
use Rattle.encode_model.specs.Block.{below_var, is_below, below_somewhere, below_place, block_of, cover_frame}
use Rattle.encode_model.proofs.Formed.{encoding_below}
use Rattle.encode_model.proofs.Known.{HasVariable, at_least-mentions, in_map, encoding_knows}
use Rattle.block_encode.specs.Laws.{variables_to, covers_in, KnowsBelow, FramesKnow}
use Rattle.block_encode.proofs.Forms.{block_in_range}
use Rattle.block_encode.proofs.Extending.{next_behind, one_more}

-- a variable behind all that constraints have isn't there
not_mentioned : (x n : ℕ) (ts : List Term) → VarsBelow n ts → n ≤ x → mentions x ts ≡ false
not_mentioned x n [] h l = refl
not_mentioned x n (t ∷ ts) h l =
    elim (cases_Bool (eqb t.lit.var x)) [
      | inl e ↦ absurd (omega (arith, l, eqb-true t.lit.var x e, All-head (λ (u : Term). u.lit.var < n) t ts h))
      | inr e ↦ ap (λ (b : Bool). cond b true (mentions x ts)) e ∙ not_mentioned x n ts (All-tail (λ (u : Term). u.lit.var < n) t ts h) l
    ]

not_known : (x n : ℕ) (cs : List Linear) → All (IsBelow n) cs → n ≤ x → any_mentions cs x ≡ false
not_known x n [] h l = refl
not_known x n (c ∷ cs) h l =
    ap (λ (b : Bool). cond b true (any_mentions cs x)) (not_mentioned x n c.terms (All-head (IsBelow n) c cs h) l) ∙ not_known x n cs (All-tail (IsBelow n) c cs h) l

-- the variables of the encoding
pub encoding_known : (s : SpecValue) → IsWellFormed s → KnowsBelow (encoding s) (all_variables s)
encoding_known s wf x =
    elim (cases_lt x (all_variables s)) [
      | inl l ↦ encoding_knows s x l ∙ sym (lt-ltb x (all_variables s) l)
      | inr l ↦ not_known x (all_variables s) (encoding s) (encoding_below s wf) l ∙ sym (le-ltb x (all_variables s) l)
    ]

-- a block's own variables stand in its first constraint
own_known : (s : SpecValue) (b j : ℕ) (v : List ℕ) → j < length s.objectives → any_mentions (block_of s b v) (below_var s b j) ≡ true
unfolding block_of is_below
own_known s b j v l =
    let x : ℕ = below_var s b j in
    let e : 0 + j ≡ j = omega arith in
    let has : HasVariable x (map (is_below s b) (below (length s.objectives))) = subst (λ (k : ℕ). HasVariable (below_var s b k) (map (is_below s b) (below (length s.objectives)))) e
    (in_map (is_below s b) (length s.objectives) 0 j l) in
    ap (λ (t : Bool). cond t true (any_mentions (map (below_place s b v) (below (length v))) x)) (at_least-mentions x 1 (map (is_below s b) (below (length s.objectives))) has)

-- one block more
pub block_known : (s : SpecValue) (b : ℕ) (v : List ℕ) (cs : List Linear) → length v ≡ length s.objectives → KnowsBelow cs (variables_to s b)
    → KnowsBelow (cs ++ block_of s (b + 1) v) (variables_to s (b + 1))
block_known s b v cs long h x =
    mentions-append cs (block_of s (b + 1) v) x ∙ (ap (λ (t : Bool). cond t true (any_mentions (block_of s (b + 1) v) x)) (h x)
    ∙ at (cases_lt x (variables_to s b)) (cases_lt x (variables_to s (b + 1))))
  where
    at : (x < variables_to s b) ⊎ (variables_to s b ≤ x) → (x < variables_to s (b + 1)) ⊎ (variables_to s (b + 1) ≤ x)
        → cond (ltb x (variables_to s b)) true (any_mentions (block_of s (b + 1) v) x) ≡ ltb x (variables_to s (b + 1))
    at (inl l) k =
        ap (λ (t : Bool). cond t true (any_mentions (block_of s (b + 1) v) x)) (lt-ltb x (variables_to s b) l) ∙ sym (lt-ltb x (variables_to s (b + 1)) (omega (arith, l, one_more s b)))
    at (inr l) (inl k) =
        let j : ℕ = x - variables_to s b in
        let is : below_var s (b + 1) j ≡ x = omega (arith, next_behind s b j, l) in
        let there : any_mentions (block_of s (b + 1) v) x ≡ true = subst (λ (y : ℕ). any_mentions (block_of s (b + 1) v) y ≡ true) is (own_known s (b + 1) j v (omega (arith, l, k, one_more s b))) in
        ap (λ (t : Bool). cond t true (any_mentions (block_of s (b + 1) v) x)) (le-ltb x (variables_to s b) l) ∙ (there ∙ sym (lt-ltb x (variables_to s (b + 1)) k))
    at (inr l) (inr k) =
        ap (λ (t : Bool). cond t true (any_mentions (block_of s (b + 1) v) x)) (le-ltb x (variables_to s b) l)
        ∙ (not_known x (variables_to s (b + 1)) (block_of s (b + 1) v) (block_in_range s (b + 1) v (omega arith) long) k ∙ sym (le-ltb x (variables_to s (b + 1)) k))

blocks_known : (s : SpecValue) (ls : List Line) (b : ℕ) (cs : List Linear) → CoversHave (length s.objectives) ls → KnowsBelow cs (variables_to s b)
    → KnowsBelow (cs ++ blocks_from (cover_frame s) b ls) (variables_to s (b + covers_in ls))
blocks_known s [] b cs h known =
    let e : b ≡ b + 0 = omega arith in
    subst (λ (n : ℕ). KnowsBelow (cs ++ []) (variables_to s n)) e (subst (λ (ds : List Linear). KnowsBelow ds (variables_to s b)) (sym (append-nil cs)) known)
blocks_known s (derived ops ∷ ls) b cs h known = blocks_known s ls b cs (All-tail (HasNumbers (length s.objectives)) (derived ops) ls h) known
blocks_known s (cover v ∷ ls) b cs h known =
    let one : length v ≡ length s.objectives = All-head (HasNumbers (length s.objectives)) (cover v) ls h in
    let e : (b + 1) + covers_in ls ≡ b + (covers_in ls + 1) = omega arith in
    let block : List Linear = block_of s (b + 1) v in
    subst (λ (n : ℕ). KnowsBelow (cs ++ (block ++ blocks_from (cover_frame s) (b + 1) ls)) (variables_to s n)) e
    (subst (λ (ds : List Linear). KnowsBelow ds (variables_to s ((b + 1) + covers_in ls))) (append_assoc cs block (blocks_from (cover_frame s) (b + 1) ls))
    (blocks_known s ls (b + 1) (cs ++ block) (All-tail (HasNumbers (length s.objectives)) (cover v) ls h) (block_known s b v cs one known)))

pub frames_know : FramesKnow
frames_know s ls wf h =
    let e : all_variables s ≡ variables_to s 0 = omega arith in
    let count : 0 + covers_in ls ≡ covers_in ls = omega arith in
    subst (λ (n : ℕ). KnowsBelow (encoding s ++ blocks_by (cover_frame s) ls) (variables_to s n)) count
    (blocks_known s ls 0 (encoding s) h (subst (λ (n : ℕ). KnowsBelow (encoding s) n) e (encoding_known s wf)))
