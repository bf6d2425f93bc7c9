use Rattle.std.proofs.Common.{◌≡◌, ◌≢◌, ℕ, ◌+◌, ◌<◌, ◌^◌, Bool, true, false, not, cond, eqb, Option, Some, None, List, [], ◌∷◌, ◌++◌, length, get_or, take, refl, sym, ap, ◌∙◌, subst, arith, zero, suc, map, is_some, is_none}
use Rattle.std.specs.Prelude.{All}
use Rattle.std.proofs.Math.Path.{fun_ext}
use Rattle.std.proofs.lemmas.List.{take_all, length-map}
use Rattle.std.proofs.lemmas.Bool.Decides.{nat_tests}
use Rattle.std.proofs.Math.Bool.{not-not}
use Rattle.pb_constraints.specs.declared.ConId.{ConId}
use Rattle.pb_rules.specs.declared.Term.{Term}
use Rattle.pb_rules.specs.Literal.{Literal}
use Rattle.pb_rules.specs.Linear.{IsNormal}
use Rattle.pb_rules.specs.Partial.{Forces}
use Rattle.conflict_graph.specs.Clauses.{false_signs, clause_ops}
use Rattle.pb_rules.specs.declared.Op.{Op}
use Rattle.pb_rules.specs.declared.Op.TheVariants.{Add, Saturate}
use Rattle.constraint_store.specs.Live.{Live, constraint_of, proof_id_of}
use Rattle.trail_state.specs.Trail.{Entry, is_decision, value_in, reason_in, level_of, IsDistinct}
use Rattle.conflict_graph.specs.Conditions.{IsUsable, AllForced}
use Rattle.conflict_graph.specs.Learning.{currents, either, Learning}
use Rattle.pb_rules.specs.Partial.{flipped, GoesOn}
use Rattle.trail_state.proofs.Levels.{first_at, before_level}
use Rattle.trail_state.proofs.Entries.{value_more_same}
use Rattle.conflict_graph.proofs.Signs.{signs-false}
use Rattle.conflict_graph.proofs.Steps.{IsResolvent, learning_resolve, learning_skip, decision_alone}

pub lit_at : (es : List Entry) (p : ℕ) (l : Literal) (d : Entry) → p < length es → l ≡ get_or (map (λ (e : Entry). e.lit) es) p l → l ≡ (get_or es p d).lit
lit_at [] p l d h e = absurd (omega arith)
lit_at (f ∷ es) zero l d h e = e
lit_at (f ∷ es) (suc p) l d h e = lit_at es p l d (omega arith) e

some_of : (o : Option Bool) → is_some o ≡ true → (b : Bool) × (o ≡ Some b)
some_of None h = absurd (cc)
some_of (Some b) h = (b, refl)

-- what the code reads at a place where the clause has the literal's opposite
pub record CanResolve (live : List Live) (es : List Entry) (n p : ℕ) (l : Literal) (r : ConId) (f : ℕ → Option Bool) (ops : List Op) : Type 0 where
  pub usable : IsUsable live n r
  pub forces : Forces (value_in (take p es)) (constraint_of live r) l
  pub set : value_in es l.var ≡ Some l.yes
  pub there : f l.var ≡ Some (not l.yes)
  pub step : IsNormal (constraint_of live r).terms (constraint_of live r).degree → (h : ℕ → Option Bool) → IsResolvent f (false_signs (value_in (take p es)) (constraint_of live r).terms) h l.var
      → Learning live es n p h (currents n 0 es h) (ops ++ (clause_ops (proof_id_of live r) (flipped (value_in (take p es)) l) (constraint_of live r) ++ Add ∷ Saturate ∷ []))

pub at_place : (es : List Entry) (n p : ℕ) (l : Literal) → p < length es → IsDistinct es → All (λ (e : Entry). e.lit.var < n) es → l ≡ get_or (map (λ (e : Entry). e.lit) es) p l → (l.var < n)
    × (value_in (take p es) l.var ≡ None)
at_place es n p l h distinct in_range e =
    let d : Entry = record { lit = l; reason = None } in
    let q = lit_at es p l d h e in
    let P : Literal → Type 0 = λ l. (l.var < n) × (value_in (take p es) l.var ≡ None) in
    subst P (sym q) (in_range p d h, distinct p d h)

pub can_resolve : (live : List Live) (es : List Entry) (n p : ℕ) (l : Literal) (r : ConId) (f : ℕ → Option Bool) (count : ℕ) (ops : List Op) → p < length es → n < 2 ^ 62 → IsDistinct es
    → l ≡ get_or (map (λ (e : Entry). e.lit) es) p l → AllForced live n es →
    ((d : Entry) → is_some (f (get_or es p d).lit.var) ≡ true) → (0 < level_of es → 1 < count) → Learning live es n (p + 1) f count ops → reason_in es l.var ≡ Some r → CanResolve live es n p l r f ops
can_resolve live es n p l r f count ops h few distinct e forced marked two learning reason =
    let d : Entry = record { lit = l; reason = None } in
    let q : l ≡ (get_or es p d).lit = lit_at es p l d h e in
    let first = first_at es (get_or es p d).lit.var p d h refl (distinct p d h) in
    let reason' : (get_or es p d).reason ≡ Some r = sym first.reason ∙ ap (λ (m : Literal). reason_in es m.var) (sym q) ∙ reason in
    let by = forced p d r h reason' in
    let m = some_of (f (get_or es p d).lit.var) (marked d) in
    let v : value_in (take (p + 1) es) (get_or es p d).lit.var ≡ Some (get_or es p d).lit.yes = value_more_same es p d h distinct in
    let w : value_in (take (p + 1) es) (get_or es p d).lit.var ≡ Some (not m.0) = learning.false_before (get_or es p d).lit.var m.0 m.1 in
    let s : not m.0 ≡ (get_or es p d).lit.yes = cc in
    let s' : m.0 ≡ not (get_or es p d).lit.yes = sym (not-not m.0) ∙ ap not s in
    let P : Literal → Type 0 = λ l. CanResolve live es n p l r f ops in
    subst P (sym q) (record {
      usable = by.usable;
      forces = by.forces;
      set = first.value;
      there = m.1 ∙ ap (λ (b : Bool). Some b) s';
      step = λ normal g is. learning_resolve live es n p d f g count ops r m.0 few h distinct by normal m.1 two is learning;
    })

pub no_decision : (live : List Live) (es : List Entry) (n p : ℕ) (l : Literal) (f : ℕ → Option Bool) (count : ℕ) (ops : List Op) → p < length es → IsDistinct es
    → l ≡ get_or (map (λ (e : Entry). e.lit) es) p l → (0 < level_of es → 1 < count) → Learning live es n (p + 1) f count ops → reason_in es l.var ≡ None → ⊥
no_decision live es n p l f count ops h distinct e two learning reason =
    let d : Entry = record { lit = l; reason = None } in
    let q : l ≡ (get_or es p d).lit = lit_at es p l d h e in
    let first = first_at es (get_or es p d).lit.var p d h refl (distinct p d h) in
    let reason' : (get_or es p d).reason ≡ None = sym first.reason ∙ ap (λ (m : Literal). reason_in es m.var) (sym q) ∙ reason in
    let dec : is_decision (get_or es p d) ≡ true = ap is_none reason' in
    let a = decision_alone live es n p d f count ops h dec learning in
    let pos = a.0 in
    let le = a.1 in
    let t = two pos in
    omega arith

pub before_goes_on : (es : List Entry) (p : ℕ) (a : ℕ → Option Bool) → a ≡ value_in (take p es) → GoesOn a (value_in es)
before_goes_on es p a e x b s = (before_level es x p b (ap (λ (q : ℕ → Option Bool). q x) (sym e) ∙ s)).1

no_sign : (a : ℕ → Option Bool) (ts : List Term) (n x : ℕ) → ((i : ℕ) (d : Term) → i < length ts → (get_or ts i d).lit.var < n) → a x ≡ None → (o : Option Bool) → false_signs a ts x ≡ o → o ≡ None
no_sign a ts n x w free None s = refl
no_sign a ts n x w free (Some b) s = absurd (let v = (signs-false a ts n w x b s).0 in cc)

-- what dropping and marking leave is the resolvent
pub is_resolvent : (a b : ℕ → Option Bool) (ts : List Term) (n x : ℕ) (f mid h : ℕ → Option Bool) → ((i : ℕ) (d : Term) → i < length ts → (get_or ts i d).lit.var < n) → b ≡ a → a x ≡ None
    → ((y : ℕ) → mid y ≡ cond (eqb x y) None (f y)) → ((y : ℕ) → h y ≡ either (mid y) (false_signs b ts y)) → IsResolvent f (false_signs a ts) h x
is_resolvent a b ts n x f mid h w e free dropped added = record {
  here = (let t : eqb x x ≡ true = grind (arith, nat_tests) in
      let m : mid x ≡ None = dropped x ∙ rw t refl in
      added x ∙ ap (λ o. either o (false_signs b ts x)) m ∙ ap (λ (q : ℕ → Option Bool). false_signs q ts x) e ∙ no_sign a ts n x w free (false_signs a ts x) refl);
  other = λ y ne. (let t : eqb x y ≡ false = (let n : x ≢ y = λ q. ne (sym q) in grind (arith, nat_tests)) in
      let m : mid y ≡ f y = dropped y ∙ rw t refl in
      added y ∙ ap (λ o. either o (false_signs b ts y)) m ∙ ap (λ (q : ℕ → Option Bool). either (f y) (false_signs q ts y)) e);
}

pub learning_same : (live : List Live) (es : List Entry) (n p k : ℕ) (h : ℕ → Option Bool) (ops ops' : List Op) → k ≡ currents n 0 es h → ops' ≡ ops
    → Learning live es n p h (currents n 0 es h) ops → Learning live es n p h k ops'
learning_same live es n p k h ops ops' e q l =
    let P : ℕ → List Op → Type 0 = λ k os. Learning live es n p h k os in
    let Q : ℕ → Type 0 = λ k. P k ops in
    let R : List Op → Type 0 = λ os. P k os in
    subst R (sym q) (subst Q (sym e) l)

-- the entries before the place behind the last literal are all
pub whole_trail : (es : List Entry) (ls : List Literal) → ls ≡ map (λ (e : Entry). e.lit) es → take (length ls) es ≡ es
whole_trail es ls e =
    let len : length ls ≡ length es = ap length e ∙ length-map es (λ (e : Entry). e.lit) in
    take_all (length ls) es (omega arith)

pub skip_place : (live : List Live) (es : List Entry) (n p : ℕ) (l : Literal) (f : ℕ → Option Bool) (count : ℕ) (ops : List Op) → p < length es → l ≡ get_or (map (λ (e : Entry). e.lit) es) p l
    → f l.var ≡ None → Learning live es n (p + 1) f count ops → Learning live es n p f count ops
skip_place live es n p l f count ops h e none learning =
    let d : Entry = record { lit = l; reason = None } in
    let q : l ≡ (get_or es p d).lit = lit_at es p l d h e in
    learning_skip live es n p d f count ops h (ap (λ (m : Literal). f m.var) (sym q) ∙ none) learning

pub start_same : (live : List Live) (es : List Entry) (n p k : ℕ) (f g : ℕ → Option Bool) (ops ops' : List Op) → p ≡ length es → f ≡ g → k ≡ currents n 0 es f → ops' ≡ ops
    → Learning live es n (length es) g (currents n 0 es g) ops → Learning live es n p f k ops'
start_same live es n p k f g ops ops' ep ef ek eo l =
    let A : ℕ → Type 0 = λ p. Learning live es n p f k ops' in
    let B : (ℕ → Option Bool) → Type 0 = λ g. Learning live es n (length es) g (currents n 0 es g) ops in
    subst A (sym ep) (learning_same live es n (length es) k f ops ops' ek eo (subst B (sym ef) l))

pub marked_start : (a b : ℕ → Option Bool) (ts us : List Term) (start now : ℕ → Option Bool) → ((x : ℕ) → start x ≡ None) → b ≡ a → us ≡ ts
    → ((y : ℕ) → now y ≡ either (start y) (false_signs b us y)) → now ≡ false_signs a ts
marked_start a b ts us start now none e t added =
    fun_ext (λ y. added y ∙ ap (λ o. either o (false_signs b us y)) (none y) ∙ ap (λ (q : ℕ → Option Bool). false_signs q us y) e ∙ ap (λ us. false_signs a us y) t)
