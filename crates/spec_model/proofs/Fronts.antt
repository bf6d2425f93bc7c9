-- The front of a specification with two objectives, worked out by hand.
use Rattle.std.proofs.Common.{◌≡◌, ◌≢◌, ℕ, zero, suc, ◌+◌, ◌<◌, ◌≤◌, Bool, true, false, cond, List, [], ◌∷◌, length, refl, sym, ap, ◌∙◌, subst, arith, inl, inr}
use Rattle.std.proofs.lemmas.Bool.{false≢true}
use Rattle.spec_model.specs.Spec.{Bits, option_at, resource_var}
use Rattle.spec_model.specs.Rules.{IsOn, BoundOnce, IsResourceNeeded, IsRouted, IsValid, of_task}
use Rattle.spec_model.specs.Vectors.{vector_at, vector_of, weights_of, arc_weight, IsAtMost, Dominates, IsInFront}
use Rattle.spec_model.proofs.Rows.{priced, of_list, vector_priced}

-- the task on b
abbrev on_b : Bits
on_b = of_list (1 ∷ (4 ∷ []))

needed_b : IsResourceNeeded priced on_b 1
needed_b = inl (record { task = 0; in_range = omega arith; on = record { choice = 1; in_range = omega arith; chosen = refl; of_task = refl; on_resource = refl } })

-- the resource of a chosen option
only_b : (r : ℕ) → IsResourceNeeded priced on_b r → r ≡ 1
only_b r (inl x) = at x.on.choice x.on.chosen x.on.on_resource x.on.in_range
  where
    at : (o : ℕ) → on_b o ≡ true → (option_at priced o).resource ≡ r → o < 3 → r ≡ 1
    at zero c e l = absurd (false≢true c)
    at (suc zero) c e l = sym e
    at (suc (suc zero)) c e l = absurd (false≢true c)
    at (suc (suc (suc o))) c e l = absurd (omega (arith, l))
only_b r (inr x) = absurd (omega (arith, x.in_range))

bound_b : (t : ℕ) → t < 1 → BoundOnce priced on_b t
unfolding of_task
bound_b zero l = refl
bound_b (suc t) l = absurd (omega (arith, l))

used_b : (r : ℕ) → r < 3 → ((on_b (resource_var priced r) ≡ true) → IsResourceNeeded priced on_b r) × (IsResourceNeeded priced on_b r → on_b (resource_var priced r) ≡ true)
used_b zero l = (λ e. absurd (false≢true e), λ n. absurd (let e = only_b 0 n in omega (arith, e)))
used_b (suc zero) l = (λ e. needed_b, λ n. refl)
used_b (suc (suc zero)) l = (λ e. absurd (false≢true e), λ n. absurd (let e = only_b 2 n in omega (arith, e)))
used_b (suc (suc (suc r))) l = absurd (omega (arith, l))

valid_b : IsValid priced on_b
valid_b = record {
  routed = record {
    bound_once = bound_b;
    no_arc_into_sender = λ m a l. absurd (omega (arith, l));
    one_arc_into = λ m r l. absurd (omega (arith, l));
    has_walk = λ m a l. absurd (omega (arith, l));
    no_dangling = λ m a l. absurd (omega (arith, l));
    resource_use = used_b;
    link_use = λ n l. absurd (omega (arith, l));
  };
  reached = λ m w r l. absurd (omega (arith, l));
}

abbrev amount : Bool → ℕ → ℕ
amount t n = cond t n 0

-- the vector, by the bits of the three options and the three resources
abbrev numbers : Bool → Bool → Bool → Bool → Bool → Bool → List ℕ
numbers p q r a b c = (cond a 1 0 + cond b 4 0 + cond c 4 0) ∷ ((cond p 5 0 + cond q 2 0 + cond r 5 0) ∷ [])

vector_is : (g : Bits) → vector_of priced g ≡ numbers (g 0) (g 1) (g 2) (g 3) (g 4) (g 5)
unfolding vector_at weights_of arc_weight
vector_is g = by_bits (g 0) (g 1) (g 2) (g 3) (g 4) (g 5)
  where
    add_up : ℕ → ℕ → ℕ → ℕ → ℕ → ℕ → ℕ
    add_up p q r a b c = ((((((0 + p) + q) + r) + a) + b) + c)

    by_bits : (p q r a b c : Bool) → add_up (cond p 0 0) (cond q 0 0) (cond r 0 0) (cond a 1 0) (cond b 4 0) (cond c 4 0)
        ∷ (add_up (cond p 5 0) (cond q 2 0) (cond r 5 0) (cond a 0 0) (cond b 0 0) (cond c 0 0) ∷ []) ≡ numbers p q r a b c
    by_bits p q r a b c = pair (omega (arith, none p, none q, none r)) (omega (arith, none a, none b, none c))
      where
        none : (t : Bool) → amount t 0 ≡ 0
        none true = refl
        none false = refl

        pair : {u v w z : ℕ} → u ≡ w → v ≡ z → u ∷ (v ∷ []) ≡ w ∷ (z ∷ [])
        pair {u = u} {z = z} e f = ap (λ (k : ℕ). u ∷ (k ∷ [])) f ∙ ap (λ (k : ℕ). k ∷ (z ∷ [])) e

-- a valid design with no more energy than 2 has the task on b, and no less cost than 4
none_below : (g : Bits) → IsValid priced g → ¬ Dominates (vector_of priced g) (4 ∷ (2 ∷ []))
unfolding of_task
none_below g valid d = at (g 0) (g 1) (g 2) (g 3) (g 4) (g 5) (valid.routed.bound_once 0 (omega arith)) allocated low (λ e. d.1 (vector_is g ∙ e))
  where
    allocated : g 1 ≡ true → g 4 ≡ true
    allocated e =
        (valid.routed.resource_use 1 (omega arith)).1 (inl (record {
          task = 0;
          in_range = omega arith;
          on =
              record { choice = 1; in_range = omega arith; chosen = e; of_task = refl; on_resource = refl };
        }))

    low : IsAtMost (numbers (g 0) (g 1) (g 2) (g 3) (g 4) (g 5)) (4 ∷ (2 ∷ []))
    low = subst (λ (u : List ℕ). IsAtMost u (4 ∷ (2 ∷ []))) (vector_is g) d.0

    at : (p q r a b c : Bool) → ((0 + cond p 1 0) + cond q 1 0) + cond r 1 0 ≡ 1 → (q ≡ true → b ≡ true) → IsAtMost (numbers p q r a b c) (4 ∷ (2 ∷ [])) → numbers p q r a b c ≢ 4 ∷ (2 ∷ []) → ⊥
    at true q r a b c once al h n = let l = h 1 in absurd (omega (arith, l))
    at false q true a b c once al h n = let l = h 1 in absurd (omega (arith, l))
    at false false false a b c once al h n = absurd (omega (arith, once))
    at false true false a false c once al h n = false≢true (al refl)
    at false true false true true c once al h n = let l = h 0 in absurd (omega (arith, l))
    at false true false false true true once al h n = let l = h 0 in absurd (omega (arith, l))
    at false true false false true false once al h n = n refl

-- cost 4 with energy 2 is in the front
in_front : IsInFront priced (4 ∷ (2 ∷ []))
in_front = record { design = on_b; valid = valid_b; vector = vector_priced; undominated = none_below }

-- cost 4 with energy 5 isn't: the task on b has the same cost and less energy
not_in_front : ¬ IsInFront priced (4 ∷ (5 ∷ []))
not_in_front x =
    x.undominated on_b valid_b (subst (λ (u : List ℕ). Dominates u (4 ∷ (5 ∷ []))) (sym vector_priced)
    (at_most, λ e. (let f : second (4 ∷ (2 ∷ [])) ≡ second (4 ∷ (5 ∷ [])) = ap second e in absurd (omega (arith, f)))))
  where
    at_most : IsAtMost (4 ∷ (2 ∷ [])) (4 ∷ (5 ∷ []))
    at_most zero = omega arith
    at_most (suc zero) = omega arith
    at_most (suc (suc j)) = omega arith

    second : List ℕ → ℕ
    second [] = 0
    second (u ∷ []) = 0
    second (u ∷ (v ∷ us)) = v
