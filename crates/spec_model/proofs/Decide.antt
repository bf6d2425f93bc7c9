-- Tests that decide who is where, and which walks there are.
use Rattle.std.proofs.Common.{◌≡◌, ℕ, zero, suc, ◌+◌, ◌<◌, ◌≤◌, Bool, true, false, cond, List, [], ◌∷◌, length, nat_eq, refl, sym, ap, ◌∙◌, subst, arith, ◌⊎◌, inl, inr}
use Rattle.std.specs.Prelude.{◌&&◌, ◌↔◌}
use Rattle.std.proofs.lemmas.Bool.{false≢true, and_parts, and_from, eq-eqb, eqb-true}
use Rattle.spec_model.specs.Spec.{SpecValue, Bits, below, those, arc_at, option_at, arc_var}
use Rattle.spec_model.specs.Rules.{IsOn, Uses, Walk, sender_of}
use Rattle.spec_model.specs.Walks.{some_passes, puts, on_test, walk_test}
use Rattle.spec_model.proofs.Those.{cases_suc}

-- where some number passes, one is found
pub passes_some : (p : ℕ → Bool) (n : ℕ) → some_passes p n ≡ true → (i : ℕ) × (i < n) × (p i ≡ true)
passes_some p zero e = absurd (false≢true e)
passes_some p (suc n) e = at (p n) refl e (passes_some p n)
  where
    at : (b : Bool) → p n ≡ b → cond b true (some_passes p n) ≡ true → (some_passes p n ≡ true → (i : ℕ) × (i < n) × (p i ≡ true)) → (i : ℕ) × (i < suc n) × (p i ≡ true)
    at true pn e before = (n, omega arith, pn)
    at false pn e before = let x = before e in (x.0, omega (arith, x.1), x.2)

-- where one passes, some do
pub some_passes_from : (p : ℕ → Bool) (n i : ℕ) → i < n → p i ≡ true → some_passes p n ≡ true
some_passes_from p zero i h e = absurd (omega (arith, h))
some_passes_from p (suc n) i h e =
    elim (cases_suc i n h) [
      | inl same ↦ ap (λ (b : Bool). cond b true (some_passes p n)) (subst (λ (k : ℕ). p k ≡ true) same e)
      | inr l ↦ ap (λ (b : Bool). cond (p n) true b) (some_passes_from p n i l e) ∙ either (p n)
    ]
  where
    either : (b : Bool) → cond b true true ≡ true
    either true = refl
    either false = refl

pub IsOn-from_test : (s : SpecValue) (f : Bits) (t r : ℕ) → on_test s f t r ≡ true → IsOn s f t r
IsOn-from_test s f t r e =
    let x = passes_some (puts s f t r) (length s.options) e in
    let p = and_parts _ _ x.2 in
    let q = and_parts _ _ p.1 in
    record { choice = x.0; in_range = x.1; chosen = p.0; of_task = eqb-true _ _ q.0; on_resource = eqb-true _ _ q.1 }

pub on_test_from : (s : SpecValue) (f : Bits) (t r : ℕ) → IsOn s f t r → on_test s f t r ≡ true
on_test_from s f t r x =
    some_passes_from (puts s f t r) (length s.options) x.choice x.in_range (and_from _ _ x.chosen (and_from _ _ (eq-eqb _ _ x.of_task) (eq-eqb _ _ x.on_resource)))

-- a test of a walk says that there is one,
pub Walk-from_test : (s : SpecValue) (f : Bits) (m n r : ℕ) → walk_test s f m n r ≡ true → Walk s f m r n
Walk-from_test s f m zero r e = IsOn-from_test s f (sender_of s m) r e
Walk-from_test s f m (suc n) r e =
    let x = passes_some (λ a. f (arc_var s m a) && (nat_eq (arc_at s a).head r && walk_test s f m n (arc_at s a).tail)) (length s.arcs) e in
    let p = and_parts _ _ x.2 in
    let q = and_parts _ _ p.1 in
    (x.0, record { in_range = x.1; bit = p.0 }, eqb-true _ _ q.0, Walk-from_test s f m n (arc_at s x.0).tail q.1)

-- and says so wherever there is
pub walk_test_from : (s : SpecValue) (f : Bits) (m n r : ℕ) → Walk s f m r n → walk_test s f m n r ≡ true
walk_test_from s f m zero r w = on_test_from s f (sender_of s m) r w
walk_test_from s f m (suc n) r w =
    some_passes_from (λ a. f (arc_var s m a) && (nat_eq (arc_at s a).head r && walk_test s f m n (arc_at s a).tail)) (length s.arcs) w.0 w.1.in_range
    (and_from _ _ w.1.bit (and_from _ _ (eq-eqb _ _ w.2) (walk_test_from s f m n (arc_at s w.0).tail w.3)))
