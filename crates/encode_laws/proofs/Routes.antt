-- From a model to routes: used arcs, steps and walks of one message.
use Rattle.std.proofs.Common.{◌≡◌, ℕ, zero, suc, ◌+◌, ◌-◌, ◌<◌, ◌≤◌, Bool, true, false, length, refl, sym, ap, ◌∙◌, subst, arith, inl, inr}
use Rattle.std.specs.List.{count_by}
use Rattle.std.proofs.lemmas.Bool.{false≢true, cases_lt, eqb-true}
use Rattle.spec_model.specs.Spec.{SpecValue, Bits, below, message_at, arc_at, step_var, covered_var}
use Rattle.spec_model.specs.Rules.{IsOn, Uses, Walk, WalkBelow, goes_into, arc_bit, uses_into, sender_of}
use Rattle.encode_model.specs.Encoding.{step_after}
use Rattle.spec_model.proofs.Counts.{bit, count-map, some_below, counted_below, same_below, some_those, count-below_first, count_agree}
use Rattle.encode_laws.proofs.Equations.{Equations, HasEnds, steps_true}

bit-le : (b : Bool) → bit b ≤ 1
bit-le true = omega arith
bit-le false = omega arith

-- the steps of a resource, as a count over the numbers
pub steps_0 : (s : SpecValue) (f : Bits) (m r : ℕ) → steps_true s f m r 0 ≡ count_by (λ t. f (step_var s m r t)) (below ((message_at s m).limit + 1))
unfolding steps_true step_after
steps_0 s f m r =
    let n : (message_at s m).limit + 1 - 0 ≡ (message_at s m).limit + 1 = omega arith in
    count-map f (step_after s m r 0) (below ((message_at s m).limit + 1 - 0))
    ∙ (ap (λ (k : ℕ). count_by (λ t. f (step_after s m r 0 t)) (below k)) n
    ∙ count_agree (λ t. f (step_after s m r 0 t)) (λ t. f (step_var s m r t)) (below ((message_at s m).limit + 1)) (λ t. let e : 0 + t ≡ t = omega arith in ap (λ (k : ℕ). f (step_var s m r k)) e))

pub steps_1 : (s : SpecValue) (f : Bits) (m r : ℕ) → steps_true s f m r 1 ≡ count_by (λ t. f (step_var s m r (1 + t))) (below (message_at s m).limit)
unfolding steps_true step_after
steps_1 s f m r =
    let n : (message_at s m).limit + 1 - 1 ≡ (message_at s m).limit = omega arith in
    count-map f (step_after s m r 1) (below ((message_at s m).limit + 1 - 1))
    ∙ ap (λ (k : ℕ). count_by (λ t. f (step_var s m r (1 + t))) (below k)) n

module _ (s : SpecValue) (f : Bits) (m : ℕ) (ends_in : HasEnds s) (eqs : Equations s f m) where
  -- a resource is reached at one step at most
  one_step : (r t u : ℕ) → r < length s.resources → t ≤ (message_at s m).limit → u ≤ (message_at s m).limit → f (step_var s m r t) ≡ true → f (step_var s m r u) ≡ true → t ≡ u
  one_step r t u hr ht hu et eu =
      same_below (λ k. f (step_var s m r k)) ((message_at s m).limit + 1) t u (omega arith) (omega arith) et eu (omega (arith, steps_0 s f m r, eqs.cover r hr, bit-le (f (covered_var s m r))))

  -- a covered resource is reached at some step
  pub some_step : (r : ℕ) → r < length s.resources → f (covered_var s m r) ≡ true → (t : ℕ) × (t < (message_at s m).limit + 1) × (f (step_var s m r t) ≡ true)
  some_step r hr c = some_below (λ k. f (step_var s m r k)) ((message_at s m).limit + 1) (omega (arith, steps_0 s f m r, eqs.cover r hr, ap bit c))

  -- the tail of a used arc is reached before the last step
  tail_step : (a : ℕ) → Uses s f m a → (t : ℕ) × (t < (message_at s m).limit) × (f (step_var s m (arc_at s a).tail t) ≡ true)
  tail_step a u =
      let x = some_step (arc_at s a).tail (ends_in a u.in_range).0 (eqs.tail_covered a u) in
      elim (cases_lt x.0 (message_at s m).limit) [
        | inl l ↦ (x.0, l, x.2)
        | inr l ↦
            let e : x.0 ≡ (message_at s m).limit = omega (arith, x.1) in
            absurd (false≢true (sym (eqs.tail_early a u) ∙ subst (λ (k : ℕ). f (step_var s m (arc_at s a).tail k) ≡ true) e x.2))
      ]

  -- a resource that is reached later has a used arc into it
  used_into : (r t : ℕ) → r < length s.resources → t < (message_at s m).limit → f (step_var s m r (1 + t)) ≡ true → (a : ℕ) × Uses s f m a × ((arc_at s a).head ≡ r)
  unfolding goes_into arc_bit uses_into
  used_into r t hr ht e =
      let many = counted_below (λ k. f (step_var s m r (1 + k))) (message_at s m).limit t ht e in
      let x = some_those (arc_bit s f m) (goes_into s r) (length s.arcs) (omega (arith, many, steps_1 s f m r, eqs.into r hr)) in
      (x.0, record { in_range = x.1; bit = x.3 }, eqb-true _ _ x.2)

  -- a step that is reached is the length of a walk
  pub walk_of : (t r : ℕ) → r < length s.resources → t ≤ (message_at s m).limit → f (step_var s m r t) ≡ true → Walk s f m r t
  walk_of zero r hr ht e = eqs.start_is_on r hr e
  walk_of (suc t) r hr ht e =
      let e' : f (step_var s m r (1 + t)) ≡ true = subst (λ (k : ℕ). f (step_var s m r k) ≡ true) (suc_is t) e in
      let x = used_into r t hr (omega arith) e' in
      let y = tail_step x.0 x.1 in
      let arrives : f (step_var s m r (y.0 + 1)) ≡ true = subst (λ (q : ℕ). f (step_var s m q (y.0 + 1)) ≡ true) x.2 (eqs.carry x.0 y.0 x.1 y.1 y.2) in
      let same = one_step r (y.0 + 1) (suc t) hr (omega (arith, y.1)) ht arrives e in
      let here : y.0 ≡ t = omega (arith, same) in
      (x.0, x.1, x.2, walk_of t (arc_at s x.0).tail (ends_in x.0 x.1.in_range).0 (omega arith) (subst (λ (k : ℕ). f (step_var s m (arc_at s x.0).tail k) ≡ true) here y.2))
    where
      suc_is : (t : ℕ) → suc t ≡ 1 + t
      suc_is t = omega arith

  -- rule 2
  pub rule_two : (a : ℕ) → Uses s f m a → ¬ IsOn s f (sender_of s m) (arc_at s a).head
  rule_two a u on =
      let q = (arc_at s a).head in
      let y = tail_step a u in
      let hq = (ends_in a u.in_range).1 in
      let same = one_step q 0 (y.0 + 1) hq (omega arith) (omega (arith, y.1)) (eqs.on_is_start q hq on) (eqs.carry a y.0 u y.1 y.2) in
      absurd (omega (arith, same))

  -- rule 3
  pub rule_three : (r : ℕ) → r < length s.resources → uses_into s f m r ≤ 1
  rule_three r hr =
      let first = count-below_first (λ k. f (step_var s m r k)) (message_at s m).limit in
      let n : count_by (λ k. f (step_var s m r k)) (below ((message_at s m).limit + 1)) ≡ count_by (λ k. f (step_var s m r k)) (below (suc (message_at s m).limit)) =
      ap (λ (k : ℕ). count_by (λ t. f (step_var s m r t)) (below k)) (plus_one (message_at s m).limit) in
      omega (arith, first, n, steps_0 s f m r, steps_1 s f m r, eqs.cover r hr, eqs.into r hr, bit-le (f (covered_var s m r)))
    where
      plus_one : (k : ℕ) → k + 1 ≡ suc k
      plus_one k = omega arith

  -- rule 4
  pub rule_four : (a : ℕ) → Uses s f m a → WalkBelow s f m (arc_at s a).tail (message_at s m).limit
  rule_four a u =
      let y = tail_step a u in
      (y.0, y.1, walk_of y.0 (arc_at s a).tail (ends_in a u.in_range).0 (omega (arith, y.1)) y.2)

  -- the length of a walk is a step that is reached
  pub step_of : (t r : ℕ) → r < length s.resources → t ≤ (message_at s m).limit → Walk s f m r t → f (step_var s m r t) ≡ true
  step_of zero r hr ht w = eqs.on_is_start r hr w
  step_of (suc t) r hr ht w =
      let before = step_of t (arc_at s w.0).tail (ends_in w.0 w.1.in_range).0 (omega arith) w.3 in
      let after = eqs.carry w.0 t w.1 (omega arith) before in
      subst (λ (k : ℕ). f (step_var s m r k) ≡ true) (plus_one t) (subst (λ (q : ℕ). f (step_var s m q (t + 1)) ≡ true) w.2 after)
    where
      plus_one : (k : ℕ) → k + 1 ≡ suc k
      plus_one k = omega arith

  -- a reached resource is covered
  pub covered_of : (r t : ℕ) → r < length s.resources → t ≤ (message_at s m).limit → f (step_var s m r t) ≡ true → f (covered_var s m r) ≡ true
  covered_of r t hr ht e = is_bit (f (covered_var s m r)) (omega (arith, counted_below (λ k. f (step_var s m r k)) ((message_at s m).limit + 1) t (omega arith) e, steps_0 s f m r, eqs.cover r hr))
    where
      is_bit : (b : Bool) → 1 ≤ bit b → b ≡ true
      is_bit true h = refl
      is_bit false h = absurd (omega (arith, h))

  -- the head of a used arc is covered, and the message doesn't start there
  pub head_covered : (a : ℕ) → Uses s f m a → (f (covered_var s m (arc_at s a).head) ≡ true) × (¬ (f (step_var s m (arc_at s a).head 0) ≡ true))
  head_covered a u =
      let q = (arc_at s a).head in
      let y = tail_step a u in
      let hq = (ends_in a u.in_range).1 in
      let arrives = eqs.carry a y.0 u y.1 y.2 in
      (covered_of q (y.0 + 1) hq (omega (arith, y.1)) arrives, λ e. absurd (omega (arith, one_step q 0 (y.0 + 1) hq (omega arith) (omega (arith, y.1)) e arrives)))
