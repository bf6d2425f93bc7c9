-- The families of a message hold where its design is routed and its steps and covers are the walks.
use Rattle.std.proofs.Common.{◌≡◌, ℕ, zero, suc, ◌+◌, ◌-◌, ◌<◌, ◌≤◌, Bool, true, false, List, [], ◌∷◌, ◌++◌, length, refl, sym, ap, ◌∙◌, subst, arith, inl, inr}
use Rattle.std.specs.Prelude.{map, not, nat_eq, All}
use Rattle.std.specs.List.{count_by}
use Rattle.std.proofs.lemmas.List.{length-map}
use Rattle.std.proofs.lemmas.List.Elements.{All-append, All-from_recursion}
use Rattle.std.proofs.lemmas.Bool.{cases_lt, and_from, false_from_ne_true, eq-eqb, eqb-true}
use Rattle.pb_rules.specs.Linear.{Holds}
use Rattle.spec_model.specs.Spec.{SpecValue, Bits, below, message_at, arc_at, option_at, arc_var, step_var, covered_var}
use Rattle.spec_model.specs.Rules.{IsOn, Uses, Walk, WalkBelow, BoundOnce, GoesOnFrom, options_of, of_task, of_task_on, goes_into, leaves, arc_bit, uses_into, arcs_into, arcs_from, sender_of}
use Rattle.spec_model.proofs.Once.{counted}
use Rattle.spec_model.proofs.Tests.{member_passes, Contains-those}
use Rattle.std.proofs.lemmas.Bool.{and_parts}
use Rattle.spec_model.proofs.Counts.{bit, count-map, some_those, some_below, counted_below, at_most_one, count-and_le}
use Rattle.spec_model.proofs.Joined.{All-two, All-ones}
use Rattle.encode_model.specs.Encoding.{positive, negative, positives, negatives, option_on, arc_vars, steps_from, one_option, sender_start, covered_once, one_arc_in, carries, arc_carries, leads_to, neighbours, step_at, has_cause, steps_have_cause, for_receiver, is_number, receiver_options, no_dangling}
use Rattle.pb_rules.proofs.Sums.{true_weight-cons}
use Rattle.encode_model.proofs.Weights.{true_weight-append, weight-positives, weight-negatives, at_least-holds, from_if_then, from_not_both, from_if_both_then}
use Rattle.spec_model.specs.Rules.{IsRouted}
use Rattle.encode_laws.proofs.Families.{IsRouteModel}
use Rattle.encode_laws.proofs.Equations.{steps_true, length_steps}
use Rattle.encode_laws.proofs.Routes.{steps_0, steps_1}
use Rattle.encode_laws.proofs.Walked.{IsWalked, IsTree, tree_of, walk_length}
use Rattle.encode_laws.proofs.Allocated.{HasParts}

both_bits : (b : Bool) → bit (not b) + bit b ≡ 1
both_bits true = refl
both_bits false = refl

-- two numbers of at most 1 are equal where one is positive exactly where the other is
same_ones : (a b : ℕ) → a ≤ 1 → b ≤ 1 → (1 ≤ a → 1 ≤ b) → (1 ≤ b → 1 ≤ a) → a ≡ b
same_ones a b ha hb forth back =
    elim (cases_lt 0 a) [
      | inl l ↦ omega (arith, forth (omega (arith, l)), ha, hb, l)
      | inr l ↦ elim (cases_lt 0 b) [
        | inl k ↦ omega (arith, back (omega (arith, k)), l)
        | inr k ↦ omega (arith, k, l)
      ]
    ]

pub option_holds : (s : SpecValue) (f : Bits) (t : ℕ) → BoundOnce s f t → All (Holds f) (one_option s t)
option_holds s f t once =
    let vs = options_of s t in
    All-two (Holds f) _ _
    (at_least-holds f 1 (positives vs) (omega (arith, once, weight-positives f vs)))
    (at_least-holds f (length vs - 1) (negatives vs) (omega (arith, once, weight-negatives f vs)))

module _ (s : SpecValue) (f : Bits) (m : ℕ) (hm : m < length s.messages) (parts : HasParts s) (routed : IsRouted s f) (walked : IsWalked s f m) where
  tree : IsTree s f m
  tree = tree_of s f m hm parts.ends routed

  -- the sender's start
  one_start : (r : ℕ) → count_by f (option_on s (sender_of s m) r) ≤ 1
  unfolding of_task of_task_on
  one_start r =
      let t = sender_of s m in
      omega (arith, routed.bound_once t (parts.senders m hm), count-and_le f (λ o. nat_eq (option_at s o).task t) (λ o. nat_eq (option_at s o).resource r) (length s.options))

  start_option : (r : ℕ) → 1 ≤ count_by f (option_on s (sender_of s m) r) → IsOn s f (sender_of s m) r
  unfolding of_task_on
  start_option r l =
      let x = some_those f (of_task_on s (sender_of s m) r) (length s.options) l in
      let tests = and_parts _ _ x.2 in
      record { choice = x.0; in_range = x.1; chosen = x.3; of_task = eqb-true _ _ tests.0; on_resource = eqb-true _ _ tests.1 }

  option_start : (r : ℕ) → IsOn s f (sender_of s m) r → 1 ≤ count_by f (option_on s (sender_of s m) r)
  unfolding of_task_on
  option_start r x = counted f (of_task_on s (sender_of s m) r) (length s.options) x.choice x.in_range (and_from _ _ (eq-eqb _ _ x.of_task) (eq-eqb _ _ x.on_resource)) x.chosen

  start_is : (r : ℕ) → r < length s.resources → count_by f (option_on s (sender_of s m) r) ≡ bit (f (step_var s m r 0))
  start_is r hr = at (f (step_var s m r 0)) refl
    where
      at : (b : Bool) → f (step_var s m r 0) ≡ b → count_by f (option_on s (sender_of s m) r) ≡ bit b
      at true e = omega (arith, one_start r, option_start r (walked.walk r 0 hr (omega arith) e))
      at false e =
          elim (cases_lt 0 (count_by f (option_on s (sender_of s m) r))) [
            | inl l ↦ absurd (cc (e, walked.step r 0 hr (omega arith) (start_option r (omega (arith, l)))))
            | inr l ↦ omega (arith, l)
          ]

  start_holds : (r : ℕ) → r < length s.resources → All (Holds f) (sender_start s m r)
  start_holds r hr =
      let p = option_on s (sender_of s m) r in
      let h = step_var s m r 0 in
      All-two (Holds f) _ _
      (at_least-holds f (length p) (negatives p ++ positive h ∷ []) (omega (
        arith,
        start_is r hr,
        true_weight-append f (negatives p) (positive h ∷ []),
        weight-negatives f p,
        true_weight-cons f (positive h) [],
      )))
      (at_least-holds f 1 (positives p ++ negative h ∷ []) (omega (
        arith,
        start_is r hr,
        true_weight-append f (positives p) (negative h ∷ []),
        weight-positives f p,
        true_weight-cons f (negative h) [],
        both_bits (f h),
      )))

  -- covered once
  cover_is : (r : ℕ) → r < length s.resources → steps_true s f m r 0 ≡ bit (f (covered_var s m r))
  cover_is r hr = steps_0 s f m r ∙ at (f (covered_var s m r)) refl
    where
      one : count_by (λ t. f (step_var s m r t)) (below ((message_at s m).limit + 1)) ≤ 1
      one =
          at_most_one (λ t. f (step_var s m r t)) ((message_at s m).limit + 1) (λ i j hi hj ti tj. walk_length s f m i j r tree (walked.walk r i hr (omega (arith, hi)) ti)
          (walked.walk r j hr (omega (arith, hj)) tj))

      at : (b : Bool) → f (covered_var s m r) ≡ b → count_by (λ t. f (step_var s m r t)) (below ((message_at s m).limit + 1)) ≡ bit b
      at true e =
          let w = walked.short_walk r hr e in
          omega (arith, one, counted_below (λ t. f (step_var s m r t)) ((message_at s m).limit + 1) w.0 w.1 (walked.step r w.0 hr (omega (arith, w.1)) w.2))
      at false e =
          elim (cases_lt 0 (count_by (λ t. f (step_var s m r t)) (below ((message_at s m).limit + 1)))) [
            | inl l ↦
                let x = some_below (λ t. f (step_var s m r t)) ((message_at s m).limit + 1) (omega (arith, l)) in
                absurd (cc (e, walked.cover r hr (x.0, x.1, walked.walk r x.0 hr (omega (arith, x.1)) x.2)))
            | inr l ↦ omega (arith, l)
          ]

  cover_holds : (r : ℕ) → r < length s.resources → All (Holds f) (covered_once s m r)
  unfolding steps_true
  cover_holds r hr =
      let xs = steps_from s m r 0 in
      let c = covered_var s m r in
      All-two (Holds f) _ _
      (at_least-holds f ((message_at s m).limit + 1) (negatives xs ++ positive c ∷ []) (omega (
        arith,
        cover_is r hr,
        true_weight-append f (negatives xs) (positive c ∷ []),
        weight-negatives f xs,
        length_steps s m r 0,
        true_weight-cons f (positive c) [],
      )))
      (at_least-holds f 1 (positives xs ++ negative c ∷ []) (omega (
        arith,
        cover_is r hr,
        true_weight-append f (positives xs) (negative c ∷ []),
        weight-positives f xs,
        true_weight-cons f (negative c) [],
        both_bits (f c),
      )))

  -- one arc in
  step_suc : (r t : ℕ) → r < length s.resources → suc t ≤ (message_at s m).limit → f (step_var s m r (1 + t)) ≡ true → Walk s f m r (suc t)
  step_suc r t hr ht e = walked.walk r (suc t) hr ht (subst (λ (k : ℕ). f (step_var s m r k) ≡ true) (one_more t) e)
    where
      one_more : (t : ℕ) → 1 + t ≡ suc t
      one_more t = omega arith

  suc_step : (r t : ℕ) → r < length s.resources → suc t ≤ (message_at s m).limit → Walk s f m r (suc t) → f (step_var s m r (1 + t)) ≡ true
  suc_step r t hr ht w = subst (λ (k : ℕ). f (step_var s m r k) ≡ true) (one_more t) (walked.step r (suc t) hr ht w)
    where
      one_more : (t : ℕ) → suc t ≡ 1 + t
      one_more t = omega arith

  used_into : (r a : ℕ) → Uses s f m a → (arc_at s a).head ≡ r → 1 ≤ uses_into s f m r
  unfolding uses_into arc_bit goes_into
  used_into r a u e = counted (arc_bit s f m) (goes_into s r) (length s.arcs) a u.in_range (eq-eqb _ _ e) u.bit

  into_used : (r : ℕ) → 1 ≤ uses_into s f m r → (a : ℕ) × Uses s f m a × ((arc_at s a).head ≡ r)
  unfolding uses_into arc_bit goes_into
  into_used r l =
      let x = some_those (arc_bit s f m) (goes_into s r) (length s.arcs) l in
      (x.0, record { in_range = x.1; bit = x.3 }, eqb-true _ _ x.2)

  into_is : (r : ℕ) → r < length s.resources → uses_into s f m r ≡ steps_true s f m r 1
  into_is r hr =
      same_ones (uses_into s f m r) (count_by later (below limit)) (routed.one_arc_into m r hm hr) one forth back ∙ sym (steps_1 s f m r)
    where
      limit : ℕ
      limit = (message_at s m).limit

      later : ℕ → Bool
      later t = f (step_var s m r (1 + t))

      one : count_by later (below limit) ≤ 1
      one =
          at_most_one later limit (λ i j hi hj ti tj. (let e = walk_length s f m (suc i) (suc j) r tree (step_suc r i hr (omega (arith, hi)) ti) (step_suc r j hr (omega (arith, hj)) tj) in
          omega (arith, e)))

      forth : 1 ≤ uses_into s f m r → 1 ≤ count_by later (below limit)
      forth l =
          let x = into_used r l in
          let w = routed.has_walk m x.0 hm x.1 in
          counted_below later limit w.0 w.1 (suc_step r w.0 hr (omega (arith, w.1)) (x.0, x.1, x.2, w.2))

      back : 1 ≤ count_by later (below limit) → 1 ≤ uses_into s f m r
      back l =
          let x = some_below later limit l in
          let w = step_suc r x.0 hr (omega (arith, x.1)) x.2 in
          used_into r w.0 w.1 w.2

  arc_in_holds : (r : ℕ) → r < length s.resources → All (Holds f) (one_arc_in s m r)
  unfolding steps_true arc_bit uses_into
  arc_in_holds r hr =
      let xs = steps_from s m r 1 in
      let us = arc_vars s m (arcs_into s r) in
      All-two (Holds f) _ _
      (at_least-holds f (message_at s m).limit (positives us ++ negatives xs) (omega (
        arith,
        into_is r hr,
        true_weight-append f (positives us) (negatives xs),
        weight-positives f us,
        weight-negatives f xs,
        length_steps s m r 1,
        count-map f (arc_var s m) (arcs_into s r),
      )))
      (at_least-holds f (length (arcs_into s r)) (negatives us ++ positives xs) (omega (
        arith,
        into_is r hr,
        true_weight-append f (negatives us) (positives xs),
        weight-negatives f us,
        weight-positives f xs,
        length-map (arcs_into s r) (arc_var s m),
        count-map f (arc_var s m) (arcs_into s r),
      )))

  -- arcs carry steps
  carry_holds : (a : ℕ) → a < length s.arcs → All (Holds f) (arc_carries s m a)
  unfolding carries
  carry_holds a ha =
      All-append (Holds f) (map (carries s m a) (below (message_at s m).limit)) _
      (All-ones (Holds f) (carries s m a) (message_at s m).limit (λ t ht. from_if_both_then f (arc_var s m a) (step_var s m p t) (step_var s m q (t + 1))
      (λ u e. walked.step q (t + 1) hq (omega (arith, ht)) (longer t (record { in_range = ha; bit = u }) (walked.walk p t hp (omega (arith, ht)) e)))))
      (All-two (Holds f) _ _
      (from_if_then f (arc_var s m a) (covered_var s m p) (λ u. (let w = routed.has_walk m a hm (record { in_range = ha; bit = u }) in walked.cover p hp (w.0, omega (arith, w.1), w.2))))
      (from_not_both f (arc_var s m a) (step_var s m p (message_at s m).limit) (λ u. false_from_ne_true (f (step_var s m p (message_at s m).limit))
      (λ e. too_late u (walked.walk p (message_at s m).limit hp (omega arith) e)))))
    where
      p : ℕ
      p = (arc_at s a).tail

      q : ℕ
      q = (arc_at s a).head

      hp : p < length s.resources
      hp = (parts.ends a ha).0

      hq : q < length s.resources
      hq = (parts.ends a ha).1

      longer : (t : ℕ) → Uses s f m a → Walk s f m p t → Walk s f m q (t + 1)
      longer t u w = subst (λ (k : ℕ). Walk s f m q k) (suc_is t) (a, u, refl, w)
        where
          suc_is : (t : ℕ) → suc t ≡ t + 1
          suc_is t = omega arith

      too_late : f (arc_var s m a) ≡ true → Walk s f m p (message_at s m).limit → ⊥
      too_late u v =
          let w = routed.has_walk m a hm (record { in_range = ha; bit = u }) in
          omega (arith, w.1, walk_length s f m w.0 (message_at s m).limit p tree w.2 v)

  -- steps have a cause
  cause_holds : (q : ℕ) → q < length s.resources → All (Holds f) (steps_have_cause s m q)
  unfolding has_cause leads_to step_at goes_into leaves
  cause_holds q hq = All-ones (Holds f) (has_cause s m q) (message_at s m).limit (λ t ht. at_least-holds f 1 (negative (step_var s m q (t + 1)) ∷ positives (earlier t))
      (omega (arith, sum t ht (f (step_var s m q (t + 1))) refl, true_weight-cons f (negative (step_var s m q (t + 1))) (positives (earlier t)), weight-positives f (earlier t))))
    where
      earlier : ℕ → List ℕ
      earlier t = map (step_at s m t) (neighbours s q)

      plus_one : (t : ℕ) → t + 1 ≡ suc t
      plus_one t = omega arith

      sum : (t : ℕ) → t < (message_at s m).limit → (b : Bool) → f (step_var s m q (t + 1)) ≡ b → 1 ≤ bit (not b) + count_by f (earlier t)
      sum t ht false e = omega arith
      sum t ht true e =
          let w = walked.walk q (suc t) hq (omega (arith, ht)) (subst (λ (k : ℕ). f (step_var s m q k) ≡ true) (plus_one t) e) in
          let p = (arc_at s w.0).tail in
          let hp = (parts.ends w.0 w.1.in_range).0 in
          let test = member_passes (leaves s p) (arcs_into s q) w.0 (Contains-those (goes_into s q) (length s.arcs) w.0 w.1.in_range (eq-eqb _ _ w.2)) (eq-eqb _ _ refl) in
          omega (arith, count-map f (step_at s m t) (neighbours s q), counted (λ r. f (step_var s m r t)) (leads_to s q) (length s.resources) p hp test (walked.step p t hp (omega (arith, ht)) w.3))

  -- no dangling branch
  end_sum : (r : ℕ) → r < length s.resources → (b : Bool) → f (covered_var s m r) ≡ b → 1 ≤ count_by f (receiver_options s m r) + count_by f (arc_vars s m (arcs_from s r))
      + bit (f (step_var s m r 0)) + bit (not b)
  unfolding for_receiver leaves
  end_sum r hr false e = omega arith
  end_sum r hr true e = of_walk (walked.short_walk r hr e)
    where
      of_end : GoesOnFrom s f m r → 1 ≤ count_by f (receiver_options s m r) + count_by f (arc_vars s m (arcs_from s r))
      of_end (inl x) = omega (arith, count-map f (arc_var s m) (arcs_from s r), counted (λ a. f (arc_var s m a)) (leaves s r) (length s.arcs) x.arc x.used.in_range (eq-eqb _ _ x.from) x.used.bit)
      of_end (inr x) =
          let on = x.2 in
          let member = member_passes (is_number (option_at s on.choice).task) (message_at s m).receivers x.0 x.1 (eq-eqb _ _ (sym on.of_task)) in
          omega (arith, counted f (for_receiver s m r) (length s.options) on.choice on.in_range (and_from _ _ member (eq-eqb _ _ on.on_resource)) on.chosen)

      of_walk : WalkBelow s f m r ((message_at s m).limit + 1) → 1 ≤ count_by f (receiver_options s m r) + count_by f (arc_vars s m (arcs_from s r)) + bit (f (step_var s m r 0)) + bit (not true)
      of_walk (zero, l, w) = omega (arith, ap bit (walked.step r 0 hr (omega arith) w))
      of_walk (suc i, l, w) = omega (arith, of_end (subst (λ (q : ℕ). GoesOnFrom s f m q) w.2 (routed.no_dangling m w.0 hm w.1)))

  end_holds : (r : ℕ) → r < length s.resources → All (Holds f) (no_dangling s m r)
  end_holds r hr =
      let us = arc_vars s m (arcs_from s r) in
      let ros = receiver_options s m r in
      let h = step_var s m r 0 in
      let c = covered_var s m r in
      All-from_recursion (Holds f) (no_dangling s m r) (
        at_least-holds f 1 (positives ros ++ positives us ++ positive h ∷ (negative c ∷ []))
            (omega (
              arith,
              end_sum r hr (f c) refl,
              true_weight-append f (positives ros ++ positives us) (positive h ∷ (negative c ∷ [])),
              true_weight-append f (positives ros) (positives us),
              weight-positives f ros,
              weight-positives f us,
              true_weight-cons f (positive h) (negative c ∷ []),
              true_weight-cons f (negative c) [],
            )),
        tt,
      )

  pub route_model_of : IsRouteModel s f m
  route_model_of = record {
    starts = start_holds;
    covers = cover_holds;
    arcs_in = arc_in_holds;
    carried = carry_holds;
    caused = cause_holds;
    ends = end_holds;
  }
