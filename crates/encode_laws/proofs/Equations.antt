-- What the families say of one message.
use Rattle.std.proofs.Common.{◌≡◌, ℕ, ◌+◌, ◌-◌, ◌<◌, ◌≤◌, Bool, true, false, cond, [], ◌∷◌, ◌++◌, length, refl, sym, ap, ◌∙◌, arith, inl, inr}
use Rattle.std.specs.Prelude.{map, not, All}
use Rattle.std.specs.List.{count_by}
use Rattle.std.proofs.lemmas.List.Elements.{recursion_from_All}
use Rattle.std.proofs.lemmas.List.FromFn.{length-range_with_len}
use Rattle.std.proofs.lemmas.List.{length-map}
use Rattle.std.proofs.lemmas.Bool.{cases_lt, and_parts, and_from, false_from_ne_true, eq-eqb, eqb-true}
use Rattle.plain_lists.proofs.Joined.{All-right}
use Rattle.pb_rules.specs.Linear.{Holds, true_weight}
use Rattle.spec_model.specs.Spec.{SpecValue, Bits, below, message_at, arc_at, option_at, arc_var, step_var, covered_var}
use Rattle.spec_model.specs.Rules.{IsOn, Uses, GoesOnFrom, of_task_on, leaves, arcs_into, arcs_from, uses_into, arc_bit, sender_of}
use Rattle.spec_model.specs.WellFormed.{IsWellFormed}
use Rattle.spec_model.proofs.InRange.{arc_in}
use Rattle.spec_model.proofs.Once.{counted}
use Rattle.spec_model.proofs.Tests.{passing_member}
use Rattle.spec_model.proofs.Counts.{bit, count-map, some_those}
use Rattle.spec_model.proofs.Joined.{All-left, All-one, All-first, All-second}
use Rattle.encode_model.specs.Encoding.{positive, negative, positives, negatives, option_on, arc_vars, steps_from, step_after, carries, sender_start, covered_once, one_arc_in, arc_carries, no_dangling, receiver_options, for_receiver, is_number}
use Rattle.pb_rules.proofs.Sums.{true_weight-cons}
use Rattle.encode_model.proofs.Weights.{true_weight-append, weight-positives, weight-negatives, holds-at_least, if_then, not_both, if_both_then}
use Rattle.encode_laws.proofs.Families.{IsRouteModel}

pub length_steps : (s : SpecValue) (m r from : ℕ) → length (steps_from s m r from) ≡ (message_at s m).limit + 1 - from
length_steps s m r from = length-map (below ((message_at s m).limit + 1 - from)) (step_after s m r from) ∙ length-range_with_len 0 ((message_at s m).limit + 1 - from)

-- how many steps from one on are reached
unfoldable pub steps_true : SpecValue → Bits → ℕ → ℕ → ℕ → ℕ
steps_true s f m r from = count_by f (steps_from s m r from)

-- the ends of each arc are resources
abbrev pub HasEnds : SpecValue → Type 0
HasEnds s = (a : ℕ) → a < length s.arcs → ((arc_at s a).tail < length s.resources) × ((arc_at s a).head < length s.resources)

pub has_ends : (s : SpecValue) → IsWellFormed s → HasEnds s
has_ends s w a h = let x = arc_in s a w h in (x.tail, x.head)

pub record Equations (s : SpecValue) (f : Bits) (m : ℕ) : Type 0 where
  pub start_is_on : (r : ℕ) → r < length s.resources → f (step_var s m r 0) ≡ true → IsOn s f (sender_of s m) r
  pub on_is_start : (r : ℕ) → r < length s.resources → IsOn s f (sender_of s m) r → f (step_var s m r 0) ≡ true
  pub cover : (r : ℕ) → r < length s.resources → steps_true s f m r 0 ≡ bit (f (covered_var s m r))
  pub into : (r : ℕ) → r < length s.resources → uses_into s f m r ≡ steps_true s f m r 1
  pub carry : (a t : ℕ) → Uses s f m a → t < (message_at s m).limit → f (step_var s m (arc_at s a).tail t) ≡ true → f (step_var s m (arc_at s a).head (t + 1)) ≡ true
  pub tail_covered : (a : ℕ) → Uses s f m a → f (covered_var s m (arc_at s a).tail) ≡ true
  pub tail_early : (a : ℕ) → Uses s f m a → f (step_var s m (arc_at s a).tail (message_at s m).limit) ≡ false
  pub goes_on : (r : ℕ) → r < length s.resources → f (covered_var s m r) ≡ true → ¬ (f (step_var s m r 0) ≡ true) → GoesOnFrom s f m r

both_bits : (b : Bool) → cond (not b) 1 0 + cond b 1 0 ≡ 1
both_bits true = refl
both_bits false = refl

is_bit : (b : Bool) → 1 ≤ cond b 1 0 → b ≡ true
is_bit true h = refl
is_bit false h = absurd (omega (arith, h))

module _ (s : SpecValue) (f : Bits) (m : ℕ) where
  -- the sender's start
  start_is_on : (r : ℕ) → All (Holds f) (sender_start s m r) → f (step_var s m r 0) ≡ true → IsOn s f (sender_of s m) r
  unfolding of_task_on
  start_is_on r h t =
      let p = option_on s (sender_of s m) r in
      let start = step_var s m r 0 in
      let onward = holds-at_least f 1 (positives p ++ negative start ∷ []) (All-second (Holds f) _ _ h) in
      let last : true_weight f (negative start ∷ []) ≡ 0 = true_weight-cons f (negative start) [] ∙ ap (λ (b : Bool). cond (not b) 1 0 + true_weight f []) t in
      let x = some_those f (of_task_on s (sender_of s m) r) (length s.options) (omega (arith, onward, true_weight-append f (positives p) (negative start ∷ []), weight-positives f p, last)) in
      let tests = and_parts _ _ x.2 in
      record { choice = x.0; in_range = x.1; chosen = x.3; of_task = eqb-true _ _ tests.0; on_resource = eqb-true _ _ tests.1 }

  on_is_start : (r : ℕ) → All (Holds f) (sender_start s m r) → IsOn s f (sender_of s m) r → f (step_var s m r 0) ≡ true
  unfolding of_task_on
  on_is_start r h x =
      let p = option_on s (sender_of s m) r in
      let start = step_var s m r 0 in
      let back = holds-at_least f (length p) (negatives p ++ positive start ∷ []) (All-first (Holds f) _ _ h) in
      let some = counted f (of_task_on s (sender_of s m) r) (length s.options) x.choice x.in_range (and_from _ _ (eq-eqb _ _ x.of_task) (eq-eqb _ _ x.on_resource)) x.chosen in
      is_bit (f start) (omega (arith, back, true_weight-append f (negatives p) (positive start ∷ []), weight-negatives f p, true_weight-cons f (positive start) [], some))

  -- covered once
  cover_is : (r : ℕ) → All (Holds f) (covered_once s m r) → steps_true s f m r 0 ≡ bit (f (covered_var s m r))
  unfolding steps_true
  cover_is r h =
      let xs = steps_from s m r 0 in
      let c = covered_var s m r in
      let one = holds-at_least f ((message_at s m).limit + 1) (negatives xs ++ positive c ∷ []) (All-first (Holds f) _ _ h) in
      let some = holds-at_least f 1 (positives xs ++ negative c ∷ []) (All-second (Holds f) _ _ h) in
      omega (
        arith,
        one,
        some,
        true_weight-append f (negatives xs) (positive c ∷ []),
        true_weight-append f (positives xs) (negative c ∷ []),
        weight-positives f xs,
        weight-negatives f xs,
        length_steps s m r 0,
        true_weight-cons f (positive c) [],
        true_weight-cons f (negative c) [],
        both_bits (f c),
      )

  -- one arc in
  into_is : (r : ℕ) → All (Holds f) (one_arc_in s m r) → uses_into s f m r ≡ steps_true s f m r 1
  unfolding steps_true arc_bit uses_into
  into_is r h =
      let xs = steps_from s m r 1 in
      let us = arc_vars s m (arcs_into s r) in
      let one = holds-at_least f (message_at s m).limit (positives us ++ negatives xs) (All-first (Holds f) _ _ h) in
      let some = holds-at_least f (length (arcs_into s r)) (negatives us ++ positives xs) (All-second (Holds f) _ _ h) in
      omega (
        arith,
        one,
        some,
        true_weight-append f (positives us) (negatives xs),
        true_weight-append f (negatives us) (positives xs),
        weight-positives f xs,
        weight-negatives f xs,
        weight-positives f us,
        weight-negatives f us,
        length_steps s m r 1,
        length-map (arcs_into s r) (arc_var s m),
        count-map f (arc_var s m) (arcs_into s r),
      )

  -- arcs carry steps
  carry_is : (a t : ℕ) → All (Holds f) (arc_carries s m a) → t < (message_at s m).limit → f (arc_var s m a) ≡ true → f (step_var s m (arc_at s a).tail t) ≡ true
      → f (step_var s m (arc_at s a).head (t + 1)) ≡ true
  unfolding carries
  carry_is a t h l u w =
      if_both_then f (arc_var s m a) (step_var s m (arc_at s a).tail t) (step_var s m (arc_at s a).head (t + 1))
      (All-one (Holds f) (carries s m a) (message_at s m).limit t (All-left (Holds f) (map (carries s m a) (below (message_at s m).limit)) _ h) l) u w

  tail_is_covered : (a : ℕ) → All (Holds f) (arc_carries s m a) → f (arc_var s m a) ≡ true → f (covered_var s m (arc_at s a).tail) ≡ true
  tail_is_covered a h u =
      if_then f _ _ (All-first (Holds f) _ _ (All-right (Holds f) (map (carries s m a) (below (message_at s m).limit)) _ h)) u

  tail_is_early : (a : ℕ) → All (Holds f) (arc_carries s m a) → f (arc_var s m a) ≡ true → f (step_var s m (arc_at s a).tail (message_at s m).limit) ≡ false
  tail_is_early a h u =
      not_both f _ _ (All-second (Holds f) _ _ (All-right (Holds f) (map (carries s m a) (below (message_at s m).limit)) _ h)) u

  -- no dangling branch
  end_goes_on : (r : ℕ) → All (Holds f) (no_dangling s m r) → f (covered_var s m r) ≡ true → ¬ (f (step_var s m r 0) ≡ true) → GoesOnFrom s f m r
  unfolding leaves for_receiver
  end_goes_on r h c start =
      let us = arc_vars s m (arcs_from s r) in
      let ros = receiver_options s m r in
      let h0 = step_var s m r 0 in
      let cv = covered_var s m r in
      let all = holds-at_least f 1 (positives ros ++ positives us ++ positive h0 ∷ (negative cv ∷ [])) (recursion_from_All (Holds f) (no_dangling s m r) h).0 in
      let covered : true_weight f (negative cv ∷ []) ≡ 0 = true_weight-cons f (negative cv) [] ∙ ap (λ (b : Bool). cond (not b) 1 0 + true_weight f []) c in
      let not_start : true_weight f (positive h0 ∷ (negative cv ∷ [])) ≡ 0 = omega (arith, covered, true_weight-cons f (positive h0) (negative cv ∷ []), ap bit (false_from_ne_true (f h0) start)) in
      let sum : 1 ≤ count_by f us + count_by f ros = omega (
        arith,
        all,
        true_weight-append f (positives ros ++ positives us) (positive h0 ∷ (negative cv ∷ [])),
        true_weight-append f (positives ros) (positives us),
        weight-positives f us,
        weight-positives f ros,
        not_start,
      ) in
      elim (cases_lt 0 (count_by f us)) [
        | inl l ↦
            let x = some_those (λ a. f (arc_var s m a)) (leaves s r) (length s.arcs) (omega (arith, l, count-map f (arc_var s m) (arcs_from s r))) in
            inl (record { arc = x.0; used = record { in_range = x.1; bit = x.3 }; from = eqb-true _ _ x.2 })
        | inr l ↦
            let x = some_those f (for_receiver s m r) (length s.options) (omega (arith, sum, l)) in
            let p = and_parts _ _ x.2 in
            let w = passing_member (is_number (option_at s x.0).task) (message_at s m).receivers p.0 in
            inr (w.0, w.1, record { choice = x.0; in_range = x.1; chosen = x.3; of_task = sym {a = w.0} (eqb-true w.0 (option_at s x.0).task w.2); on_resource = eqb-true _ _ p.1 })
      ]

  pub equations_of : HasEnds s → IsRouteModel s f m → Equations s f m
  equations_of ends h = record {
    start_is_on = λ r l. start_is_on r (h.starts r l);
    on_is_start = λ r l. on_is_start r (h.starts r l);
    cover = λ r l. cover_is r (h.covers r l);
    into = λ r l. into_is r (h.arcs_in r l);
    carry = λ a t u l w. carry_is a t (h.carried a u.in_range) l u.bit w;
    tail_covered = λ a u. tail_is_covered a (h.carried a u.in_range) u.bit;
    tail_early = λ a u. tail_is_early a (h.carried a u.in_range) u.bit;
    goes_on = λ r l. end_goes_on r (h.ends r l);
  }
