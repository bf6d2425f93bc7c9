-- The terms of each constraint of the encoding stand by rising variable.
use Rattle.std.proofs.Common.{◌≡◌, ℕ, zero, suc, ◌+◌, ◌-◌, ◌*◌, ◌<◌, ◌≤◌, ◌^◌, Bool, true, false, List, [], ◌∷◌, ◌++◌, length, sym, ap, ◌∙◌, subst, arith, add-one, inl, inr}
use Rattle.std.specs.Prelude.{map}
use Rattle.std.specs.List.{flat_map}
use Rattle.std.proofs.lemmas.Nat.{mul-add-lt, row_fits, same_from_place}
use Rattle.spec_model.specs.Spec.{SpecValue, those, message_at, arc_at, base, further, design_variables, all_variables, arc_var, resource_var, link_var, step_var, covered_var}
use Rattle.spec_model.specs.Rules.{of_task, of_task_on, options_of, goes_into, leaves, of_link, arcs_into, arcs_from, arcs_of, sender_of}
use Rattle.spec_model.specs.WellFormed.{IsWellFormed}
use Rattle.spec_model.proofs.Numbers.{base_more, design_variables-le, step_place_lt, step_var-lt, covered_var-lt}
use Rattle.spec_model.proofs.Along.{arc_var-lt}
use Rattle.spec_model.proofs.InRange.{arc_in}
use Rattle.spec_model.proofs.Those.{cases_suc}
use Rattle.encode_model.specs.Encoding.{at_least, carries, has_cause, positive, negative, positives, put, option_on, on_resource, options_on, receiver_options, for_receiver, arc_vars, step_after, steps_from, leads_to, neighbours, step_at, messages_of, cover_of, link_arcs}
use Rattle.pb_rules.specs.declared.Term.{Term}
use Rattle.pb_rules.specs.Linear.{Linear}
use Rattle.encode_model.specs.Rising.{RisesWithin, TermsWithin, IsRising}
use Rattle.encode_model.proofs.Rising.{wider, rises_those, rises_below, rises_numbers, rises_pieces, literal, literal_from, literals, small_wider, terms_joined, terms_put, put_first, sorted_already, at_least-put, LacksVariable}

base-ge : (s : SpecValue) (m : ℕ) → design_variables s ≤ base s m
unfolding base
base-ge s m = omega arith

-- one literal behind others
one_more : (a b v : ℕ) (z : Bool) (ls : List Term) → a ≤ v → v < b → TermsWithin (2 ^ 40) 0 a ls → TermsWithin (2 ^ 40) 0 b (ls ++ literal z v ∷ [])
one_more a b v z ls h g r = terms_joined (2 ^ 40) 0 a b ls (literal z v ∷ []) r (literal_from a v z h, omega (arith, g))

pub two : (n v w : ℕ) (y z : Bool) → v < w → w < n → IsRising n (literal y v ∷ (literal z w ∷ []))
two n v w y z h g = record { rises = (literal_from 0 v y (omega arith), (literal_from (v + 1) w z (omega (arith, h)), omega (arith, g))) }

-- the terms of each kind of constraint stand by rising variable: the options of a task,
pub options : (s : SpecValue) (t : ℕ) (y : Bool) → IsRising (all_variables s) (map (literal y) (options_of s t))
options s t y =
    record {
      rises = literals 0 (all_variables s) y (options_of s t) (wider 0 (length s.options) 0 (all_variables s) (options_of s t) (omega arith) (omega (arith, design_variables-le s))
          (rises_numbers (of_task s t) (length s.options)));
    }

module _ (s : SpecValue) (m : ℕ) (hm : m < length s.messages) where
  -- the sender's options on a resource and the first step there,
  pub start : (r : ℕ) (y z : Bool) → r < length s.resources → IsRising (all_variables s) (map (literal y) (option_on s (sender_of s m) r) ++ literal z (step_var s m r 0) ∷ [])
  start r y z hr = record {
    rises = one_more (length s.options) (all_variables s) (step_var s m r 0) z (map (literal y) (option_on s (sender_of s m) r)) (omega (arith, base-ge s m))
        (step_var-lt s m r 0 hm hr (omega arith)) (literals 0 (length s.options) y (option_on s (sender_of s m) r) (rises_numbers (of_task_on s (sender_of s m) r) (length s.options)));
  }

  -- an option and what it covers,
  pub option_cover : (o r : ℕ) (y z : Bool) → o < length s.options → r < length s.resources → IsRising (all_variables s) (literal y o ∷ (literal z (covered_var s m r) ∷ []))
  option_cover o r y z ho hr = two (all_variables s) o (covered_var s m r) y z (omega (arith, ho, base-ge s m)) (covered_var-lt s m r hm hr)

  steps_rise : (r from : ℕ) → r < length s.resources → from ≤ 1 → RisesWithin (step_var s m r 0) (step_var s m r 0 + ((message_at s m).limit + 1)) (steps_from s m r from)
  unfolding step_after
  steps_rise r from hr hf =
      rises_below (step_after s m r from) ((message_at s m).limit + 1 - from) (step_var s m r 0) (step_var s m r 0 + ((message_at s m).limit + 1)) (omega arith)
      (λ i l. (omega arith, omega (arith, l, hf)))
      (λ i j l k. omega (arith, l))

  row_end : (r : ℕ) → r < length s.resources → step_var s m r 0 + ((message_at s m).limit + 1) ≤ covered_var s m 0
  row_end r hr = omega (arith, step_place_lt r (message_at s m).limit (length s.resources) (message_at s m).limit hr (omega arith))

  -- the steps on a resource and whether it is covered,
  pub steps_cover : (r : ℕ) (y z : Bool) → r < length s.resources → IsRising (all_variables s) (map (literal y) (steps_from s m r 0) ++ literal z (covered_var s m r) ∷ [])
  steps_cover r y z hr =
      let steps = literals (step_var s m r 0) (step_var s m r 0 + ((message_at s m).limit + 1)) y (steps_from s m r 0) (steps_rise r 0 hr (omega arith)) in
      record {
        rises = one_more (covered_var s m 0) (all_variables s) (covered_var s m r) z (map (literal y) (steps_from s m r 0)) (omega arith) (covered_var-lt s m r hm hr)
            (small_wider (step_var s m r 0) (step_var s m r 0 + ((message_at s m).limit + 1)) 0 (covered_var s m 0) (map (literal y) (steps_from s m r 0)) (omega arith) (row_end r hr) steps);
      }

  arcs_rise : (p : ℕ → Bool) → RisesWithin (arc_var s m 0) (arc_var s m 0 + length s.arcs) (arc_vars s m (those p (length s.arcs)))
  arcs_rise p =
      rises_those (arc_var s m) p (length s.arcs) (arc_var s m 0) (arc_var s m 0 + length s.arcs) (omega arith) (λ i l. (omega arith, omega (arith, l))) (λ i j l k. omega (arith, l))

  arcs_end : arc_var s m 0 + length s.arcs ≤ design_variables s
  arcs_end = omega (arith, mul-row hm)
    where
      mul-row : m < length s.messages → m * length s.arcs + length s.arcs ≤ length s.messages * length s.arcs
      mul-row h = row_fits m (length s.arcs) (length s.messages) (length s.arcs) h (omega arith)

  -- the arcs into a resource and the steps on it,
  pub arcs_steps : (r : ℕ) (y z : Bool) → r < length s.resources → IsRising (all_variables s) (map (literal y) (arc_vars s m (arcs_into s r)) ++ map (literal z) (steps_from s m r 1))
  arcs_steps r y z hr =
      let arcs = small_wider (arc_var s m 0) (arc_var s m 0 + length s.arcs) 0 (step_var s m r 0) (map (literal y) (arc_vars s m (arcs_into s r))) (omega arith)
      (omega (arith, arcs_end, base-ge s m)) (literals (arc_var s m 0) (arc_var s m 0 + length s.arcs) y (arc_vars s m (arcs_into s r)) (arcs_rise (goes_into s r))) in
      let steps = small_wider (step_var s m r 0) (step_var s m r 0 + ((message_at s m).limit + 1)) (step_var s m r 0) (all_variables s) (map (literal z) (steps_from s m r 1)) (omega arith)
      (omega (arith, row_end r hr, covered_var-lt s m r hm hr)) (literals (step_var s m r 0) (step_var s m r 0 + ((message_at s m).limit + 1)) z (steps_from s m r 1)
      (steps_rise r 1 hr (omega arith))) in
      record { rises = terms_joined (2 ^ 40) 0 (step_var s m r 0) (all_variables s) (map (literal y) (arc_vars s m (arcs_into s r))) (map (literal z) (steps_from s m r 1)) arcs steps }

  -- an arc and the resource that it covers,
  pub arc_cover : (a p : ℕ) (y z : Bool) → a < length s.arcs → p < length s.resources → IsRising (all_variables s) (literal y (arc_var s m a) ∷ (literal z (covered_var s m p) ∷ []))
  arc_cover a p y z ha hp = two (all_variables s) (arc_var s m a) (covered_var s m p) y z (omega (arith, arc_var-lt s m a hm ha, base-ge s m)) (covered_var-lt s m p hm hp)

  -- an arc and a step on its tail,
  pub arc_step : (a p t : ℕ) (y z : Bool) → a < length s.arcs → p < length s.resources → t ≤ (message_at s m).limit
      → IsRising (all_variables s) (literal y (arc_var s m a) ∷ (literal z (step_var s m p t) ∷ []))
  arc_step a p t y z ha hp ht = two (all_variables s) (arc_var s m a) (step_var s m p t) y z (omega (arith, arc_var-lt s m a hm ha, base-ge s m)) (step_var-lt s m p t hm hp ht)

  pub arc_before : (a p t : ℕ) → a < length s.arcs → arc_var s m a < step_var s m p t
  arc_before a p t ha = omega (arith, arc_var-lt s m a hm ha, base-ge s m)

  -- steps of two resources are two variables
  steps_apart : (p q t u : ℕ) → t ≤ (message_at s m).limit → u ≤ (message_at s m).limit → (p ≡ q → ⊥) → step_var s m p t ≡ step_var s m q u → ⊥
  steps_apart p q t u ht hu ne e =
      ne (same_from_place p t q u ((message_at s m).limit + 1) (omega (arith, ht)) (omega (arith, hu)) (omega (arith, e))).0

  pub carried : (a p q t : ℕ) → a < length s.arcs → p < length s.resources → q < length s.resources → (p ≡ q → ⊥) → t < (message_at s m).limit
      → IsRising (all_variables s) (negative (arc_var s m a) ∷ put (negative (step_var s m p t)) (positive (step_var s m q (t + 1)) ∷ []))
  carried a p q t ha hp hq ne ht =
      let u = arc_var s m a in
      let later = arc_step a q (t + 1) false true ha hq (omega (arith, ht)) in
      let here = arc_step a p t false false ha hp (omega (arith, ht)) in
      record {
        rises = (
          literal_from 0 u false (omega arith),
          terms_put (2 ^ 40) (u + 1) (all_variables s) (negative (step_var s m p t)) (positive (step_var s m q (t + 1)) ∷ []) here.rises.1.0
              (step_var-lt s m p t hm hp (omega (arith, ht))) ((λ e. steps_apart q p (t + 1) t (omega (arith, ht)) (omega (arith, ht)) (λ e'. ne (sym e')) e), tt) later.rises.1,
        );
      }

  -- the steps of the neighbours of a resource
  pub earlier_rise : (q t : ℕ) → t < (message_at s m).limit → IsRising (all_variables s) (positives (map (step_at s m t) (neighbours s q)))
  unfolding step_at
  earlier_rise q t ht = record {
    rises = literals 0 (all_variables s) true (map (step_at s m t) (neighbours s q)) (rises_those (step_at s m t) (leads_to s q) (length s.resources) 0 (all_variables s) (omega arith)
        (λ i l. (omega arith, step_var-lt s m i t hm l (omega (arith, ht)))) (λ i j l k. omega (arith, row_fits i ((message_at s m).limit + 1) j ((message_at s m).limit + 1) l (omega arith))));
  }

  -- what a covered resource needs for an end,
  pub end_literals : (r : ℕ) → r < length s.resources → IsRising (all_variables s) (positives (receiver_options s m r) ++ positives (arc_vars s m (arcs_from s r)) ++ positive (step_var s m r 0)
      ∷ (negative (covered_var s m r) ∷ []))
  end_literals r hr =
      let ros = literals 0 (length s.options) true (receiver_options s m r) (rises_numbers (for_receiver s m r) (length s.options)) in
      let us = small_wider (arc_var s m 0) (arc_var s m 0 + length s.arcs) (length s.options) (design_variables s) (positives (arc_vars s m (arcs_from s r))) (omega arith) arcs_end
      (literals (arc_var s m 0) (arc_var s m 0 + length s.arcs) true (arc_vars s m (arcs_from s r)) (arcs_rise (leaves s r))) in
      record {
        rises =
            terms_joined (2 ^ 40) 0 (design_variables s) (all_variables s) (positives (receiver_options s m r) ++ positives (arc_vars s m (arcs_from s r)))
            (positive (step_var s m r 0) ∷ (negative (covered_var s m r) ∷ []))
            (terms_joined (2 ^ 40) 0 (length s.options) (design_variables s) (positives (receiver_options s m r)) (positives (arc_vars s m (arcs_from s r))) ros us) (
              literal_from (design_variables s) (step_var s m r 0) true (omega (arith, base-ge s m)),
              (literal_from (step_var s m r 0 + 1) (covered_var s m r) false (omega (arith, row_end r hr)), omega (arith, covered_var-lt s m r hm hr)),
            );
      }

  -- a covered resource and its use,
  pub cover_allocated : (r : ℕ) (y z : Bool) → r < length s.resources → IsRising (all_variables s) (literal y (resource_var s r) ∷ (literal z (covered_var s m r) ∷ []))
  cover_allocated r y z hr = two (all_variables s) (resource_var s r) (covered_var s m r) y z (omega (arith, hr, base-ge s m)) (covered_var-lt s m r hm hr)

  -- an arc and the use of its link,
  pub arc_allocated : (a l : ℕ) (y z : Bool) → a < length s.arcs → l < length s.links → IsRising (all_variables s) (literal y (arc_var s m a) ∷ (literal z (link_var s l) ∷ []))
  arc_allocated a l y z ha hl = two (all_variables s) (arc_var s m a) (link_var s l) y z (omega (arith, arc_in_uses)) (omega (arith, hl, design_variables-le s))
    where
      arc_in_uses : m * length s.arcs + a < length s.messages * length s.arcs
      arc_in_uses = omega (arith, mul-add-lt m (length s.arcs) a (length s.messages) hm ha)

-- an option and the use of its resource,
pub option_allocated : (s : SpecValue) (o r : ℕ) (y z : Bool) → o < length s.options → r < length s.resources → IsRising (all_variables s) (literal y o ∷ (literal z (resource_var s r) ∷ []))
option_allocated s o r y z ho hr = two (all_variables s) o (resource_var s r) y z (omega (arith, ho)) (omega (arith, hr, design_variables-le s))

-- a cause and its effect
pub cause : (s : SpecValue) (m q t : ℕ) → IsWellFormed s → m < length s.messages → q < length s.resources → t < (message_at s m).limit
    → IsRising (all_variables s) (put (negative (step_var s m q (t + 1))) (positives (map (step_at s m t) (neighbours s q))))
unfolding step_at
cause s m q t wf hm hq ht = record {
  rises = terms_put (2 ^ 40) 0 (all_variables s) (negative (step_var s m q (t + 1))) (positives (map (step_at s m t) (neighbours s q)))
      (literal_from 0 (step_var s m q (t + 1)) false (omega arith)) (step_var-lt s m q (t + 1) hm hq (omega (arith, ht))) (lacks (neighbours s q)) (earlier_rise s m hm q t ht).rises;
}
  where
    lacks : (ps : List ℕ) → LacksVariable (step_var s m q (t + 1)) (positives (map (step_at s m t) ps))
    lacks [] = tt
    lacks (p ∷ ps) = (λ e. apart p e, lacks ps)
      where
        apart : (p : ℕ) → step_var s m p t ≡ step_var s m q (t + 1) → ⊥
        apart p e = omega (arith, (same_from_place p t q (t + 1) ((message_at s m).limit + 1) (omega (arith, ht)) (omega (arith, ht)) (omega (arith, e))).1)

-- the bases of messages rise
base_up : (s : SpecValue) (i j : ℕ) → i ≤ j → j ≤ length s.messages → base s i ≤ base s j
base_up s i zero h l = let e : i ≡ 0 = omega (arith, h) in subst (λ (k : ℕ). base s k ≤ base s 0) (sym e) (omega arith)
base_up s i (suc j) h l =
    let next : base s (suc j) ≡ base s j + further s (message_at s j) = subst (λ (k : ℕ). base s k ≡ base s j + further s (message_at s j)) (add-one j) (base_more s j l) in
    elim (cases_suc i (suc j) (omega (arith, h))) [
      | inl e ↦ subst (λ (k : ℕ). base s k ≤ base s (suc j)) (sym e) (omega arith)
      | inr k ↦ omega (arith, next, base_up s i j (omega (arith, k)) (omega (arith, l)))
    ]

pub covers_rise : (s : SpecValue) (r : ℕ) → r < length s.resources → RisesWithin (design_variables s) (all_variables s) (map (cover_of s r) (messages_of s))
unfolding cover_of
covers_rise s r hr =
    rises_below (cover_of s r) (length s.messages) (design_variables s) (all_variables s) (design_variables-le s)
    (λ m l. (omega (arith, base-ge s m), covered_var-lt s m r l hr))
    (λ i j l k. omega (arith, hr, base_more s i (omega (arith, l, k)), base_up s (i + 1) j (omega (arith, l)) (omega (arith, k))))

-- what uses a resource,
pub resource_uses : (s : SpecValue) (r : ℕ) → r < length s.resources → IsRising (all_variables s) (positives (options_on s r) ++ negative (resource_var s r)
    ∷ positives (map (cover_of s r) (messages_of s)))
resource_uses s r hr =
    let os = literals 0 (length s.options) true (options_on s r) (rises_numbers (on_resource s r) (length s.options)) in
    let cs = literals (design_variables s) (all_variables s) true (map (cover_of s r) (messages_of s)) (covers_rise s r hr) in
    record {
      rises = terms_joined (2 ^ 40) 0 (length s.options) (all_variables s) (positives (options_on s r)) (negative (resource_var s r) ∷ positives (map (cover_of s r) (messages_of s))) os (
        literal_from (length s.options) (resource_var s r) false (omega arith),
        small_wider (design_variables s) (all_variables s) (resource_var s r + 1) (all_variables s)
            (positives (map (cover_of s r) (messages_of s))) (omega (arith, hr)) (omega arith) cs,
      );
    }

-- what uses a link,
pub link_uses : (s : SpecValue) (l : ℕ) → l < length s.links → IsRising (all_variables s) (positives (flat_map (link_arcs s l) (messages_of s)) ++ negative (link_var s l) ∷ [])
unfolding link_arcs
link_uses s l hl =
    let vs = flat_map (link_arcs s l) (messages_of s) in
    let rise : RisesWithin (arc_var s 0 0) (arc_var s (length s.messages) 0) vs = rises_pieces (link_arcs s l) (λ m. arc_var s m 0) (length s.messages)
    (λ m hm. wider (arc_var s m 0) (arc_var s m 0 + length s.arcs) (arc_var s m 0) (arc_var s (m + 1) 0) (arc_vars s m (arcs_of s l)) (omega arith) (omega (arith, next m))
    (arcs_rise s m hm (of_link s l))) in
    record {
      rises = one_more (arc_var s (length s.messages) 0) (all_variables s) (link_var s l) false (positives vs) (omega arith) (omega (arith, hl, design_variables-le s))
          (small_wider (arc_var s 0 0) (arc_var s (length s.messages) 0) 0 (arc_var s (length s.messages) 0) (positives vs) (omega arith) (omega arith)
          (literals (arc_var s 0 0) (arc_var s (length s.messages) 0) true vs rise));
    }
  where
    next : (m : ℕ) → m * length s.arcs + length s.arcs ≤ (m + 1) * length s.arcs
    next m = row_fits m (length s.arcs) (m + 1) (length s.arcs) (omega arith) (omega arith)

-- the clause of a used arc that carries a step, with its literals put in order
carry_is : (n u p q : ℕ) (ts : List Term) → u < p → u < q → IsRising n (negative u ∷ put (negative p) (positive q ∷ [])) → ts ≡ put (negative u) (put (negative p) (positive q ∷ []))
    → IsRising n ts × (at_least 1 ts ≡ at_least 1 (negative u ∷ (negative p ∷ (positive q ∷ []))))
unfolding at_least
carry_is n u p q ts hp hq rising e = (whole, ap (λ (us : List Term). make us) (sorted_already (2 ^ 40) 0 n ts whole.rises ∙ e))
  where
    rest : List Term
    rest = put (negative p) (positive q ∷ [])

    whole : IsRising n ts
    whole = subst (λ (us : List Term). IsRising n us) (sym (e ∙ put_first (2 ^ 40) n (negative u) rest rising.rises.1)) rising

    make : List Term → Linear
    make us = record { terms = us; degree = 1 }

-- a step that an arc carries on,
pub carry_shape : (s t : SpecValue) (m a p q k n : ℕ) (ls : List Term) → t ≡ s → IsWellFormed t → m < length s.messages → a < length s.arcs → p ≡ (arc_at s a).tail → q ≡ (arc_at s a).head
    → k < (message_at s m).limit → n ≡ all_variables s → ls ≡ put (negative (arc_var s m a)) (put (negative (step_var s m p k)) (positive (step_var s m q (k + 1)) ∷ [])) → IsRising n ls
    × (at_least 1 ls ≡ carries s m a k)
unfolding carries
carry_shape s t m a p q k n ls e wf hm ha ep eq hk en el =
    let w = subst IsWellFormed e wf in
    let arc = arc_in s a w ha in
    let el' : ls ≡ put (negative (arc_var s m a)) (put (negative (step_var s m (arc_at s a).tail k)) (positive (step_var s m (arc_at s a).head (k + 1)) ∷ [])) = el
    ∙ (ap (λ (x : ℕ). put (negative (arc_var s m a)) (put (negative (step_var s m x k)) (positive (step_var s m q (k + 1)) ∷ []))) ep
    ∙ ap (λ (x : ℕ). put (negative (arc_var s m a)) (put (negative (step_var s m (arc_at s a).tail k)) (positive (step_var s m x (k + 1)) ∷ []))) eq) in
    let both = carry_is (all_variables s) (arc_var s m a) (step_var s m (arc_at s a).tail k) (step_var s m (arc_at s a).head (k + 1)) ls (arc_before s m hm a (arc_at s a).tail k ha)
    (arc_before s m hm a (arc_at s a).head (k + 1) ha) (carried s m hm a (arc_at s a).tail (arc_at s a).head k ha arc.tail arc.head arc.apart hk) el' in
    (subst (λ (x : ℕ). IsRising x ls) (sym en) both.0, both.1)

-- and the steps that a step has as causes
pub cause_shape : (s t : SpecValue) (m q k n : ℕ) (ls : List Term) → t ≡ s → IsWellFormed t → m < length s.messages → q < length s.resources → k < (message_at s m).limit → n ≡ all_variables s
    → ls ≡ put (negative (step_var s m q (k + 1))) (positives (map (step_at s m k) (neighbours s q))) → IsRising n ls × (at_least 1 ls ≡ has_cause s m q k)
unfolding has_cause
cause_shape s t m q k n ls e wf hm hq hk en el =
    let w = subst IsWellFormed e wf in
    let rising = cause s m q k w hm hq hk in (
      subst (λ (x : ℕ). IsRising x ls) (sym en) (subst (λ (js : List Term). IsRising (all_variables s) js) (sym el) rising),
      ap (at_least 1) el ∙ at_least-put (all_variables s) 1 (negative (step_var s m q (k + 1))) (positives (map (step_at s m k) (neighbours s q))) (earlier_rise s m hm q k hk) rising,
    )
