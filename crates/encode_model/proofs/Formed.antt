-- What holds of each constraint whose terms stand by rising variable holds of each constraint of the encoding.
use Rattle.std.proofs.Common.{ℕ, ◌+◌, ◌-◌, ◌<◌, ◌^◌, true, false, List, [], ◌∷◌, ◌++◌, length, get_or, refl, sym, subst, arith}
use Rattle.std.specs.Prelude.{All, map}
use Rattle.std.specs.List.{flat_map}
use Rattle.std.proofs.lemmas.List.Elements.{All-append, All-from_recursion, All-map}
use Rattle.pb_rules.specs.declared.Term.{Term}
use Rattle.pb_rules.specs.Linear.{Linear, IsNormal, VarsBelow}
use Rattle.spec_model.specs.Spec.{SpecValue, below, message_at, arc_at, option_at, all_variables, arc_var, resource_var, link_var, step_var, covered_var}
use Rattle.spec_model.specs.Rules.{of_task, of_task_on, options_of, goes_into, arcs_into, arcs_from, sender_of}
use Rattle.spec_model.specs.WellFormed.{IsWellFormed}
use Rattle.spec_model.proofs.InRange.{arc_in, option_in, limit_in}
use Rattle.spec_model.proofs.Joined.{All-pieces, All-ones, All-pieces_of, All-two, All-those}
use Rattle.spec_model.proofs.Those.{few_those}
use Rattle.encode_model.specs.Encoding.{positive, negative, positives, negatives, put, at_least, option_on, options_on, receiver_options, arc_vars, steps_from, neighbours, step_at, resources_of, messages_of, cover_of, link_arcs, one_option, sender_start, option_covers, receiver_covered, receivers_covered, covered_once, one_arc_in, carries, arc_carries, has_cause, steps_have_cause, no_dangling, routes_of, message_part, option_allocates, cover_allocates, covers_allocate, resource_has_use, arc_allocates, arcs_allocate, link_has_use, allocation, options_chosen, encoding}
use Rattle.encode_model.specs.Rising.{IsRising}
use Rattle.encode_model.proofs.Rising.{at_least_within, normal_of_rising, below_within}
use Rattle.encode_model.proofs.Shapes as shapes
use Rattle.encode_model.proofs.Shapes.{carry_shape, cause_shape}

-- P holds of each constraint that is made of terms by rising variable
module _ (s : SpecValue) (wf : IsWellFormed s) (P : Linear → Type 0) (made : (n : ℕ) (ts : List Term) → IsRising (all_variables s) ts → n < 2 ^ 63 → P (at_least n ts)) where
  five : (vs ws xs ys zs : List Linear) → All P vs → All P ws → All P xs → All P ys → All P zs → All P (vs ++ ws ++ xs ++ ys ++ zs)
  five vs ws xs ys zs a b c d e = All-append P (vs ++ ws ++ xs ++ ys) zs (All-append P (vs ++ ws ++ xs) ys (All-append P (vs ++ ws) xs (All-append P vs ws a b) c) d) e

  clause : (ts : List Term) → IsRising (all_variables s) ts → P (at_least 1 ts)
  clause ts h = made 1 ts h (omega arith)

  both : (n m : ℕ) (ts us : List Term) → IsRising (all_variables s) ts → IsRising (all_variables s) us → n < 2 ^ 63 → m < 2 ^ 63 → All P (at_least n ts ∷ (at_least m us ∷ []))
  both n m ts us h g few less = All-two P (at_least n ts) (at_least m us) (made n ts h few) (made m us g less)

  limit_few : (m : ℕ) → m < length s.messages → (message_at s m).limit + 1 < 2 ^ 63
  limit_few m hm = omega (arith, limit_in s m wf hm, wf.plan.few_resources)

  option_each : (t : ℕ) → All P (one_option s t)
  option_each t =
      both 1 (length (options_of s t) - 1) (positives (options_of s t)) (negatives (options_of s t)) (shapes.options s t true) (shapes.options s t false) (omega arith)
      (omega (arith, few_those (of_task s t) (length s.options), wf.plan.few_options))

  start_each : (m : ℕ) → m < length s.messages → (r : ℕ) → r < length s.resources → All P (sender_start s m r)
  start_each m hm r hr =
      let p = option_on s (sender_of s m) r in
      let v : ℕ = step_var s m r 0 in
      both (length p) 1 (negatives p ++ positive v ∷ []) (positives p ++ negative v ∷ []) (shapes.start s m hm r false true hr) (shapes.start s m hm r true false hr)
      (omega (arith, few_those (of_task_on s (sender_of s m) r) (length s.options), wf.plan.few_options)) (omega arith)

  receiver_each : (m : ℕ) → m < length s.messages → (w : ℕ) → All P (receiver_covered s m w)
  unfolding option_covers
  receiver_each m hm w =
      All-map P (option_covers s m) (options_of s w) (All-those (λ o. P (option_covers s m o)) (of_task s w) (length s.options) (λ o l e.
      (let r : ℕ = (option_at s o).resource in
      clause (negative o ∷ (positive (covered_var s m r) ∷ [])) (shapes.option_cover s m hm o r false true l (option_in s o wf l).resource))))

  receivers_each : (m : ℕ) → m < length s.messages → All P (receivers_covered s m)
  receivers_each m hm = All-pieces_of P (receiver_covered s m) (message_at s m).receivers (λ k d l. receiver_each m hm (get_or (message_at s m).receivers k d))

  cover_each : (m : ℕ) → m < length s.messages → (r : ℕ) → r < length s.resources → All P (covered_once s m r)
  cover_each m hm r hr =
      let v : ℕ = covered_var s m r in
      both ((message_at s m).limit + 1) 1 (negatives (steps_from s m r 0) ++ positive v ∷ []) (positives (steps_from s m r 0) ++ negative v ∷ []) (shapes.steps_cover s m hm r false true hr)
      (shapes.steps_cover s m hm r true false hr) (limit_few m hm) (omega arith)

  arcs_in_each : (m : ℕ) → m < length s.messages → (r : ℕ) → r < length s.resources → All P (one_arc_in s m r)
  arcs_in_each m hm r hr =
      let us : List ℕ = arc_vars s m (arcs_into s r) in
      let vs : List ℕ = steps_from s m r 1 in
      both (message_at s m).limit (length (arcs_into s r)) (positives us ++ negatives vs) (negatives us ++ positives vs) (shapes.arcs_steps s m hm r true false hr)
      (shapes.arcs_steps s m hm r false true hr) (omega (arith, limit_few m hm)) (omega (arith, few_those (goes_into s r) (length s.arcs), wf.plan.few_arcs, wf.plan.few_links))

  carry_each : (m : ℕ) → m < length s.messages → (a : ℕ) → a < length s.arcs → (k : ℕ) → k < (message_at s m).limit → P (carries s m a k)
  carry_each m hm a ha k hk =
      let ls : List Term = put (negative (arc_var s m a)) (put (negative (step_var s m (arc_at s a).tail k)) (positive (step_var s m (arc_at s a).head (k + 1)) ∷ [])) in
      let shape = carry_shape s s m a (arc_at s a).tail (arc_at s a).head k (all_variables s) ls refl wf hm ha refl refl hk refl refl in
      subst P shape.1 (clause ls shape.0)

  arc_each : (m : ℕ) → m < length s.messages → (a : ℕ) → a < length s.arcs → All P (arc_carries s m a)
  arc_each m hm a ha =
      let h : ℕ = (message_at s m).limit in
      let p : ℕ = (arc_at s a).tail in
      let u : ℕ = arc_var s m a in
      let there = (arc_in s a wf ha).tail in
      let cs : List Linear = at_least 1 (negative u ∷ (positive (covered_var s m p) ∷ [])) ∷ (at_least 1 (negative u ∷ (negative (step_var s m p h) ∷ [])) ∷ []) in
      All-append P (map (carries s m a) (below h)) cs (All-ones P (carries s m a) h (λ k l. carry_each m hm a ha k l))
      (both 1 1 (negative u ∷ (positive (covered_var s m p) ∷ [])) (negative u ∷ (negative (step_var s m p h) ∷ [])) (shapes.arc_cover s m hm a p false true ha there)
      (shapes.arc_step s m hm a p h false false ha there (omega arith)) (omega arith) (omega arith))

  causes_each : (m : ℕ) → m < length s.messages → (q : ℕ) → q < length s.resources → All P (steps_have_cause s m q)
  causes_each m hm q hq = All-ones P (has_cause s m q) (message_at s m).limit (λ k l.
      (let ls : List Term = put (negative (step_var s m q (k + 1))) (positives (map (step_at s m k) (neighbours s q))) in
      let shape = cause_shape s s m q k (all_variables s) ls refl wf hm hq l refl refl in
      subst P shape.1 (clause ls shape.0)))

  end_each : (m : ℕ) → m < length s.messages → (r : ℕ) → r < length s.resources → All P (no_dangling s m r)
  end_each m hm r hr =
      let ls : List Term = positives (receiver_options s m r) ++ positives (arc_vars s m (arcs_from s r)) ++ positive (step_var s m r 0) ∷ (negative (covered_var s m r) ∷ []) in
      All-from_recursion P (at_least 1 ls ∷ []) (clause ls (shapes.end_literals s m hm r hr), tt)

  message_each : (m : ℕ) → m < length s.messages → All P (message_part s m)
  message_each m hm =
      let R : ℕ = length s.resources in
      All-append P (flat_map (sender_start s m) (resources_of s) ++ receivers_covered s m) (routes_of s m)
      (All-append P (flat_map (sender_start s m) (resources_of s)) (receivers_covered s m) (All-pieces P (sender_start s m) R (start_each m hm)) (receivers_each m hm))
      (five (flat_map (covered_once s m) (resources_of s)) (flat_map (one_arc_in s m) (resources_of s)) (flat_map (arc_carries s m) (below (length s.arcs)))
      (flat_map (steps_have_cause s m) (resources_of s)) (flat_map (no_dangling s m) (resources_of s))
      (All-pieces P (covered_once s m) R (cover_each m hm))
      (All-pieces P (one_arc_in s m) R (arcs_in_each m hm))
      (All-pieces P (arc_carries s m) (length s.arcs) (arc_each m hm))
      (All-pieces P (steps_have_cause s m) R (causes_each m hm))
      (All-pieces P (no_dangling s m) R (end_each m hm)))

  option_allocated : (o : ℕ) → o < length s.options → P (option_allocates s o)
  unfolding option_allocates
  option_allocated o ho =
      let r : ℕ = (option_at s o).resource in
      clause (negative o ∷ (positive (resource_var s r) ∷ [])) (shapes.option_allocated s o r false true ho (option_in s o wf ho).resource)

  cover_allocated : (m : ℕ) → m < length s.messages → (r : ℕ) → r < length s.resources → P (cover_allocates s m r)
  unfolding cover_allocates
  cover_allocated m hm r hr = clause (positive (resource_var s r) ∷ (negative (covered_var s m r) ∷ [])) (shapes.cover_allocated s m hm r true false hr)

  resource_used : (r : ℕ) → r < length s.resources → P (resource_has_use s r)
  unfolding resource_has_use
  resource_used r hr = clause (positives (options_on s r) ++ negative (resource_var s r) ∷ positives (map (cover_of s r) (messages_of s))) (shapes.resource_uses s r hr)

  arc_allocated : (m : ℕ) → m < length s.messages → (a : ℕ) → a < length s.arcs → P (arc_allocates s m a)
  unfolding arc_allocates
  arc_allocated m hm a ha =
      let l : ℕ = (arc_at s a).link in
      clause (negative (arc_var s m a) ∷ (positive (link_var s l) ∷ [])) (shapes.arc_allocated s m hm a l false true ha (arc_in s a wf ha).link)

  link_used : (l : ℕ) → l < length s.links → P (link_has_use s l)
  unfolding link_has_use
  link_used l hl = clause (positives (flat_map (link_arcs s l) (messages_of s)) ++ negative (link_var s l) ∷ []) (shapes.link_uses s l hl)

  allocation_each : All P (allocation s)
  allocation_each =
      let M : ℕ = length s.messages in
      five (map (option_allocates s) (below (length s.options))) (flat_map (covers_allocate s) (messages_of s)) (map (resource_has_use s) (resources_of s))
      (flat_map (arcs_allocate s) (messages_of s)) (map (link_has_use s) (below (length s.links)))
      (All-ones P (option_allocates s) (length s.options) option_allocated)
      (All-pieces P (covers_allocate s) M (λ m hm. All-ones P (cover_allocates s m) (length s.resources) (cover_allocated m hm)))
      (All-ones P (resource_has_use s) (length s.resources) resource_used)
      (All-pieces P (arcs_allocate s) M (λ m hm. All-ones P (arc_allocates s m) (length s.arcs) (arc_allocated m hm)))
      (All-ones P (link_has_use s) (length s.links) link_used)

  pub encoding_each : All P (encoding s)
  unfolding encoding
  encoding_each =
      All-append P (options_chosen s ++ flat_map (message_part s) (messages_of s)) (allocation s)
      (All-append P (options_chosen s) (flat_map (message_part s) (messages_of s)) (All-pieces P (one_option s) (length s.tasks) (λ t l. option_each t))
      (All-pieces P (message_part s) (length s.messages) message_each))
      allocation_each

-- the encoding is in normal form
pub encoding_normal : (s : SpecValue) → IsWellFormed s → All (λ c. IsNormal c.terms c.degree) (encoding s)
encoding_normal s wf =
    encoding_each s wf (λ (c : Linear). IsNormal c.terms c.degree)
    (λ n ts h few. subst (λ (c : Linear). IsNormal c.terms c.degree) (sym (at_least_within (2 ^ 40) 0 (all_variables s) n ts h.rises))
    (normal_of_rising (all_variables s) n ts h (omega (arith, wf.few_variables)) few))

-- and has no variables but its own
pub encoding_below : (s : SpecValue) → IsWellFormed s → All (λ c. VarsBelow (all_variables s) c.terms) (encoding s)
encoding_below s wf =
    encoding_each s wf (λ (c : Linear). VarsBelow (all_variables s) c.terms)
    (λ n ts h few. subst (λ (c : Linear). VarsBelow (all_variables s) c.terms) (sym (at_least_within (2 ^ 40) 0 (all_variables s) n ts h.rises)) (below_within (2 ^ 40) 0 (all_variables s) ts h.rises))
