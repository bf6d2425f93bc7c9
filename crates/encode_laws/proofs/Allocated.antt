-- What is allocated and what is needed.
use Rattle.std.proofs.Common.{◌≡◌, ℕ, zero, suc, ◌+◌, ◌<◌, ◌≤◌, Bool, true, false, cond, List, [], ◌∷◌, ◌++◌, length, refl, subst, arith, ◌⊎◌, inl, inr}
use Rattle.std.specs.Prelude.{map, not}
use Rattle.std.specs.List.{count_by, flat_map}
use Rattle.std.proofs.lemmas.Bool.{cases_lt, false≢true, eq-eqb, eqb-true}
use Rattle.pb_rules.specs.Linear.{Holds}
use Rattle.spec_model.specs.Spec.{SpecValue, Bits, message_at, arc_at, option_at, arc_var, resource_var, link_var, covered_var}
use Rattle.spec_model.specs.Rules.{Uses, Walk, WalkBelow, IsResourceNeeded, IsLinkNeeded, arcs_of, of_link, sender_of}
use Rattle.spec_model.specs.WellFormed.{IsWellFormed}
use Rattle.spec_model.proofs.InRange.{arc_in, option_in, message_in}
use Rattle.spec_model.proofs.Once.{counted}
use Rattle.spec_model.proofs.Counts.{bit, count-map, some_those, some_below, counted_below, some_piece, count_piece_le}
use Rattle.encode_model.specs.Encoding.{negative, positives, on_resource, options_on, messages_of, cover_of, option_allocates, cover_allocates, resource_has_use, arc_allocates, link_arcs, link_has_use}
use Rattle.pb_rules.proofs.Sums.{true_weight-cons}
use Rattle.encode_model.proofs.Weights.{true_weight-append, weight-positives, at_least-holds, holds-at_least, if_then, from_if_then, then_if, from_then_if}
use Rattle.spec_model.specs.Rules.{IsRouted}
use Rattle.encode_laws.proofs.Families.{IsAllocationModel}
use Rattle.encode_laws.proofs.Equations.{HasEnds, has_ends}
use Rattle.encode_laws.proofs.Walked.{IsWalked}

-- the tasks and resources of options, the links of arcs and the senders of messages are there
pub record HasParts (s : SpecValue) : Type 0 where
  pub ends : HasEnds s
  pub tasks : (o : ℕ) → o < length s.options → (option_at s o).task < length s.tasks
  pub resources : (o : ℕ) → o < length s.options → (option_at s o).resource < length s.resources
  pub links : (a : ℕ) → a < length s.arcs → (arc_at s a).link < length s.links
  pub senders : (m : ℕ) → m < length s.messages → sender_of s m < length s.tasks

pub has_parts : (s : SpecValue) → IsWellFormed s → HasParts s
has_parts s w = record {
  ends = has_ends s w;
  tasks = λ o h. (option_in s o w h).task;
  resources = λ o h. (option_in s o w h).resource;
  links = λ a h. (arc_in s a w h).link;
  senders = λ m h. (message_in s m w h).sender;
}

not_bit : (b : Bool) → b ≡ true → bit (not b) ≡ 0
not_bit true e = refl
not_bit false e = absurd (false≢true e)

module _ (s : SpecValue) (f : Bits) (parts : HasParts s) (walked : (m : ℕ) → m < length s.messages → IsWalked s f m) where
  -- the sender or a used arc brings the message to a resource to which a walk leads
  needed_of_walk : (m r i : ℕ) → m < length s.messages → Walk s f m r i → IsResourceNeeded s f r
  needed_of_walk m r zero hm w = inl (record { task = sender_of s m; in_range = parts.senders m hm; on = w })
  needed_of_walk m r (suc i) hm w = inr (record { message = m; in_range = hm; touched = record { arc = w.0; used = w.1; at_end = inr w.2 } })

  -- a touched resource is covered
  covered_of_touch : (m r a : ℕ) → m < length s.messages → Uses s f m a → WalkBelow s f m (arc_at s a).tail (message_at s m).limit → ((arc_at s a).tail ≡ r) ⊎ ((arc_at s a).head ≡ r)
      → f (covered_var s m r) ≡ true
  covered_of_touch m r a hm u w (inl e) =
      subst (λ (q : ℕ). f (covered_var s m q) ≡ true) e ((walked m hm).cover (arc_at s a).tail (parts.ends a u.in_range).0 (w.0, omega (arith, w.1), w.2))
  covered_of_touch m r a hm u w (inr e) =
      subst (λ (q : ℕ). f (covered_var s m q) ≡ true) e ((walked m hm).cover (arc_at s a).head (parts.ends a u.in_range).1 (suc w.0, omega (arith, w.1), (a, u, refl, w.2)))

  -- from the constraints to the rules
  option_of_use : (r : ℕ) → 1 ≤ count_by f (options_on s r) → IsResourceNeeded s f r
  unfolding on_resource
  option_of_use r l =
      let x = some_those f (on_resource s r) (length s.options) l in
      inl (record { task = (option_at s x.0).task; in_range = parts.tasks x.0 x.1; on = record { choice = x.0; in_range = x.1; chosen = x.3; of_task = refl; on_resource = eqb-true _ _ x.2 } })

  cover_of_use : (r : ℕ) → r < length s.resources → 1 ≤ count_by f (map (cover_of s r) (messages_of s)) → IsResourceNeeded s f r
  unfolding cover_of
  cover_of_use r hr l =
      let x = some_below (λ m. f (covered_var s m r)) (length s.messages) (omega (arith, l, count-map f (cover_of s r) (messages_of s))) in
      let w = (walked x.0 x.1).short_walk r hr x.2 in
      needed_of_walk x.0 r w.0 x.1 w.2

  pub needed_of_resource : (r : ℕ) → r < length s.resources → Holds f (resource_has_use s r) → f (resource_var s r) ≡ true → IsResourceNeeded s f r
  unfolding resource_has_use
  needed_of_resource r hr h al =
      let os = options_on s r in
      let cs = map (cover_of s r) (messages_of s) in
      let v = resource_var s r in
      let all = holds-at_least f 1 (positives os ++ negative v ∷ positives cs) h in
      let sum : 1 ≤ count_by f os + count_by f cs = omega (
        arith,
        all,
        true_weight-append f (positives os) (negative v ∷ positives cs),
        true_weight-cons f (negative v) (positives cs),
        weight-positives f os,
        weight-positives f cs,
        not_bit (f v) al,
      ) in
      elim (cases_lt 0 (count_by f os)) [
        | inl l ↦ option_of_use r (omega (arith, l))
        | inr l ↦ cover_of_use r hr (omega (arith, l, sum))
      ]

  pub resource_of_needed : IsAllocationModel s f → ((m a : ℕ) → m < length s.messages → Uses s f m a → WalkBelow s f m (arc_at s a).tail (message_at s m).limit) → (r : ℕ) → r < length s.resources
      → IsResourceNeeded s f r → f (resource_var s r) ≡ true
  unfolding option_allocates cover_allocates
  resource_of_needed h has_walk r hr (inl x) =
      subst (λ (q : ℕ). f (resource_var s q) ≡ true) x.on.on_resource (if_then f x.on.choice (resource_var s (option_at s x.on.choice).resource) (h.options x.on.choice x.on.in_range) x.on.chosen)
  resource_of_needed h has_walk r hr (inr x) =
      let t = x.touched in
      then_if f (covered_var s x.message r) (resource_var s r) (h.covers x.message r x.in_range hr) (covered_of_touch x.message r t.arc x.in_range t.used
      (has_walk x.message t.arc x.in_range t.used) t.at_end)

  pub needed_of_link : (l : ℕ) → Holds f (link_has_use s l) → f (link_var s l) ≡ true → IsLinkNeeded s f l
  unfolding link_has_use link_arcs of_link
  needed_of_link l h wi =
      let us = flat_map (link_arcs s l) (messages_of s) in
      let v = link_var s l in
      let all = holds-at_least f 1 (positives us ++ negative v ∷ []) h in
      let sum : 1 ≤ count_by f us = omega (arith, all, true_weight-append f (positives us) (negative v ∷ []), true_weight-cons f (negative v) [], weight-positives f us, not_bit (f v) wi) in
      let x = some_piece f (link_arcs s l) (length s.messages) sum in
      let y = some_those (λ a. f (arc_var s x.0 a)) (of_link s l) (length s.arcs) (omega (arith, x.2, count-map f (arc_var s x.0) (arcs_of s l))) in
      record { message = x.0; in_range = x.1; arc = y.0; used = record { in_range = y.1; bit = y.3 }; of_link = eqb-true _ _ y.2 }

  pub link_of_needed : IsAllocationModel s f → (l : ℕ) → IsLinkNeeded s f l → f (link_var s l) ≡ true
  unfolding arc_allocates
  link_of_needed h l x =
      subst (λ (q : ℕ). f (link_var s q) ≡ true) x.of_link (if_then f (arc_var s x.message x.arc) (link_var s (arc_at s x.arc).link) (h.arcs x.message x.arc x.in_range x.used.in_range) x.used.bit)

  -- and from the rules to the constraints
  use_of_needed : (r : ℕ) → r < length s.resources → ((m a : ℕ) → m < length s.messages → Uses s f m a → WalkBelow s f m (arc_at s a).tail (message_at s m).limit) → IsResourceNeeded s f r
      → 1 ≤ count_by f (options_on s r) + count_by f (map (cover_of s r) (messages_of s))
  unfolding on_resource cover_of
  use_of_needed r hr has_walk (inl x) = omega (arith, counted f (on_resource s r) (length s.options) x.on.choice x.on.in_range (eq-eqb _ _ x.on.on_resource) x.on.chosen)
  use_of_needed r hr has_walk (inr x) =
      let t = x.touched in
      let c = covered_of_touch x.message r t.arc x.in_range t.used (has_walk x.message t.arc x.in_range t.used) t.at_end in
      omega (arith, counted_below (λ m. f (covered_var s m r)) (length s.messages) x.message x.in_range c, count-map f (cover_of s r) (messages_of s))

  resource_use_holds : IsRouted s f → (r : ℕ) → r < length s.resources → Holds f (resource_has_use s r)
  unfolding resource_has_use
  resource_use_holds routed r hr =
      let os = options_on s r in
      let cs = map (cover_of s r) (messages_of s) in
      let v = resource_var s r in
      at_least-holds f 1 (positives os ++ negative v ∷ positives cs) (omega (
        arith,
        sum (f v) refl,
        true_weight-append f (positives os) (negative v ∷ positives cs),
        true_weight-cons f (negative v) (positives cs),
        weight-positives f os,
        weight-positives f cs,
      ))
    where
      sum : (b : Bool) → f (resource_var s r) ≡ b → 1 ≤ count_by f (options_on s r) + count_by f (map (cover_of s r) (messages_of s)) + cond (not b) 1 0
      sum true e = omega (arith, use_of_needed r hr routed.has_walk ((routed.resource_use r hr).0 e))
      sum false e = omega arith

  link_use_holds : IsRouted s f → (l : ℕ) → l < length s.links → Holds f (link_has_use s l)
  unfolding link_has_use link_arcs of_link
  link_use_holds routed l hl =
      at_least-holds f 1 (positives us ++ negative (link_var s l) ∷ []) (omega (
        arith,
        sum (f (link_var s l)) refl,
        true_weight-append f (positives us) (negative (link_var s l) ∷ []),
        true_weight-cons f (negative (link_var s l)) [],
        weight-positives f us,
      ))
    where
      us : List ℕ
      us = flat_map (link_arcs s l) (messages_of s)

      sum : (b : Bool) → f (link_var s l) ≡ b → 1 ≤ count_by f us + cond (not b) 1 0
      sum false e = omega arith
      sum true e =
          let x = (routed.link_use l hl).0 e in
          let one = counted (λ a. f (arc_var s x.message a)) (of_link s l) (length s.arcs) x.arc x.used.in_range (eq-eqb _ _ x.of_link) x.used.bit in
          omega (arith, one, count-map f (arc_var s x.message) (arcs_of s l), count_piece_le f (link_arcs s l) (length s.messages) x.message x.in_range)

  pub allocation_of : IsRouted s f → IsAllocationModel s f
  unfolding option_allocates cover_allocates arc_allocates
  allocation_of routed = record {
    options = λ o l. from_if_then f o (resource_var s (option_at s o).resource) (λ e. (routed.resource_use (option_at s o).resource (parts.resources o l)).1
        (inl (record { task = (option_at s o).task; in_range = parts.tasks o l; on = record { choice = o; in_range = l; chosen = e; of_task = refl; on_resource = refl } })));
    covers = λ m r hm hr. from_then_if f (covered_var s m r) (resource_var s r) (λ e. (let w = (walked m hm).short_walk r hr e in (routed.resource_use r hr).1 (needed_of_walk m r w.0 hm w.2)));
    resources = resource_use_holds routed;
    arcs = λ m a hm ha. from_if_then f (arc_var s m a) (link_var s (arc_at s a).link) (λ e. (routed.link_use (arc_at s a).link (parts.links a ha)).1
        (record { message = m; in_range = hm; arc = a; used = record { in_range = ha; bit = e }; of_link = refl }));
    links = link_use_holds routed;
  }
