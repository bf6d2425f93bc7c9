-- The laws: models of the encoding and valid designs.
use Rattle.std.proofs.Common.{◌≡◌, ℕ, zero, suc, ◌+◌, ◌<◌, ◌≤◌, Bool, true, false, cond, length, get_or, refl, sym, ap, ◌∙◌, subst, arith}
use Rattle.std.specs.Prelude.{All, Contains}
use Rattle.std.specs.List.{sum_by}
use Rattle.std.proofs.lemmas.List.{take_all}
use Rattle.std.proofs.lemmas.List.Elements.{All-contains_itself, All-map}
use Rattle.std.proofs.lemmas.Bool.{lt-ltb, false≢true, eq-eqb, eqb-true}
use Rattle.pb_rules.specs.Linear.{Holds, IsModel}
use Rattle.spec_model.specs.Spec.{SpecValue, Bits, bits_of, message_at, arc_at, option_at, further, base, design_variables, all_variables, covered_var}
use Rattle.spec_model.specs.Rules.{IsOn, Uses, Walk, WalkBelow, IsRouted, IsValid, IsUnreached, options_of, of_task}
use Rattle.spec_model.specs.Genotypes.{IsSameDesign}
use Rattle.spec_model.specs.WellFormed.{IsWellFormed}
use Rattle.spec_model.proofs.Decide.{passes_some, some_passes_from, Walk-from_test, walk_test_from}
use Rattle.spec_model.proofs.Tests.{Contains-those}
use Rattle.spec_model.proofs.Joined.{All-piece_of, All-pieces_of, All-of_map, All-those}
use Rattle.spec_model.proofs.Along.{same_back, Walk-along, reached_along, IsRouted-along, IsValid-along, IsUnreached-along}
use Rattle.encode_model.specs.Encoding.{encoding, route_encoding, receiver_covered, option_covers, view}
use Rattle.encode_model.proofs.Weights.{if_then, from_if_then, exactly_one}
use Rattle.spec_model.proofs.Joined.{All-first, All-second}
use Rattle.encode_laws.specs.Exactness.{IsOnlyModel, ModelsAreRouted, RoutedAreModels, CoveredAreReached, ModelsAreValid, ValidAreModels}
use Rattle.encode_laws.specs.ModelBits.{step_bit, cover_bit, model_list}
use Rattle.encode_laws.proofs.Families.{AreFamilies, families_of_routes, routes_of_families, families_of_encoding, encoding_of_families}
use Rattle.encode_laws.proofs.Equations.{Equations, equations_of}
use Rattle.encode_laws.proofs.Routes.{rule_two, rule_three, rule_four, head_covered}
use Rattle.encode_laws.proofs.Walked.{IsWalked, walked_of, steps_agree, covers_agree, tree_of, walk_length}
use Rattle.encode_laws.proofs.Allocated.{HasParts, has_parts, needed_of_resource, resource_of_needed, needed_of_link, link_of_needed, allocation_of}
use Rattle.encode_laws.proofs.Routed.{option_holds, route_model_of}
use Rattle.encode_laws.proofs.ModelBits.{step_reads, cover_reads, design_reads}
use Rattle.spec_model.proofs.Places.{agree_at}

pub same_view : (s : SpecValue) (f : Bits) → IsSameDesign s f (view s f)
same_view s f v l = sym (ap (λ (b : Bool). cond b (f v) false) (lt-ltb v (design_variables s) l))

-- From a model to its design.
module _ (s : SpecValue) (f : Bits) (wf : IsWellFormed s) (families : AreFamilies s f) where
  parts : HasParts s
  parts = has_parts s wf

  equations : (m : ℕ) → m < length s.messages → Equations s f m
  equations m hm = equations_of s f m parts.ends (families.routes m hm)

  pub walked : (m : ℕ) → m < length s.messages → IsWalked s f m
  walked m hm = walked_of s f m parts.ends (equations m hm)

  pub routed_of_families : IsRouted s f
  routed_of_families =
      let has_walk : (m a : ℕ) → m < length s.messages → Uses s f m a → WalkBelow s f m (arc_at s a).tail (message_at s m).limit = λ m a hm u. rule_four s f m parts.ends (equations m hm) a u in
      record {
        bound_once = λ t l. exactly_one f (options_of s t) (All-first (Holds f) _ _ (families.options t l)) (All-second (Holds f) _ _ (families.options t l));
        no_arc_into_sender = λ m a hm u. rule_two s f m parts.ends (equations m hm) a u;
        one_arc_into = λ m r hm hr. rule_three s f m parts.ends (equations m hm) r hr;
        has_walk = has_walk;
        no_dangling = λ m a hm u. (let x = head_covered s f m parts.ends (equations m hm) a u in (equations m hm).goes_on (arc_at s a).head (parts.ends a u.in_range).1 x.0 x.1);
        resource_use = λ r hr. (needed_of_resource s f parts walked r hr (families.allocated.resources r hr), resource_of_needed s f parts walked families.allocated has_walk r hr);
        link_use = λ l hl. (needed_of_link s f parts walked l (families.allocated.links l hl), link_of_needed s f parts walked families.allocated l);
      }

-- a walk is no longer than the hop limit
walk_short : (s : SpecValue) (f : Bits) (m r n : ℕ) → m < length s.messages → IsRouted s f → HasParts s → Walk s f m r n → n ≤ (message_at s m).limit
walk_short s f m r zero hm routed parts w = omega arith
walk_short s f m r (suc n) hm routed parts w =
    let x = routed.has_walk m w.0 hm w.1 in
    omega (arith, x.1, walk_length s f m x.0 n (arc_at s w.0).tail (tree_of s f m hm parts.ends routed) x.2 w.3)

-- The receivers of a message.
module _ (s : SpecValue) (f : Bits) (m w : ℕ) (hm : m < length s.messages) (parts : HasParts s) (routed : IsRouted s f) (walks : IsWalked s f m) where
  -- where the receiver is on a resource, the resource is covered
  abbrev pub IsCovered : Type 0
  IsCovered = (r : ℕ) → IsOn s f w r → f (covered_var s m r) ≡ true

  on_in_range : (r : ℕ) → IsOn s f w r → r < length s.resources
  on_in_range r x = subst (λ (q : ℕ). q < length s.resources) x.on_resource (parts.resources x.choice x.in_range)

  pub covered_of_holds : All (Holds f) (receiver_covered s m w) → IsCovered
  unfolding option_covers of_task
  covered_of_holds h r on =
      let here = All-of_map (Holds f) (option_covers s m) (options_of s w) on.choice h (Contains-those (of_task s w) (length s.options) on.choice on.in_range (eq-eqb _ _ on.of_task)) in
      subst (λ (q : ℕ). f (covered_var s m q) ≡ true) on.on_resource (if_then f on.choice (covered_var s m (option_at s on.choice).resource) here on.chosen)

  pub holds_of_covered : IsCovered → All (Holds f) (receiver_covered s m w)
  unfolding option_covers of_task
  holds_of_covered h =
      All-map (Holds f) (option_covers s m) (options_of s w) (All-those (λ o. Holds f (option_covers s m o)) (of_task s w) (length s.options)
      (λ o l e. from_if_then f o (covered_var s m (option_at s o).resource) (λ c. h (option_at s o).resource
      (record { choice = o; in_range = l; chosen = c; of_task = eqb-true _ _ e; on_resource = refl }))))

  pub reached_of_covered : IsCovered → (r : ℕ) → IsOn s f w r → (n : ℕ) × Walk s f m r n
  reached_of_covered h r on = let x = walks.short_walk r (on_in_range r on) (h r on) in (x.0, x.2)

  pub covered_of_reached : ((r : ℕ) → IsOn s f w r → (n : ℕ) × Walk s f m r n) → IsCovered
  covered_of_reached h r on =
      let x = h r on in
      walks.cover r (on_in_range r on) (x.0, omega (arith, walk_short s f m r x.0 hm routed parts x.1), x.1)

  -- under a model the receiver is out of reach or its resource is covered
  pub covered_of_not_unreached : Contains (message_at s m).receivers w → ¬ IsUnreached s f m w → IsCovered
  covered_of_not_unreached member h r on = at (f (covered_var s m r)) refl
    where
      at : (b : Bool) → f (covered_var s m r) ≡ b → b ≡ true
      at true e = refl
      at false e =
          absurd (h (record {
            receiver = member;
            resource = r;
            on = on;
            no_walk = λ n v. absurd (false≢true
                (sym e ∙ walks.cover r (on_in_range r on) (n, omega (arith, walk_short s f m r n hm routed parts v), v)));
          }))

  pub not_unreached_of_covered : IsCovered → ¬ IsUnreached s f m w
  not_unreached_of_covered h x =
      let n = reached_of_covered h x.resource x.on in
      x.no_walk n.0 n.1

-- From a routed design to its model.
module _ (s : SpecValue) (x : Bits) (wf : IsWellFormed s) (routed : IsRouted s x) where
  pub same_made : IsSameDesign s x (bits_of (model_list s x))
  same_made v l = sym (design_reads s x v l)

  made_parts : HasParts s
  made_parts = has_parts s wf

  pub made_walked : (m : ℕ) → m < length s.messages → IsWalked s (bits_of (model_list s x)) m
  unfolding step_bit cover_bit
  made_walked m hm = record {
    walk = λ r t hr ht e. Walk-along s x (bits_of (model_list s x)) same_made m t r hm (Walk-from_test s x m t r (sym (step_reads s x m r t hm hr ht) ∙ e));
    step = λ r t hr ht w. step_reads s x m r t hm hr ht ∙ walk_test_from s x m t r (Walk-along s (bits_of (model_list s x)) x (same_back s x (bits_of (model_list s x)) same_made) m t r hm w);
    short_walk = λ r hr e. (let y = passes_some (step_bit s x m r) ((message_at s m).limit + 1) (sym (cover_reads s x m r hm hr) ∙ e) in
        (y.0, y.1, Walk-along s x (bits_of (model_list s x)) same_made m y.0 r hm (Walk-from_test s x m y.0 r y.2)));
    cover = λ r hr w. cover_reads s x m r hm hr ∙ some_passes_from (step_bit s x m r) ((message_at s m).limit + 1) w.0 w.1
        (walk_test_from s x m w.0 r (Walk-along s (bits_of (model_list s x)) x (same_back s x (bits_of (model_list s x)) same_made) m w.0 r hm w.2));
  }

  pub made_routed : IsRouted s (bits_of (model_list s x))
  made_routed = IsRouted-along s x (bits_of (model_list s x)) same_made routed

  pub made_families : AreFamilies s (bits_of (model_list s x))
  made_families = record {
    options = λ t l. option_holds s (bits_of (model_list s x)) t (made_routed.bound_once t l);
    routes = λ m hm. route_model_of s (bits_of (model_list s x)) m hm made_parts made_routed (made_walked m hm);
    allocated = allocation_of s (bits_of (model_list s x)) made_parts made_walked made_routed;
  }

  -- another model of the design is the same
  pub only_made : (g : Bits) → AreFamilies s g → IsSameDesign s g x → (v : ℕ) → v < all_variables s → g v ≡ bits_of (model_list s x) v
  unfolding all_variables base
  only_made g families same v l =
      agree_at s g (bits_of (model_list s x))
      (λ u k. same u k ∙ same_made u k)
      (λ m r t hm hr ht. steps_agree s g (bits_of (model_list s x)) m hm (λ u k. same u k ∙ same_made u k) (walked s g wf families m hm) (made_walked m hm) r t hr ht)
      (λ m r hm hr. covers_agree s g (bits_of (model_list s x)) m hm (λ u k. same u k ∙ same_made u k) (walked s g wf families m hm) (made_walked m hm) r hr)
      v (omega (arith, l, ap (sum_by (further s)) (take_all (length s.messages) s.messages (omega arith))))

  pub only_route_model : IsOnlyModel s (route_encoding s) x (bits_of (model_list s x))
  only_route_model = record {
    holds = routes_of_families s (bits_of (model_list s x)) made_families;
    same = same_back s x (bits_of (model_list s x)) same_made;
    only = λ g h same. only_made g (families_of_routes s g h) same;
  }

  -- a receiver that is reached is covered
  made_covered : (m w : ℕ) → m < length s.messages → ((r : ℕ) → IsOn s x w r → (n : ℕ) × Walk s x m r n) → All (Holds (bits_of (model_list s x))) (receiver_covered s m w)
  made_covered m w hm reached =
      holds_of_covered s (bits_of (model_list s x)) m w hm made_parts made_routed (made_walked m hm)
      (covered_of_reached s (bits_of (model_list s x)) m w hm made_parts made_routed (made_walked m hm)
      (λ r on. reached_along s x (bits_of (model_list s x)) same_made m w r hm (reached r) on))

  -- a design that reaches its receivers has one model
  pub only_model : ((m w : ℕ) → m < length s.messages → Contains (message_at s m).receivers w → (r : ℕ) → IsOn s x w r → (n : ℕ) × Walk s x m r n)
      → IsOnlyModel s (encoding s) x (bits_of (model_list s x))
  only_model reached = record {
    holds = encoding_of_families s (bits_of (model_list s x)) made_families (λ m hm. All-pieces_of (Holds (bits_of (model_list s x))) (receiver_covered s m) (message_at s m).receivers
        (λ k d l. made_covered m (get_or (message_at s m).receivers k d) hm (reached m (get_or (message_at s m).receivers k d) hm (All-contains_itself (message_at s m).receivers k d l))));
    same = same_back s x (bits_of (model_list s x)) same_made;
    only = λ g h same. only_made g (families_of_encoding s g h).0 same;
  }

pub models_are_routed : ModelsAreRouted
models_are_routed s f wf h = IsRouted-along s f (view s f) (same_view s f) (routed_of_families s f wf (families_of_routes s f h))

pub routed_are_models : RoutedAreModels
routed_are_models s f wf routed = record { model = bits_of (model_list s f); only = only_route_model s f wf routed }

pub covered_are_reached : CoveredAreReached
covered_are_reached s f m w wf h hm member =
    let families = families_of_routes s f h in
    let routed = routed_of_families s f wf families in
    let walks = walked s f wf families m hm in
    let there = has_parts s wf in (
      λ holds unreached. not_unreached_of_covered s f m w hm there routed walks (covered_of_holds s f m w hm there routed walks holds)
          (IsUnreached-along s (view s f) f (same_back s f (view s f) (same_view s f)) m w hm unreached),
      λ reached. holds_of_covered s f m w hm there routed walks (covered_of_not_unreached s f m w hm there routed walks member
          (λ unreached. reached (IsUnreached-along s f (view s f) (same_view s f) m w hm unreached))),
    )

-- a model of the whole encoding is a valid design
pub valid_of_model : (s : SpecValue) (f : Bits) → IsWellFormed s → IsModel (encoding s) f → IsValid s f
valid_of_model s f wf h =
    let both = families_of_encoding s f h in
    let routed = routed_of_families s f wf both.0 in
    let there = has_parts s wf in
    record {
      routed = routed;
      reached = λ m w r hm member on. (let walks = walked s f wf both.0 m hm in
          reached_of_covered s f m w hm there routed walks (covered_of_holds s f m w hm there routed walks
          (All-piece_of (Holds f) (receiver_covered s m) (message_at s m).receivers w (both.1 m hm) member)) r on);
    }

pub models_are_valid : ModelsAreValid
models_are_valid s f wf h = IsValid-along s f (view s f) (same_view s f) (valid_of_model s f wf h)

-- each valid design is the view of exactly one model
pub valid_are_models : ValidAreModels
valid_are_models s f wf valid =
    record { model = bits_of (model_list s f); only = only_model s f wf valid.routed (λ m w hm member r on. valid.reached m w r hm member on) }
