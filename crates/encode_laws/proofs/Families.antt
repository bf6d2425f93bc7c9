-- The lists of the encoding, family by family.
use Rattle.std.proofs.Common.{ℕ, ◌<◌, List, ◌++◌, length}
use Rattle.std.specs.Prelude.{map, All}
use Rattle.std.specs.List.{flat_map}
use Rattle.std.proofs.lemmas.List.Elements.{All-append}
use Rattle.plain_lists.proofs.Joined.{All-right}
use Rattle.pb_rules.specs.Linear.{Holds, IsModel}
use Rattle.spec_model.specs.Spec.{SpecValue, Bits, below}
use Rattle.spec_model.proofs.Joined.{All-left, All-piece, All-pieces, All-one, All-ones}
use Rattle.encode_model.specs.Encoding.{one_option, sender_start, receivers_covered, covered_once, one_arc_in, arc_carries, steps_have_cause, no_dangling, routes_of, route_part, message_part, options_chosen, messages_of, resources_of, option_allocates, cover_allocates, covers_allocate, resource_has_use, arc_allocates, arcs_allocate, link_has_use, allocation, encoding, route_encoding}

-- the families of a message but for receivers covered
pub record IsRouteModel (s : SpecValue) (f : Bits) (m : ℕ) : Type 0 where
  pub starts : (r : ℕ) → r < length s.resources → All (Holds f) (sender_start s m r)
  pub covers : (r : ℕ) → r < length s.resources → All (Holds f) (covered_once s m r)
  pub arcs_in : (r : ℕ) → r < length s.resources → All (Holds f) (one_arc_in s m r)
  pub carried : (a : ℕ) → a < length s.arcs → All (Holds f) (arc_carries s m a)
  pub caused : (r : ℕ) → r < length s.resources → All (Holds f) (steps_have_cause s m r)
  pub ends : (r : ℕ) → r < length s.resources → All (Holds f) (no_dangling s m r)

pub record IsAllocationModel (s : SpecValue) (f : Bits) : Type 0 where
  pub options : (o : ℕ) → o < length s.options → Holds f (option_allocates s o)
  pub covers : (m r : ℕ) → m < length s.messages → r < length s.resources → Holds f (cover_allocates s m r)
  pub resources : (r : ℕ) → r < length s.resources → Holds f (resource_has_use s r)
  pub arcs : (m a : ℕ) → m < length s.messages → a < length s.arcs → Holds f (arc_allocates s m a)
  pub links : (l : ℕ) → l < length s.links → Holds f (link_has_use s l)

-- all families but receivers covered
pub record AreFamilies (s : SpecValue) (f : Bits) : Type 0 where
  pub options : (t : ℕ) → t < length s.tasks → All (Holds f) (one_option s t)
  pub routes : (m : ℕ) → m < length s.messages → IsRouteModel s f m
  pub allocated : IsAllocationModel s f

-- five lists, end to end
pub record Five {X : Type 0} (P : X → Type 0) (a b c d e : List X) : Type 0 where
  pub first : All P a
  pub second : All P b
  pub third : All P c
  pub fourth : All P d
  pub fifth : All P e

five : {X : Type 0} (P : X → Type 0) (a b c d e : List X) → All P (a ++ b ++ c ++ d ++ e) → Five P a b c d e
five P a b c d e all =
    let four = All-left P (a ++ b ++ c ++ d) e all in
    let three = All-left P (a ++ b ++ c) d four in
    let two = All-left P (a ++ b) c three in
    record {
      first = All-left P a b two;
      second = All-right P a b two;
      third = All-right P (a ++ b) c three;
      fourth = All-right P (a ++ b ++ c) d four;
      fifth = All-right P (a ++ b ++ c ++ d) e all;
    }

from_five : {X : Type 0} (P : X → Type 0) (a b c d e : List X) → Five P a b c d e → All P (a ++ b ++ c ++ d ++ e)
from_five P a b c d e h =
    All-append P (a ++ b ++ c ++ d) e (All-append P (a ++ b ++ c) d (All-append P (a ++ b) c (All-append P a b h.first h.second) h.third) h.fourth) h.fifth

three_of : {X : Type 0} (P : X → Type 0) (a b c : List X) → All P (a ++ b ++ c) → All P a × All P b × All P c
three_of P a b c all =
    let two = All-left P (a ++ b) c all in
    (All-left P a b two, All-right P a b two, All-right P (a ++ b) c all)

from_three : {X : Type 0} (P : X → Type 0) (a b c : List X) → All P a → All P b → All P c → All P (a ++ b ++ c)
from_three P a b c ha hb hc = All-append P (a ++ b) c (All-append P a b ha hb) hc

module _ (s : SpecValue) (f : Bits) where
  route_model : (m : ℕ) → All (Holds f) (flat_map (sender_start s m) (resources_of s)) → All (Holds f) (routes_of s m) → IsRouteModel s f m
  route_model m starts routes =
      let parts = five (Holds f) (flat_map (covered_once s m) (resources_of s)) (flat_map (one_arc_in s m) (resources_of s)) (flat_map (arc_carries s m) (below (length s.arcs)))
      (flat_map (steps_have_cause s m) (resources_of s)) (flat_map (no_dangling s m) (resources_of s)) routes in
      record {
        starts = λ r h. All-piece (Holds f) (sender_start s m) (length s.resources) r starts h;
        covers = λ r h. All-piece (Holds f) (covered_once s m) (length s.resources) r parts.first h;
        arcs_in = λ r h. All-piece (Holds f) (one_arc_in s m) (length s.resources) r parts.second h;
        carried = λ a h. All-piece (Holds f) (arc_carries s m) (length s.arcs) a parts.third h;
        caused = λ r h. All-piece (Holds f) (steps_have_cause s m) (length s.resources) r parts.fourth h;
        ends = λ r h. All-piece (Holds f) (no_dangling s m) (length s.resources) r parts.fifth h;
      }

  starts_hold : (m : ℕ) → IsRouteModel s f m → All (Holds f) (flat_map (sender_start s m) (resources_of s))
  starts_hold m h = All-pieces (Holds f) (sender_start s m) (length s.resources) h.starts

  routes_hold : (m : ℕ) → IsRouteModel s f m → All (Holds f) (routes_of s m)
  routes_hold m h =
      from_five (Holds f) (flat_map (covered_once s m) (resources_of s)) (flat_map (one_arc_in s m) (resources_of s)) (flat_map (arc_carries s m) (below (length s.arcs)))
      (flat_map (steps_have_cause s m) (resources_of s)) (flat_map (no_dangling s m) (resources_of s)) (record {
        first = All-pieces (Holds f) (covered_once s m) (length s.resources) h.covers;
        second = All-pieces (Holds f) (one_arc_in s m) (length s.resources) h.arcs_in;
        third = All-pieces (Holds f) (arc_carries s m) (length s.arcs) h.carried;
        fourth = All-pieces (Holds f) (steps_have_cause s m) (length s.resources) h.caused;
        fifth = All-pieces (Holds f) (no_dangling s m) (length s.resources) h.ends;
      })

  allocation_model : All (Holds f) (allocation s) → IsAllocationModel s f
  allocation_model h =
      let parts = five (Holds f) (map (option_allocates s) (below (length s.options))) (flat_map (covers_allocate s) (messages_of s)) (map (resource_has_use s) (resources_of s))
      (flat_map (arcs_allocate s) (messages_of s)) (map (link_has_use s) (below (length s.links))) h in
      record {
        options = λ o l. All-one (Holds f) (option_allocates s) (length s.options) o parts.first l;
        covers = λ m r hm hr. All-one (Holds f) (cover_allocates s m) (length s.resources) r (All-piece (Holds f) (covers_allocate s) (length s.messages) m parts.second hm) hr;
        resources = λ r l. All-one (Holds f) (resource_has_use s) (length s.resources) r parts.third l;
        arcs = λ m a hm ha. All-one (Holds f) (arc_allocates s m) (length s.arcs) a (All-piece (Holds f) (arcs_allocate s) (length s.messages) m parts.fourth hm) ha;
        links = λ r l. All-one (Holds f) (link_has_use s) (length s.links) r parts.fifth l;
      }

  allocation_holds : IsAllocationModel s f → All (Holds f) (allocation s)
  allocation_holds h =
      from_five (Holds f) (map (option_allocates s) (below (length s.options))) (flat_map (covers_allocate s) (messages_of s)) (map (resource_has_use s) (resources_of s))
      (flat_map (arcs_allocate s) (messages_of s)) (map (link_has_use s) (below (length s.links))) (record {
        first = All-ones (Holds f) (option_allocates s) (length s.options) h.options;
        second = All-pieces (Holds f) (covers_allocate s) (length s.messages) (λ m hm. All-ones (Holds f) (cover_allocates s m) (length s.resources) (λ r hr. h.covers m r hm hr));
        third = All-ones (Holds f) (resource_has_use s) (length s.resources) h.resources;
        fourth = All-pieces (Holds f) (arcs_allocate s) (length s.messages) (λ m hm. All-ones (Holds f) (arc_allocates s m) (length s.arcs) (λ a ha. h.arcs m a hm ha));
        fifth = All-ones (Holds f) (link_has_use s) (length s.links) h.links;
      })

  pub families_of_routes : IsModel (route_encoding s) f → AreFamilies s f
  unfolding route_encoding
  families_of_routes h =
      let parts = three_of (Holds f) (options_chosen s) (flat_map (route_part s) (messages_of s)) (allocation s) h in
      record {
        options = λ t l. All-piece (Holds f) (one_option s) (length s.tasks) t parts.0 l;
        routes = λ m l. (let part = All-piece (Holds f) (route_part s) (length s.messages) m parts.1 l in
            route_model m (All-left (Holds f) (flat_map (sender_start s m) (resources_of s)) (routes_of s m) part)
            (All-right (Holds f) (flat_map (sender_start s m) (resources_of s)) (routes_of s m) part));
        allocated = allocation_model parts.2;
      }

  pub routes_of_families : AreFamilies s f → IsModel (route_encoding s) f
  unfolding route_encoding
  routes_of_families h =
      from_three (Holds f) (options_chosen s) (flat_map (route_part s) (messages_of s)) (allocation s)
      (All-pieces (Holds f) (one_option s) (length s.tasks) h.options)
      (All-pieces (Holds f) (route_part s) (length s.messages) (λ m l. All-append (Holds f) (flat_map (sender_start s m) (resources_of s)) (routes_of s m) (starts_hold m (h.routes m l))
      (routes_hold m (h.routes m l))))
      (allocation_holds h.allocated)

  -- the receivers of each message are covered
  abbrev pub AreCovered : Type 0
  AreCovered = (m : ℕ) → m < length s.messages → All (Holds f) (receivers_covered s m)

  pub families_of_encoding : IsModel (encoding s) f → AreFamilies s f × AreCovered
  unfolding encoding
  families_of_encoding h =
      let parts = three_of (Holds f) (options_chosen s) (flat_map (message_part s) (messages_of s)) (allocation s) h in
      let of_message : (m : ℕ) → m < length s.messages → All (Holds f) (flat_map (sender_start s m) (resources_of s)) × All (Holds f) (receivers_covered s m) × All (Holds f) (routes_of s m) =
      λ m l. three_of (Holds f) (flat_map (sender_start s m) (resources_of s)) (receivers_covered s m) (routes_of s m) (All-piece (Holds f) (message_part s) (length s.messages) m parts.1 l) in (
        record {
          options = λ t l. All-piece (Holds f) (one_option s) (length s.tasks) t parts.0 l;
          routes = λ m l. route_model m (of_message m l).0 (of_message m l).2;
          allocated = allocation_model parts.2;
        },
        λ m l. (of_message m l).1,
      )

  pub encoding_of_families : AreFamilies s f → AreCovered → IsModel (encoding s) f
  unfolding encoding
  encoding_of_families h c =
      from_three (Holds f) (options_chosen s) (flat_map (message_part s) (messages_of s)) (allocation s)
      (All-pieces (Holds f) (one_option s) (length s.tasks) h.options)
      (All-pieces (Holds f) (message_part s) (length s.messages) (λ m l. from_three (Holds f) (flat_map (sender_start s m) (resources_of s)) (receivers_covered s m) (routes_of s m)
      (starts_hold m (h.routes m l)) (c m l) (routes_hold m (h.routes m l))))
      (allocation_holds h.allocated)
