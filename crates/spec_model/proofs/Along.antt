-- Validity reads the design variables alone.
use Rattle.std.proofs.Common.{◌≡◌, ℕ, zero, suc, ◌<◌, Bool, true, cond, length, refl, sym, ap, ◌∙◌, arith, inl, inr}
use Rattle.std.specs.Prelude.{◌↔◌}
use Rattle.std.specs.List.{count_by}
use Rattle.std.proofs.lemmas.Nat.{mul-add-lt}
use Rattle.spec_model.specs.Spec.{SpecValue, Bits, those, arc_at, message_at, arc_var, resource_var, link_var, design_variables}
use Rattle.spec_model.specs.Rules.{IsOn, Uses, Walk, WalkBelow, BoundOnce, IsResourceNeeded, IsLinkNeeded, GoesOnFrom, IsRouted, IsValid, IsUnreached, uses_into, arc_bit, goes_into, of_task, sender_of}
use Rattle.spec_model.specs.Genotypes.{IsSameDesign}
use Rattle.spec_model.proofs.Those.{count_by-those_suc}

-- the variable of an arc is a design variable
pub arc_var-lt : (s : SpecValue) (m a : ℕ) → m < length s.messages → a < length s.arcs → arc_var s m a < design_variables s
arc_var-lt s m a hm ha = omega (arith, mul-add-lt m (length s.arcs) a (length s.messages) hm ha)

-- designs are the same either way
pub same_back : (s : SpecValue) (f g : Bits) → IsSameDesign s f g → IsSameDesign s g f
same_back s f g h v l = sym (h v l)

abbrev bit_if : Bool → Bool → ℕ
bit_if a b = cond a (cond b 1 0) 0

pub count-those_agree : (f g p : ℕ → Bool) (n : ℕ) → ((i : ℕ) → i < n → f i ≡ g i) → count_by f (those p n) ≡ count_by g (those p n)
count-those_agree f g p zero h = refl
count-those_agree f g p (suc n) h =
    omega (arith, count_by-those_suc f p n, count_by-those_suc g p n, count-those_agree f g p n (λ i l. h i (omega arith)), ap (λ (b : Bool). bit_if (p n) b) (h n (omega arith)))

module _ (s : SpecValue) (f g : Bits) (h : IsSameDesign s f g) where
  pub BoundOnce-along : (t : ℕ) → BoundOnce s f t → BoundOnce s g t
  BoundOnce-along t once = sym (count-those_agree f g (of_task s t) (length s.options) (λ i l. h i (omega (arith, l)))) ∙ once

  pub IsOn-along : (t r : ℕ) → IsOn s f t r → IsOn s g t r
  IsOn-along t r x = record { choice = x.choice; in_range = x.in_range; chosen = sym (h x.choice (omega (arith, x.in_range))) ∙ x.chosen; of_task = x.of_task; on_resource = x.on_resource }

  pub Uses-along : (m a : ℕ) → m < length s.messages → Uses s f m a → Uses s g m a
  Uses-along m a hm x = record { in_range = x.in_range; bit = sym (h (arc_var s m a) (arc_var-lt s m a hm x.in_range)) ∙ x.bit }

  -- the same design has the same walks,
  pub Walk-along : (m i r : ℕ) → m < length s.messages → Walk s f m r i → Walk s g m r i
  Walk-along m zero r hm w = IsOn-along (sender_of s m) r w
  Walk-along m (suc i) r hm w = (w.0, Uses-along m w.0 hm w.1, w.2, Walk-along m i (arc_at s w.0).tail hm w.3)

  -- the same short walks,
  pub WalkBelow-along : (m r n : ℕ) → m < length s.messages → WalkBelow s f m r n → WalkBelow s g m r n
  WalkBelow-along m r n hm w = (w.0, w.1, Walk-along m w.0 r hm w.2)

  pub uses_into_along : (m r : ℕ) → m < length s.messages → uses_into s f m r ≡ uses_into s g m r
  unfolding uses_into arc_bit
  uses_into_along m r hm = count-those_agree (arc_bit s f m) (arc_bit s g m) (goes_into s r) (length s.arcs) (λ a l. h (arc_var s m a) (arc_var-lt s m a hm l))

  pub GoesOnFrom-along : (m r : ℕ) → m < length s.messages → GoesOnFrom s f m r → GoesOnFrom s g m r
  GoesOnFrom-along m r hm (inl x) = inl (record { arc = x.arc; used = Uses-along m x.arc hm x.used; from = x.from })
  GoesOnFrom-along m r hm (inr x) = inr (x.0, x.1, IsOn-along x.0 r x.2)

  pub IsResourceNeeded-along : (r : ℕ) → IsResourceNeeded s f r → IsResourceNeeded s g r
  IsResourceNeeded-along r (inl x) = inl (record { task = x.task; in_range = x.in_range; on = IsOn-along x.task r x.on })
  IsResourceNeeded-along r (inr x) =
      let t = x.touched in
      inr (record { message = x.message; in_range = x.in_range; touched = record { arc = t.arc; used = Uses-along x.message t.arc x.in_range t.used; at_end = t.at_end } })

  pub IsLinkNeeded-along : (l : ℕ) → IsLinkNeeded s f l → IsLinkNeeded s g l
  IsLinkNeeded-along l x = record { message = x.message; in_range = x.in_range; arc = x.arc; used = Uses-along x.message x.arc x.in_range x.used; of_link = x.of_link }

-- two designs that are the same
module _ (s : SpecValue) (f g : Bits) (h : IsSameDesign s f g) where
  pub into_sender_along : (m a : ℕ) → m < length s.messages → (Uses s f m a → ¬ IsOn s f (sender_of s m) (arc_at s a).head) → Uses s g m a → ¬ IsOn s g (sender_of s m) (arc_at s a).head
  into_sender_along m a hm x u on = x (Uses-along s g f (same_back s f g h) m a hm u) (IsOn-along s g f (same_back s f g h) (sender_of s m) (arc_at s a).head on)

  pub has_walk_along : (m a : ℕ) → m < length s.messages → (Uses s f m a → WalkBelow s f m (arc_at s a).tail (message_at s m).limit) → Uses s g m a
      → WalkBelow s g m (arc_at s a).tail (message_at s m).limit
  has_walk_along m a hm x u = WalkBelow-along s f g h m (arc_at s a).tail (message_at s m).limit hm (x (Uses-along s g f (same_back s f g h) m a hm u))

  pub no_dangling_along : (m a : ℕ) → m < length s.messages → (Uses s f m a → GoesOnFrom s f m (arc_at s a).head) → Uses s g m a → GoesOnFrom s g m (arc_at s a).head
  no_dangling_along m a hm x u = GoesOnFrom-along s f g h m (arc_at s a).head hm (x (Uses-along s g f (same_back s f g h) m a hm u))

  -- reaches the same receivers,
  pub reached_along : (m w r : ℕ) → m < length s.messages → (IsOn s f w r → (n : ℕ) × Walk s f m r n) → IsOn s g w r → (n : ℕ) × Walk s g m r n
  reached_along m w r hm x on =
      let n = x (IsOn-along s g f (same_back s f g h) w r on) in
      (n.0, Walk-along s f g h m n.0 r hm n.1)

  pub resource_use_along : (r : ℕ) → r < length s.resources → ((f (resource_var s r) ≡ true) ↔ IsResourceNeeded s f r) → (g (resource_var s r) ≡ true) ↔ IsResourceNeeded s g r
  resource_use_along r hr x =
      let e = h (resource_var s r) (omega (arith, hr)) in
      (λ b. IsResourceNeeded-along s f g h r (x.0 (e ∙ b)), λ n. sym e ∙ x.1 (IsResourceNeeded-along s g f (same_back s f g h) r n))

  pub link_use_along : (l : ℕ) → l < length s.links → ((f (link_var s l) ≡ true) ↔ IsLinkNeeded s f l) → (g (link_var s l) ≡ true) ↔ IsLinkNeeded s g l
  link_use_along l hl x =
      let e = h (link_var s l) (omega (arith, hl)) in
      (λ b. IsLinkNeeded-along s f g h l (x.0 (e ∙ b)), λ n. sym e ∙ x.1 (IsLinkNeeded-along s g f (same_back s f g h) l n))

  -- is routed where the other one is,
  pub IsRouted-along : IsRouted s f → IsRouted s g
  IsRouted-along x = record {
    bound_once = λ t l. BoundOnce-along s f g h t (x.bound_once t l);
    no_arc_into_sender = λ m a l. into_sender_along m a l (x.no_arc_into_sender m a l);
    one_arc_into = λ m r l hr. omega (arith, x.one_arc_into m r l hr, uses_into_along s f g h m r l);
    has_walk = λ m a l. has_walk_along m a l (x.has_walk m a l);
    no_dangling = λ m a l. no_dangling_along m a l (x.no_dangling m a l);
    resource_use = λ r l. resource_use_along r l (x.resource_use r l);
    link_use = λ r l. link_use_along r l (x.link_use r l);
  }

  -- is valid where it is,
  pub IsValid-along : IsValid s f → IsValid s g
  IsValid-along x = record { routed = IsRouted-along x.routed; reached = λ m w r l member. reached_along m w r l (x.reached m w r l member) }

  -- and leaves the same receivers unreached
  pub IsUnreached-along : (m w : ℕ) → m < length s.messages → IsUnreached s f m w → IsUnreached s g m w
  IsUnreached-along m w hm x = record {
    receiver = x.receiver;
    resource = x.resource;
    on = IsOn-along s f g h w x.resource x.on;
    no_walk = λ n v. x.no_walk n (Walk-along s g f (same_back s f g h) m n x.resource hm v);
  }
