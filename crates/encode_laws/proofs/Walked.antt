-- The steps and covers of a model are the walks of its design.
use Rattle.std.specs.Cmp.{both_ways}
use Rattle.std.proofs.Common.{◌≡◌, ℕ, zero, suc, ◌+◌, ◌<◌, ◌≤◌, true, length, refl, sym, ap, ◌∙◌, subst, arith}
use Rattle.spec_model.specs.Spec.{SpecValue, Bits, message_at, arc_at, step_var, covered_var}
use Rattle.spec_model.specs.Rules.{IsOn, Uses, Walk, WalkBelow, sender_of}
use Rattle.spec_model.specs.Genotypes.{IsSameDesign}
use Rattle.spec_model.proofs.Once.{Uses-same}
use Rattle.spec_model.proofs.Along.{Walk-along, WalkBelow-along, same_back}
use Rattle.spec_model.specs.Rules.{IsRouted}
use Rattle.encode_laws.proofs.Equations.{Equations, HasEnds}
use Rattle.encode_laws.proofs.Routes.{walk_of, step_of, some_step, covered_of}

-- a resource is reached at the lengths of the walks to it, and covered where there is one
pub record IsWalked (s : SpecValue) (f : Bits) (m : ℕ) : Type 0 where
  pub walk : (r t : ℕ) → r < length s.resources → t ≤ (message_at s m).limit → f (step_var s m r t) ≡ true → Walk s f m r t
  pub step : (r t : ℕ) → r < length s.resources → t ≤ (message_at s m).limit → Walk s f m r t → f (step_var s m r t) ≡ true
  pub short_walk : (r : ℕ) → r < length s.resources → f (covered_var s m r) ≡ true → WalkBelow s f m r ((message_at s m).limit + 1)
  pub cover : (r : ℕ) → r < length s.resources → WalkBelow s f m r ((message_at s m).limit + 1) → f (covered_var s m r) ≡ true

pub walked_of : (s : SpecValue) (f : Bits) (m : ℕ) → HasEnds s → Equations s f m → IsWalked s f m
walked_of s f m ends eqs = record {
  walk = λ r t hr ht e. walk_of s f m ends eqs t r hr ht e;
  step = λ r t hr ht w. step_of s f m ends eqs t r hr ht w;
  short_walk = λ r hr c. (let x = some_step s f m ends eqs r hr c in (x.0, x.1, walk_of s f m ends eqs x.0 r hr (omega (arith, x.1)) x.2));
  cover = λ r hr w. covered_of s f m ends eqs r w.0 hr (omega (arith, w.1)) (step_of s f m ends eqs w.0 r hr (omega (arith, w.1)) w.2);
}

-- two models of one design agree
module _ (s : SpecValue) (f g : Bits) (m : ℕ) (hm : m < length s.messages) (h : IsSameDesign s f g) (wf : IsWalked s f m) (wg : IsWalked s g m) where
  pub steps_agree : (r t : ℕ) → r < length s.resources → t ≤ (message_at s m).limit → f (step_var s m r t) ≡ g (step_var s m r t)
  steps_agree r t hr ht =
      both_ways _ _
      (λ e. wg.step r t hr ht (Walk-along s f g h m t r hm (wf.walk r t hr ht e)))
      (λ e. wf.step r t hr ht (Walk-along s g f (same_back s f g h) m t r hm (wg.walk r t hr ht e)))

  pub covers_agree : (r : ℕ) → r < length s.resources → f (covered_var s m r) ≡ g (covered_var s m r)
  covers_agree r hr =
      both_ways _ _
      (λ e. wg.cover r hr (WalkBelow-along s f g h m r ((message_at s m).limit + 1) hm (wf.short_walk r hr e)))
      (λ e. wf.cover r hr (WalkBelow-along s g f (same_back s f g h) m r ((message_at s m).limit + 1) hm (wg.short_walk r hr e)))

-- the used arcs of a message form a tree
pub record IsTree (s : SpecValue) (f : Bits) (m : ℕ) : Type 0 where
  pub not_into_sender : (a : ℕ) → Uses s f m a → ¬ IsOn s f (sender_of s m) (arc_at s a).head
  pub one_into : (a b : ℕ) → Uses s f m a → Uses s f m b → (arc_at s a).head ≡ (arc_at s b).head → a ≡ b

pub tree_of : (s : SpecValue) (f : Bits) (m : ℕ) → m < length s.messages → HasEnds s → IsRouted s f → IsTree s f m
tree_of s f m hm ends routed = record {
  not_into_sender = λ a u. routed.no_arc_into_sender m a hm u;
  one_into = λ a b u v e. Uses-same s f m (arc_at s b).head a b (routed.one_arc_into m (arc_at s b).head hm (ends b v.in_range).1) u e v refl;
}

-- in a tree all walks to a resource have one length
pub walk_length : (s : SpecValue) (f : Bits) (m i j r : ℕ) → IsTree s f m → Walk s f m r i → Walk s f m r j → i ≡ j
walk_length s f m zero zero r tree v w = refl
walk_length s f m zero (suc j) r tree v w = absurd (tree.not_into_sender w.0 w.1 (subst (λ (q : ℕ). IsOn s f (sender_of s m) q) (sym w.2) v))
walk_length s f m (suc i) zero r tree v w = absurd (tree.not_into_sender v.0 v.1 (subst (λ (q : ℕ). IsOn s f (sender_of s m) q) (sym v.2) w))
walk_length s f m (suc i) (suc j) r tree v w =
    let same = tree.one_into v.0 w.0 v.1 w.1 (v.2 ∙ sym w.2) in
    ap suc (walk_length s f m i j (arc_at s w.0).tail tree (subst (λ (a : ℕ). Walk s f m (arc_at s a).tail i) same v.3) w.3)
