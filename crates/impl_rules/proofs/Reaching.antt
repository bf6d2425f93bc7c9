-- Where each used arc has a walk to its tail, a resource is reached where the sender is on it or a used arc goes into it.
use Rattle.std.proofs.Common.{◌≡◌, ℕ, zero, suc, Bool, true, length, sym, ◌∙◌}
use Rattle.std.specs.Prelude.{Option, Some, None, is_some, ◌↔◌}
use Rattle.std.proofs.lemmas.Bool.{false≢true}
use Rattle.spec_model.specs.Spec.{SpecValue, Bits}
use Rattle.spec_model.specs.Rules.{IsOn, Walk, EntersAt, sender_of}
use Rattle.impl_rules.specs.Least.{AllBelow, IsFirst}
use Rattle.impl_rules.specs.Routes.{MeetsAt, IsReached, EntersNot}
use Rattle.impl_rules.specs.declared.routes.RouteRule.TheVariants.{ShortWalk}

no_walk : (s : SpecValue) (f : Bits) (m r n : ℕ) → ¬ IsOn s f (sender_of s m) r → AllBelow (EntersNot s f m r) (length s.arcs) → ¬ Walk s f m r n
no_walk s f m r zero off none w = off w
no_walk s f m r (suc n) off none w = none w.0 w.1.in_range (record { used = w.1; into = w.2 })

pub reached_by : (s : SpecValue) (f : Bits) (m r : ℕ) (found : Option ℕ) (answer : Bool) → ¬ IsOn s f (sender_of s m) r → AllBelow (MeetsAt s f ShortWalk m) (length s.arcs)
    → IsFirst (EntersAt s f m r) (EntersNot s f m r) (length s.arcs) found → answer ≡ is_some found → (answer ≡ true) ↔ IsReached s f m r
reached_by s f m r (Some a) answer off walks first is = (
  λ e. let w = walks a first.0 first.1.used in record { hops = suc w.0; walk = (a, first.1.used, first.1.into, w.2) },
  λ x. is,
)
reached_by s f m r None answer off walks first is =
    (λ e. absurd (false≢true (sym is ∙ e)), λ x. absurd (no_walk s f m r x.hops off first x.walk))
