-- The allocation rules, met at a resource or a link.
use Rattle.std.specs.Prelude.{◌≡◌, ℕ, ◌<◌, ◌↔◌, true, length}
use Rattle.spec_model.specs.Spec.{SpecValue, Bits, resource_var, link_var}
use Rattle.spec_model.specs.Rules.{Uses, IsResourceNeeded, IsLinkNeeded}

-- some message uses the arc
pub record IsCarried (s : SpecValue) (f : Bits) (a : ℕ) : Type 0 where
  pub message : ℕ
  pub in_range : message < length s.messages
  pub used : Uses s f message a

-- the resource is allocated exactly where it is needed
abbrev pub IsUsedRightly : SpecValue → Bits → ℕ → Type 0
IsUsedRightly s f r = (f (resource_var s r) ≡ true) ↔ IsResourceNeeded s f r

-- the link is allocated exactly where it is needed
abbrev pub IsWiredRightly : SpecValue → Bits → ℕ → Type 0
IsWiredRightly s f l = (f (link_var s l) ≡ true) ↔ IsLinkNeeded s f l
