-- What a search has ruled out at a place, over plain variables.
use Rattle.std.proofs.Common.{◌≡◌, ℕ, true, ◌⊎◌}
use Rattle.std.specs.Prelude.{Contains}
use Rattle.spec_model.specs.Spec.{SpecValue, Bits, arc_at, option_at, message_at}
use Rattle.spec_model.specs.Rules.{Uses}
use Rattle.impl_rules.specs.Allocation.{IsCarried}

-- the message doesn't use the arc, or it leaves another resource
abbrev pub LeavesNot : SpecValue → Bits → ℕ → ℕ → ℕ → Type 0
LeavesNot s f m r a = Uses s f m a → (arc_at s a).tail ≡ r → ⊥

-- the option isn't chosen, or is on another resource, or of a task that isn't a receiver
abbrev pub ReceivesNot : SpecValue → Bits → ℕ → ℕ → ℕ → Type 0
ReceivesNot s f m r o = f o ≡ true → (option_at s o).resource ≡ r → Contains (message_at s m).receivers (option_at s o).task → ⊥

-- the option isn't chosen, or is on another resource
abbrev pub ChosenNot : SpecValue → Bits → ℕ → ℕ → Type 0
ChosenNot s f r o = f o ≡ true → (option_at s o).resource ≡ r → ⊥

-- the message doesn't use the arc
abbrev pub UsesNot : SpecValue → Bits → ℕ → ℕ → Type 0
UsesNot s f a m = Uses s f m a → ⊥

-- no message uses the arc, or it doesn't touch the resource
abbrev pub PassesNot : SpecValue → Bits → ℕ → ℕ → Type 0
PassesNot s f r a = IsCarried s f a → ((arc_at s a).tail ≡ r) ⊎ ((arc_at s a).head ≡ r) → ⊥

-- no message uses the arc, or it is one of another link
abbrev pub LinksNot : SpecValue → Bits → ℕ → ℕ → Type 0
LinksNot s f l a = IsCarried s f a → (arc_at s a).link ≡ l → ⊥
