-- Which rule a design breaks, where, and which broken rule is named.
use Rattle.std.specs.Prelude.{◌≡◌, ℕ, ◌<◌, ◌⊎◌, length}
use Rattle.spec_model.specs.Spec.{SpecValue, Bits}
use Rattle.spec_model.specs.Rules.{IsUnbound, EntersSender, IsCrowded, IsStray, IsUnreached, IsDangling, IsMisused, IsMiswired}
use Rattle.impl_rules.specs.Routes.{AllBoundOnce}
use Rattle.impl_rules.specs.declared.rules.Rule.{Rule}
use Rattle.impl_rules.specs.declared.rules.Rule.TheVariants.{NotBoundOnce, ArcIntoSender, TwoArcsInto, NoWalk, NotReached, Dangling, ResourceUse, LinkUse}

-- the design breaks the rule at its place; the rules after the first are looked at only where it is met by every task
abbrev pub DesignBreaks : SpecValue → Bits → Rule → Type 0
DesignBreaks s f (NotBoundOnce t) = IsUnbound s f t.0
DesignBreaks s f (ArcIntoSender m a) = AllBoundOnce s f × (m.0 < length s.messages) × EntersSender s f m.0 a.0
DesignBreaks s f (TwoArcsInto m r) = AllBoundOnce s f × (m.0 < length s.messages) × IsCrowded s f m.0 r.0
DesignBreaks s f (NoWalk m a) = AllBoundOnce s f × (m.0 < length s.messages) × IsStray s f m.0 a.0
DesignBreaks s f (NotReached m w) = AllBoundOnce s f × (m.0 < length s.messages) × IsUnreached s f m.0 w.0
DesignBreaks s f (Dangling m a) = AllBoundOnce s f × (m.0 < length s.messages) × IsDangling s f m.0 a.0
DesignBreaks s f (ResourceUse r) = AllBoundOnce s f × IsMisused s f r.0
DesignBreaks s f (LinkUse l) = AllBoundOnce s f × IsMiswired s f l.0

-- the number of a rule
abbrev pub rule_number : Rule → ℕ
rule_number (NotBoundOnce t) = 1
rule_number (ArcIntoSender m a) = 2
rule_number (TwoArcsInto m r) = 3
rule_number (NoWalk m a) = 4
rule_number (NotReached m w) = 5
rule_number (Dangling m a) = 6
rule_number (ResourceUse r) = 7
rule_number (LinkUse l) = 8

-- the message at which a rule is broken, 0 where it isn't about messages
abbrev pub rule_message : Rule → ℕ
rule_message (NotBoundOnce t) = 0
rule_message (ArcIntoSender m a) = m.0
rule_message (TwoArcsInto m r) = m.0
rule_message (NoWalk m a) = m.0
rule_message (NotReached m w) = m.0
rule_message (Dangling m a) = m.0
rule_message (ResourceUse r) = 0
rule_message (LinkUse l) = 0

-- the number of the task, arc, resource or link
abbrev pub rule_place : Rule → ℕ
rule_place (NotBoundOnce t) = t.0
rule_place (ArcIntoSender m a) = a.0
rule_place (TwoArcsInto m r) = r.0
rule_place (NoWalk m a) = a.0
rule_place (NotReached m w) = w.0
rule_place (Dangling m a) = a.0
rule_place (ResourceUse r) = r.0
rule_place (LinkUse l) = l.0

-- x is named before y: by the number of the rule, then by the message, then by the place
abbrev pub IsNamedBefore : Rule → Rule → Type 0
IsNamedBefore x y =
    (rule_number x < rule_number y)
    ⊎ ((rule_number x ≡ rule_number y) × ((rule_message x < rule_message y) ⊎ ((rule_message x ≡ rule_message y) × (rule_place x < rule_place y))))

-- the design breaks the rule, and none that is named before it
pub record IsFirstBroken (s : SpecValue) (f : Bits) (rule : Rule) : Type 0 where
  pub broken : DesignBreaks s f rule
  pub none_before : (other : Rule) → IsNamedBefore other rule → ¬ DesignBreaks s f other
