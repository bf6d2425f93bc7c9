-- The routing rules of a message, broken and met at an arc, a resource or a task.
use Rattle.std.specs.Prelude.{ℕ, ◌≤◌, length, Contains}
use Rattle.spec_model.specs.Spec.{SpecValue, Bits, arc_at, message_at}
use Rattle.spec_model.specs.Rules.{BoundOnce, IsOn, Uses, Walk, WalkBelow, GoesOnFrom, EntersAt, EntersSender, IsCrowded, IsStray, IsUnreached, IsDangling, uses_into}
use Rattle.impl_rules.specs.Least.{AllBelow, AllPairsBelow}
use Rattle.impl_rules.specs.declared.routes.RouteRule.{RouteRule}
use Rattle.impl_rules.specs.declared.routes.RouteRule.TheVariants.{NoArcIntoSender, OneArcInto, ShortWalk, Reached, GoesOn}

-- each task has exactly one chosen option
abbrev pub AllBoundOnce : SpecValue → Bits → Type 0
AllBoundOnce s f = AllBelow (BoundOnce s f) (length s.tasks)

-- the message breaks the rule at the arc, resource or task with this number
abbrev pub BreaksAt : SpecValue → Bits → RouteRule → ℕ → ℕ → Type 0
BreaksAt s f NoArcIntoSender = EntersSender s f
BreaksAt s f OneArcInto = IsCrowded s f
BreaksAt s f ShortWalk = IsStray s f
BreaksAt s f Reached = IsUnreached s f
BreaksAt s f GoesOn = IsDangling s f

-- a walk that is short enough leads to the arc's tail
abbrev pub HasWalkTo : SpecValue → Bits → ℕ → ℕ → Type 0
HasWalkTo s f m a = WalkBelow s f m (arc_at s a).tail (message_at s m).limit

-- some walk leads to the resource
pub record IsReached (s : SpecValue) (f : Bits) (m r : ℕ) : Type 0 where
  pub hops : ℕ
  pub walk : Walk s f m r hops

-- the message meets the rule there
abbrev pub MeetsAt : SpecValue → Bits → RouteRule → ℕ → ℕ → Type 0
MeetsAt s f NoArcIntoSender m a = ¬ EntersSender s f m a
MeetsAt s f OneArcInto m r = uses_into s f m r ≤ 1
MeetsAt s f ShortWalk m a = Uses s f m a → HasWalkTo s f m a
MeetsAt s f Reached m w = Contains (message_at s m).receivers w → (r : ℕ) → IsOn s f w r → IsReached s f m r
MeetsAt s f GoesOn m a = Uses s f m a → GoesOnFrom s f m (arc_at s a).head

-- how many arcs, resources or tasks there are for the rule
abbrev pub places : SpecValue → RouteRule → ℕ
places s NoArcIntoSender = length s.arcs
places s OneArcInto = length s.resources
places s ShortWalk = length s.arcs
places s Reached = length s.tasks
places s GoesOn = length s.arcs

-- each message meets the rule everywhere
abbrev pub Meets : SpecValue → Bits → RouteRule → Type 0
Meets s f rule = AllPairsBelow (MeetsAt s f rule) (length s.messages) (places s rule)

-- what has to be known of a message before the rule is looked at
abbrev pub IsReady : SpecValue → Bits → RouteRule → ℕ → Type 0
IsReady s f NoArcIntoSender m = Unit {0}
IsReady s f OneArcInto m = Unit {0}
IsReady s f ShortWalk m = AllBelow (MeetsAt s f OneArcInto m) (length s.resources)
IsReady s f Reached m = AllBelow (MeetsAt s f ShortWalk m) (length s.arcs)
IsReady s f GoesOn m = Unit {0}

-- the message doesn't use the arc, or the arc goes elsewhere
abbrev pub EntersNot : SpecValue → Bits → ℕ → ℕ → ℕ → Type 0
EntersNot s f m r a = ¬ EntersAt s f m r a
