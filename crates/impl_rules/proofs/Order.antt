-- The rules in the order in which they are looked at, by their numbers: which one a design breaks first.
use Rattle.std.proofs.Common.{◌≡◌, ℕ, zero, suc, ◌+◌, ◌<◌, ◌⊎◌, inl, inr, sym, subst, arith, length, below_more}
use Rattle.std.specs.Prelude.{◌↔◌, Contains, IsNone, Some}
use Rattle.std.proofs.lemmas.Bool.{false≢true}
use Rattle.spec_model.specs.Spec.{SpecValue, Bits, message_at}
use Rattle.spec_model.specs.Rules.{BoundOnce, IsUnbound, IsMisused, IsMiswired, IsValid}
use Rattle.spec_model.specs.WellFormed.{IsWellFormed}
use Rattle.std.proofs.lemmas.List.Elements.{All-contains}
use Rattle.spec_model.proofs.InRange.{message_in}
use Rattle.spec_graph.specs.declared.numbers.TaskNo.{TaskNo}
use Rattle.spec_graph.specs.declared.numbers.MsgNo.{MsgNo}
use Rattle.spec_graph.specs.declared.numbers.ResNo.{ResNo}
use Rattle.spec_graph.specs.declared.numbers.ArcNo.{ArcNo}
use Rattle.spec_graph.specs.declared.numbers.LinkNo.{LinkNo}
use Rattle.impl_rules.specs.Least.{AllBelow, AllPairsBelow, IsFirst, IsFirstPair}
use Rattle.impl_rules.specs.Routes.{AllBoundOnce, BreaksAt, MeetsAt, Meets, places}
use Rattle.impl_rules.specs.Allocation.{IsUsedRightly, IsWiredRightly}
use Rattle.impl_rules.specs.Broken.{DesignBreaks, IsFirstBroken, rule_number, rule_message, rule_place}
use Rattle.impl_rules.specs.declared.routes.RouteRule.{RouteRule}
use Rattle.impl_rules.specs.declared.routes.RouteRule.TheVariants.{NoArcIntoSender, OneArcInto, ShortWalk, Reached, GoesOn}
use Rattle.impl_rules.specs.declared.rules.Rule.{Rule}
use Rattle.impl_rules.specs.declared.rules.Rule.TheVariants.{NotBoundOnce, ArcIntoSender, TwoArcsInto, NoWalk, NotReached, Dangling, ResourceUse, LinkUse}

-- a routing rule is met at a message and a place that there are
abbrev pub IsMetAt : SpecValue → Bits → RouteRule → ℕ → ℕ → Type 0
IsMetAt s f rule m x = m < length s.messages → x < places s rule → MeetsAt s f rule m x

-- the rule with a number is met at a message and a place
abbrev pub IsMet : SpecValue → Bits → ℕ → ℕ → ℕ → Type 0
IsMet s f zero m x = Unit {0}
IsMet s f (suc zero) m x = x < length s.tasks → BoundOnce s f x
IsMet s f (suc (suc zero)) m x = IsMetAt s f NoArcIntoSender m x
IsMet s f (suc (suc (suc zero))) m x = IsMetAt s f OneArcInto m x
IsMet s f (suc (suc (suc (suc zero)))) m x = IsMetAt s f ShortWalk m x
IsMet s f (suc (suc (suc (suc (suc zero))))) m x = IsMetAt s f Reached m x
IsMet s f (suc (suc (suc (suc (suc (suc zero)))))) m x = IsMetAt s f GoesOn m x
IsMet s f (suc (suc (suc (suc (suc (suc (suc zero))))))) m x = x < length s.resources → IsUsedRightly s f x
IsMet s f (suc (suc (suc (suc (suc (suc (suc (suc n)))))))) m x = x < length s.links → IsWiredRightly s f x

-- the rules with numbers below n are met everywhere
abbrev pub AreMetBelow : SpecValue → Bits → ℕ → Type 0
AreMetBelow s f n = (k : ℕ) → k < n → (m x : ℕ) → IsMet s f k m x

-- a search has found the first message and place at which a routing rule is broken
abbrev pub IsFirstAt : SpecValue → Bits → RouteRule → ℕ → ℕ → Type 0
IsFirstAt s f rule m x = IsFirstPair (BreaksAt s f rule) (MeetsAt s f rule) (length s.messages) (places s rule) (Some (m, x))

-- the first message and place come before the second ones
abbrev IsEarlier : ℕ → ℕ → ℕ → ℕ → Type 0
IsEarlier m x n y = (m < n) ⊎ ((m ≡ n) × (x < y))

receiver_in : (s : SpecValue) (m w : ℕ) → IsWellFormed s → m < length s.messages → Contains (message_at s m).receivers w → w < length s.tasks
receiver_in s m w facts l there = All-contains (λ (t : ℕ). t < length s.tasks) (message_at s m).receivers w (message_in s m facts l).receivers there

-- a rule that is broken at a place isn't met there
refuted : (s : SpecValue) (f : Bits) (rule : Rule) → IsWellFormed s → DesignBreaks s f rule → ¬ IsMet s f (rule_number rule) (rule_message rule) (rule_place rule)
refuted s f (NotBoundOnce t) facts b met = b.not_once (met b.in_range)
refuted s f (ArcIntoSender m a) facts b met = met b.1 b.2.used.in_range b.2
refuted s f (TwoArcsInto m r) facts b met = absurd (omega (arith, b.2.two, met b.1 b.2.in_range))
refuted s f (NoWalk m a) facts b met = b.2.no_walk (met b.1 b.2.used.in_range b.2.used)
refuted s f (NotReached m w) facts b met =
    let x = met b.1 (receiver_in s m.0 w.0 facts b.1 b.2.receiver) b.2.receiver b.2.resource b.2.on in b.2.no_walk x.hops x.walk
refuted s f (Dangling m a) facts b met = b.2.no_end (met b.1 b.2.used.in_range b.2.used)
refuted s f (ResourceUse r) facts b met = b.1.differ (met b.1.in_range)
refuted s f (LinkUse l) facts b met = b.1.differ (met b.1.in_range)

-- a broken rule is the first one where the rules before it are met, and it is met earlier
first_of : (s : SpecValue) (f : Bits) (rule : Rule) → IsWellFormed s → AreMetBelow s f (rule_number rule)
    → ((m x : ℕ) → IsEarlier m x (rule_message rule) (rule_place rule) → IsMet s f (rule_number rule) m x) → DesignBreaks s f rule → IsFirstBroken s f rule
first_of s f rule facts lower earlier broken = record {
  broken = broken;
  none_before = λ other before b. elim before [
    | inl l ↦ refuted s f other facts b (lower (rule_number other) l (rule_message other) (rule_place other))
    | inr e ↦ refuted s f other facts b (subst (λ (k : ℕ). IsMet s f k (rule_message other) (rule_place other)) (sym e.0) (earlier (rule_message other) (rule_place other) e.1))
  ];
}

more : (s : SpecValue) (f : Bits) (n : ℕ) → AreMetBelow s f n → ((m x : ℕ) → IsMet s f n m x) → AreMetBelow s f (n + 1)
more s f n before here = below_more (λ (k : ℕ). (m x : ℕ) → IsMet s f k m x) n before here

-- a routing rule that is met by all messages, or up to a place
everywhere : (s : SpecValue) (f : Bits) (rule : RouteRule) → Meets s f rule → (m x : ℕ) → IsMetAt s f rule m x
everywhere s f rule meets m x in_range here = meets m in_range x here

up_to : (s : SpecValue) (f : Bits) (rule : RouteRule) (n y : ℕ) → AllPairsBelow (MeetsAt s f rule) n (places s rule) → AllBelow (MeetsAt s f rule n) y → (m x : ℕ) → IsEarlier m x n y
    → IsMetAt s f rule m x
up_to s f rule n y before here m x (inl l) in_range there = before m l x there
up_to s f rule n y before here m x (inr e) in_range there = subst (λ (q : ℕ). MeetsAt s f rule q x) (sym e.0) (here x e.1)

-- the same of a rule without a message
up_to_place : (P : ℕ → Type 0) (n y m x : ℕ) → AllBelow P y → IsEarlier m x 0 y → x < n → P x
up_to_place P n y m x here (inl l) there = absurd (omega (arith, l))
up_to_place P n y m x here (inr e) there = here x e.1

-- what is met before each rule
pub lower_1 : (s : SpecValue) (f : Bits) → AreMetBelow s f 1
lower_1 s f zero l m x = tt
lower_1 s f (suc k) l m x = absurd (omega (arith, l))

pub lower_2 : (s : SpecValue) (f : Bits) → AllBoundOnce s f → AreMetBelow s f 2
lower_2 s f bound = more s f 1 (lower_1 s f) (λ m x. bound x)

pub lower_3 : (s : SpecValue) (f : Bits) → AllBoundOnce s f → Meets s f NoArcIntoSender → AreMetBelow s f 3
lower_3 s f bound sender = more s f 2 (lower_2 s f bound) (everywhere s f NoArcIntoSender sender)

pub lower_4 : (s : SpecValue) (f : Bits) → AreMetBelow s f 3 → Meets s f OneArcInto → AreMetBelow s f 4
lower_4 s f before one = more s f 3 before (everywhere s f OneArcInto one)

pub lower_5 : (s : SpecValue) (f : Bits) → AreMetBelow s f 4 → Meets s f ShortWalk → AreMetBelow s f 5
lower_5 s f before walks = more s f 4 before (everywhere s f ShortWalk walks)

pub lower_6 : (s : SpecValue) (f : Bits) → AreMetBelow s f 5 → Meets s f Reached → AreMetBelow s f 6
lower_6 s f before reached = more s f 5 before (everywhere s f Reached reached)

pub lower_7 : (s : SpecValue) (f : Bits) → AreMetBelow s f 6 → Meets s f GoesOn → AreMetBelow s f 7
lower_7 s f before on = more s f 6 before (everywhere s f GoesOn on)

pub lower_8 : (s : SpecValue) (f : Bits) → AreMetBelow s f 7 → AllBelow (IsUsedRightly s f) (length s.resources) → AreMetBelow s f 8
lower_8 s f before used = more s f 7 before (λ m x. used x)

-- a broken rule that a search has found is the first one
pub first_unbound : (s : SpecValue) (f : Bits) (t : TaskNo) → IsWellFormed s → IsFirst (IsUnbound s f) (BoundOnce s f) (length s.tasks) (Some t.0) → IsFirstBroken s f (NotBoundOnce t)
first_unbound s f t facts found =
    first_of s f (NotBoundOnce t) facts (lower_1 s f) (λ m x. up_to_place (BoundOnce s f) (length s.tasks) t.0 m x found.2) found.1

pub first_into_sender : (s : SpecValue) (f : Bits) (m : MsgNo) (a : ArcNo) → IsWellFormed s → AllBoundOnce s f → AreMetBelow s f 2 → IsFirstAt s f NoArcIntoSender m.0 a.0
    → IsFirstBroken s f (ArcIntoSender m a)
first_into_sender s f m a facts bound lower found =
    first_of s f (ArcIntoSender m a) facts lower (up_to s f NoArcIntoSender m.0 a.0 found.3 found.4) (bound, found.0, found.2)

pub first_two_into : (s : SpecValue) (f : Bits) (m : MsgNo) (r : ResNo) → IsWellFormed s → AllBoundOnce s f → AreMetBelow s f 3 → IsFirstAt s f OneArcInto m.0 r.0 → IsFirstBroken s f (TwoArcsInto m r)
first_two_into s f m r facts bound lower found =
    first_of s f (TwoArcsInto m r) facts lower (up_to s f OneArcInto m.0 r.0 found.3 found.4) (bound, found.0, found.2)

pub first_no_walk : (s : SpecValue) (f : Bits) (m : MsgNo) (a : ArcNo) → IsWellFormed s → AllBoundOnce s f → AreMetBelow s f 4 → IsFirstAt s f ShortWalk m.0 a.0 → IsFirstBroken s f (NoWalk m a)
first_no_walk s f m a facts bound lower found =
    first_of s f (NoWalk m a) facts lower (up_to s f ShortWalk m.0 a.0 found.3 found.4) (bound, found.0, found.2)

pub first_unreached : (s : SpecValue) (f : Bits) (m : MsgNo) (w : TaskNo) → IsWellFormed s → AllBoundOnce s f → AreMetBelow s f 5 → IsFirstAt s f Reached m.0 w.0 → IsFirstBroken s f (NotReached m w)
first_unreached s f m w facts bound lower found =
    first_of s f (NotReached m w) facts lower (up_to s f Reached m.0 w.0 found.3 found.4) (bound, found.0, found.2)

pub first_dangling : (s : SpecValue) (f : Bits) (m : MsgNo) (a : ArcNo) → IsWellFormed s → AllBoundOnce s f → AreMetBelow s f 6 → IsFirstAt s f GoesOn m.0 a.0 → IsFirstBroken s f (Dangling m a)
first_dangling s f m a facts bound lower found =
    first_of s f (Dangling m a) facts lower (up_to s f GoesOn m.0 a.0 found.3 found.4) (bound, found.0, found.2)

pub first_misused : (s : SpecValue) (f : Bits) (r : ResNo) → IsWellFormed s → AllBoundOnce s f → AreMetBelow s f 7 → IsFirst (IsMisused s f) (IsUsedRightly s f) (length s.resources) (Some r.0)
    → IsFirstBroken s f (ResourceUse r)
first_misused s f r facts bound lower found =
    first_of s f (ResourceUse r) facts lower (λ m x. up_to_place (IsUsedRightly s f) (length s.resources) r.0 m x found.2) (bound, found.1)

pub first_miswired : (s : SpecValue) (f : Bits) (l : LinkNo) → IsWellFormed s → AllBoundOnce s f → AreMetBelow s f 8 → IsFirst (IsMiswired s f) (IsWiredRightly s f) (length s.links) (Some l.0)
    → IsFirstBroken s f (LinkUse l)
first_miswired s f l facts bound lower found =
    first_of s f (LinkUse l) facts lower (λ m x. up_to_place (IsWiredRightly s f) (length s.links) l.0 m x found.2) (bound, found.1)

-- a design that breaks a rule isn't valid
pub DesignBreaks-not_valid : (s : SpecValue) (f : Bits) (rule : Rule) → DesignBreaks s f rule → ¬ IsValid s f
DesignBreaks-not_valid s f (NotBoundOnce t) b v = b.not_once (v.routed.bound_once t.0 b.in_range)
DesignBreaks-not_valid s f (ArcIntoSender m a) b v = v.routed.no_arc_into_sender m.0 a.0 b.1 b.2.used b.2.into_sender
DesignBreaks-not_valid s f (TwoArcsInto m r) b v = absurd (omega (arith, b.2.two, v.routed.one_arc_into m.0 r.0 b.1 b.2.in_range))
DesignBreaks-not_valid s f (NoWalk m a) b v = b.2.no_walk (v.routed.has_walk m.0 a.0 b.1 b.2.used)
DesignBreaks-not_valid s f (NotReached m w) b v =
    let x = v.reached m.0 w.0 b.2.resource b.1 b.2.receiver b.2.on in b.2.no_walk x.0 x.1
DesignBreaks-not_valid s f (Dangling m a) b v = b.2.no_end (v.routed.no_dangling m.0 a.0 b.1 b.2.used)
DesignBreaks-not_valid s f (ResourceUse r) b v = b.1.differ (v.routed.resource_use r.0 b.1.in_range)
DesignBreaks-not_valid s f (LinkUse l) b v = b.1.differ (v.routed.link_use l.0 b.1.in_range)

pub some_not_valid : (s : SpecValue) (f : Bits) (rule : Rule) → IsFirstBroken s f rule → IsNone (Some rule) ↔ IsValid s f
some_not_valid s f rule first = (λ e. absurd (false≢true (sym e)), λ v. absurd (DesignBreaks-not_valid s f rule first.broken v))

-- a design that meets each rule is valid
pub valid_from : (s : SpecValue) (f : Bits) → IsWellFormed s → AreMetBelow s f 8 → AllBelow (IsWiredRightly s f) (length s.links) → IsValid s f
valid_from s f facts met wired = record {
  routed = record {
    bound_once = λ t l. met 1 (omega arith) 0 t l;
    no_arc_into_sender = λ m a l used on. met 2 (omega arith) m a l used.in_range (record { used = used; into_sender = on });
    one_arc_into = λ m r l k. met 3 (omega arith) m r l k;
    has_walk = λ m a l used. met 4 (omega arith) m a l used.in_range used;
    no_dangling = λ m a l used. met 6 (omega arith) m a l used.in_range used;
    resource_use = λ r l. met 7 (omega arith) 0 r l;
    link_use = λ l k. wired l k;
  };
  reached = λ m w r l there on.
      let x = met 5 (omega arith) m w l (receiver_in s m w facts l there) there r on in (x.hops, x.walk);
}
