-- What the builder refuses of a message is what its statement is refused for.
use Rattle.std.proofs.Common.{◌≡◌, ℕ, List, map, ap, subst, ◌∙◌, arith, All, Contains, ◌≤◌, ◌^◌, inl, inr}
use Rattle.names.specs.Names.{IsNumberOf, number_by_name}
use Rattle.spec_model.specs.Spec.{Name, Message as MessageValue}
use Rattle.spec_graph.specs.Lists.{task_number, numbered_message}
use Rattle.spec_graph.specs.declared.numbers.TaskNo.{TaskNo}
use Rattle.spec_graph.specs.Refusals.{HasBigMessage, IsMessageRepeated, IsMessageRefused, IsMessageAccepted}
use Rattle.spec_graph.specs.declared.faults.BuildFault.{BuildFault}
use Rattle.spec_graph.specs.declared.faults.BuildFault.TheVariants.{Repeated, SelfLink, Cyclic, TooBig, Limit, NoMemory}
use Rattle.line_words.specs.declared.refusals.Stop.TheVariants as stops
use Rattle.arch_reader.specs.declared.statement.Statement.TheVariants.{Message}
use Rattle.spec_join.specs.Joining.{Joining, message_between}
use Rattle.spec_join.specs.Refusals.{IsUnknown, IsRepeated}
use Rattle.spec_join.specs.Stops.{stop_for, Refuses, IsAccepted}
use Rattle.spec_join.proofs.Refusing.{there_of}
use Rattle.spec_join.proofs.Listing.{twice_of, twice_by, none_missing}

abbrev made : ℕ → List ℕ → ℕ → ℕ → MessageValue
made sender receivers hops delay = record { sender = sender; receivers = receivers; limit = hops; delay = delay; quantity = 1 }

-- what the code has found of a message before the builder tries it
pub record IsResolved (s : Joining) (sender : Name) (receivers : List Name) (m : MessageValue) : Type 0 where
  pub from : Contains s.plan.tasks sender
  pub to : All (Contains s.plan.tasks) receivers
  pub small : s.delay ≤ 2 ^ 40
  pub is : m ≡ message_between s sender receivers

pub resolved : (j s : Joining) (sender : Name) (receivers : List Name) (from : TaskNo) (items passed : List TaskNo) → j ≡ s → passed ≡ items → IsNumberOf s.plan.tasks sender from.0
    → All (Contains s.plan.tasks) receivers
    → map task_number items ≡ map (number_by_name s.plan.tasks) receivers → j.delay ≤ 2 ^ 40 → IsResolved s sender receivers (numbered_message from passed j.hops j.delay 1)
resolved j s sender receivers from items passed e p n known numbers small = record {
  from = there_of s.plan.tasks sender from.0 n;
  to = known;
  small = omega (arith, small, ap (λ (x : Joining). x.delay) e);
  is =
      ap (λ (x : Joining). made from.0 (map task_number passed) x.hops x.delay) e
      ∙ ap (λ (k : ℕ). made k (map task_number passed) s.hops s.delay) n.first
      ∙ ap (λ (xs : List ℕ). made (number_by_name s.plan.tasks sender) xs s.hops s.delay) (ap (map task_number) p ∙ numbers);
}

known_of : (s : Joining) (name sender : Name) (receivers : List Name) → Contains s.plan.tasks sender → All (Contains s.plan.tasks) receivers → IsUnknown s (Message name sender receivers) → ⊥
known_of s name sender receivers from to (inl h) = h from
known_of s name sender receivers from to (inr h) = none_missing s.plan.tasks receivers to h

repeated_of : (s : Joining) (name sender : Name) (receivers : List Name) → All (Contains s.plan.tasks) receivers → IsMessageRepeated s.plan name (message_between s sender receivers)
    → IsRepeated s (Message name sender receivers)
repeated_of s name sender receivers to (inl h) = inl h
repeated_of s name sender receivers to (inr h) = inr (twice_of s.plan.tasks receivers to h)

repeated_by : (s : Joining) (name sender : Name) (receivers : List Name) → IsRepeated s (Message name sender receivers) → IsMessageRepeated s.plan name (message_between s sender receivers)
repeated_by s name sender receivers (inl h) = inl h
repeated_by s name sender receivers (inr h) = inr (twice_by s.plan.tasks receivers h)

small_of : (s : Joining) (sender : Name) (receivers : List Name) → s.delay ≤ 2 ^ 40 → HasBigMessage (message_between s sender receivers) → ⊥
small_of s sender receivers l (inl h) = omega (arith, l, h)
small_of s sender receivers l (inr h) = omega (arith, h)

refused_at : (s : Joining) (name sender : Name) (receivers : List Name) (m : MessageValue) (fault : BuildFault) → IsResolved s sender receivers m
    → IsMessageRefused s.plan name (message_between s sender receivers) fault → Refuses s (Message name sender receivers) (stop_for fault)
refused_at s name sender receivers m Repeated r h = (λ x. x, known_of s name sender receivers r.from r.to, repeated_of s name sender receivers r.to h)
refused_at s name sender receivers m TooBig r h = absurd (small_of s sender receivers r.small h.1)
refused_at s name sender receivers m Cyclic r h = (λ x. x, known_of s name sender receivers r.from r.to, λ x. h.0 (repeated_by s name sender receivers x), h.2)
refused_at s name sender receivers m (Limit what) r h = (λ x. x, known_of s name sender receivers r.from r.to, λ x. h.1 (repeated_by s name sender receivers x), h.3, (h.0, h.4))
refused_at s name sender receivers m NoMemory r h = tt
refused_at s name sender receivers m SelfLink r h = absurd h

pub message_refused : (s : Joining) (name sender : Name) (receivers : List Name) (m : MessageValue) (fault : BuildFault) → IsResolved s sender receivers m → IsMessageRefused s.plan name m fault
    → Refuses s (Message name sender receivers) (stop_for fault)
message_refused s name sender receivers m fault r h = refused_at s name sender receivers m fault r (subst (λ (x : MessageValue). IsMessageRefused s.plan name x fault) r.is h)

pub message_accepted : (s : Joining) (name sender : Name) (receivers : List Name) (m : MessageValue) → IsResolved s sender receivers m → IsMessageAccepted s.plan name m
    → IsAccepted s (Message name sender receivers)
message_accepted s name sender receivers m r h =
    let a : IsMessageAccepted s.plan name (message_between s sender receivers) = subst (IsMessageAccepted s.plan name) r.is h in
    record {
      good = λ x. x;
      known = known_of s name sender receivers r.from r.to;
      once = λ x. a.once (repeated_by s name sender receivers x);
      free = a.free;
      room = λ what x. omega (arith, a.room, x.1);
    }
