-- Statements that are refused for a message that isn't there alone.
use Rattle.std.proofs.Common.{◌≡◌, ℕ, ℤ, Option, Some, sym, subst, Result, Ok, Err, OnOk}
use Rattle.spec_model.specs.Spec.{Name}
use Rattle.line_words.specs.declared.refusals.Why.{Why}
use Rattle.line_words.specs.declared.refusals.Stop.{Stop}
use Rattle.line_words.specs.declared.refusals.Stop.TheVariants.{Broken, NoMemory}
use Rattle.arch_reader.specs.declared.statement.Statement.TheVariants.{Quantity, Hops, Delay}
use Rattle.spec_join.specs.Joining.{Joining}
use Rattle.spec_join.specs.Refusals.{IsMissing}
use Rattle.spec_join.specs.Stops.{Refuses, IsFirst, IsAccepted, IsUnknownStop}

pub quantity_refused : (s : Joining) (message : Name) (amount : ℤ) (stop : Stop) → IsUnknownStop (IsMissing s.plan.message_names message) stop → Refuses s (Quantity message amount) stop
quantity_refused s message amount (Broken why) h = subst (λ (w : Why). IsFirst s (Quantity message amount) w) (sym h.0) (λ x. x, h.1)
quantity_refused s message amount NoMemory h = tt

pub quantity_accepted : (s : Joining) (message : Name) (amount : ℤ) → ¬ IsMissing s.plan.message_names message → IsAccepted s (Quantity message amount)
quantity_accepted s message amount h = record { good = λ x. x; known = h; once = λ x. x; free = λ x. x; room = λ what x. x }

pub hops_refused : (s : Joining) (message : Name) (limit : ℕ) (stop : Stop) → IsUnknownStop (IsMissing s.plan.message_names message) stop → Refuses s (Hops (Some message) limit) stop
hops_refused s message limit (Broken why) h = subst (λ (w : Why). IsFirst s (Hops (Some message) limit) w) (sym h.0) (λ x. x, h.1)
hops_refused s message limit NoMemory h = tt

pub hops_accepted : (s : Joining) (message : Name) (limit : ℕ) → ¬ IsMissing s.plan.message_names message → IsAccepted s (Hops (Some message) limit)
hops_accepted s message limit h = record { good = λ x. x; known = h; once = λ x. x; free = λ x. x; room = λ what x. x }

pub delay_refused : (s : Joining) (message : Name) (amount : ℤ) (stop : Stop) → IsUnknownStop (IsMissing s.plan.message_names message) stop → Refuses s (Delay (Some message) amount) stop
delay_refused s message amount (Broken why) h = subst (λ (w : Why). IsFirst s (Delay (Some message) amount) w) (sym h.0) (λ x. x, h.1)
delay_refused s message amount NoMemory h = tt

pub delay_accepted : (s : Joining) (message : Name) (amount : ℤ) → ¬ IsMissing s.plan.message_names message → IsAccepted s (Delay (Some message) amount)
delay_accepted s message amount h = record { good = λ x. x; known = h; once = λ x. x; free = λ x. x; room = λ what x. x }

pub hops_found : {X : Type 0} (r : Result X Stop) (s : Joining) (message : Option Name) (limit : ℕ) (name said : Name) → message ≡ Some name → said ≡ name
    → OnOk r (¬ IsMissing s.plan.message_names said) → OnOk r (IsAccepted s (Hops message limit))
hops_found (Err e) s message limit name said m n h = tt
hops_found (Ok x) s message limit name said m n h =
    subst (λ (o : Option Name). IsAccepted s (Hops o limit)) (sym m) (hops_accepted s name limit (subst (λ (k : Name). ¬ IsMissing s.plan.message_names k) n h))

pub delay_found : {X : Type 0} (r : Result X Stop) (s : Joining) (message : Option Name) (amount : ℤ) (name said : Name) → message ≡ Some name → said ≡ name
    → OnOk r (¬ IsMissing s.plan.message_names said) → OnOk r (IsAccepted s (Delay message amount))
delay_found (Err e) s message amount name said m n h = tt
delay_found (Ok x) s message amount name said m n h =
    subst (λ (o : Option Name). IsAccepted s (Delay o amount)) (sym m) (delay_accepted s name amount (subst (λ (k : Name). ¬ IsMissing s.plan.message_names k) n h))
