use Rattle.std.proofs.Common.{◌≡◌, ◌<◌, length, map, sym, ap, subst, arith, inl, inr, rules}
use Rattle.std.proofs.lemmas.List.{length-map}
use Rattle.std.proofs.lemmas.List.Elements.{All-map}
use Rattle.std.specs.Prelude.{Contains}
use Rattle.spec_model.specs.Spec.{SpecValue, Message}
use Rattle.spec_model.specs.WellFormed.{IsPlan}
use Rattle.task_order.specs.Order.{IsLed}
use Rattle.spec_graph.specs.Held.{held_spec}
use Rattle.spec_graph.specs.Lists.{task_number, numbered_message}
use Rattle.spec_graph.specs.Plan.{with_message}
use Rattle.spec_graph.specs.Refusals.{IsMessageAccepted}
use Rattle.spec_graph.proofs.Adding.{plan_message, order_of_added}
use Rattle.spec_graph.proofs.builder.SpecBuilder.message.Goals as goal

pub add_message-requires-clause-new : goal.add_message-requires-clause-new
add_message-requires-clause-new c = λ h. (subst (λ (s : SpecValue). ¬ Contains s.message_names c.args.name.now) (sym c.self.view_is) (λ k. (c.in_ok-after.ensures.accepted c.args.hops).once (inl k))) h

pub returns-in_err-after-clause-refused : goal.returns-in_err-after-clause-refused
returns-in_err-after-clause-refused c =
    let refused = c.in_err-after.ensures.refused c.args.hops in
    search (rules, refused)

pub returns-clause-accepted : goal.returns-clause-accepted
returns-clause-accepted c = c.in_ok-after.ensures.accepted c.args.hops

pub invariant_of-self-2 : goal.invariant_of-self-2
invariant_of-self-2 c =
    let old : SpecValue = held_spec c.self.inside.held in
    let m : Message = numbered_message c.args.sender c.args.receivers.now c.args.hops c.args.delay c.args.quantity in
    let fine : IsMessageAccepted old c.args.name.now m = subst (λ (s : SpecValue). IsMessageAccepted s c.args.name.now m) (sym c.self.view_is) (c.in_ok-after.ensures.accepted c.args.hops) in
    let led : IsLed c.in_ok-after.after old.messages (map task_number c.args.receivers.now) = subst (λ (s : SpecValue). IsLed c.in_ok-after.after s.messages (map task_number c.args.receivers.now))
    (sym c.self.view_is) c.in_ok-after.ensures.led in
    let new : held_spec c.add_message.new.self ≡ with_message old c.args.name.now m = c.in_ok-number.ensures.added in
    let tasks : length old.tasks ≡ length c.args.self.now.tasks = ap (λ (s : SpecValue). length s.tasks) c.self.view_is in
    record {
      plan = subst IsPlan (sym new) (plan_message old c.args.name.now m c.self.invariant.plan (λ h. fine.once (inl h)) (omega (arith, tasks, c.requires.sender_there))
          (All-map (λ w. w < length old.tasks) task_number c.args.receivers.now (λ k d l. omega (arith, c.requires.receivers_there k d l, tasks)))
          (omega (arith, c.requires.some_receiver, length-map c.args.receivers.now task_number)) (λ twice. fine.once (inr twice)) fine.small fine.free fine.room);
      order =
          order_of_added c.self.inside.order c.join.new.self c.in_ok-after.after old.messages (held_spec c.add_message.new.self).messages m c.self.invariant.order led c.join.ensures.joined
          (ap (λ (s : SpecValue). s.messages) new);
      room = omega (arith, c.join.ensures.kept, c.self.invariant.room, ap (λ (s : SpecValue). length s.tasks) new);
    }
