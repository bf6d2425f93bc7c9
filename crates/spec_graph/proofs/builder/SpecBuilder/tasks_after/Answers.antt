use Rattle.std.proofs.Common.{◌<◌, ◌≤◌, length, map, sym, ◌∙◌, subst, arith, inl, refl}
use Rattle.spec_model.specs.Spec.{SpecValue, Message}
use Rattle.spec_model.specs.WellFormed.{Leads}
use Rattle.task_order.specs.Order.{IsLed, is_in}
use Rattle.spec_graph.specs.Lists.{task_number, numbered_message}
use Rattle.spec_graph.specs.Refusals.{IsMessageRepeated, IsMessageRefused, IsMessageAccepted}
use Rattle.spec_graph.specs.declared.faults.BuildFault.TheVariants.{Cyclic, Limit}
use Rattle.line_words.specs.declared.refusals.What.TheVariants.{Messages}
use Rattle.spec_graph.proofs.Mapped.{never, neither}
use Rattle.spec_graph.proofs.builder.SpecBuilder.tasks_after.Goals as goal

pub returns-then-contains-clause-refused : goal.returns-then-contains-clause-refused
returns-then-contains-clause-refused c hops =
    subst (λ (s : SpecValue). IsMessageRepeated s c.args.name.now (numbered_message c.args.sender c.args.receivers.now hops c.args.delay c.args.quantity)) c.self.view_is
    (inl (c.contains.ensures.0 c.if-contains.true))

pub returns-then-has-clause-refused : goal.returns-then-has-clause-refused
returns-then-has-clause-refused c hops =
    let repeated = neither (never c.contains.result c.contains.ensures c.if-contains.false) (never c.in_ok-has_twice.field-0 c.in_ok-has_twice.ensures c.if-branch.false) in
    let small = never c.is_too_big.result c.is_too_big.ensures c.if-is_too_big.false in
    let led : IsLed c.in_ok-after.after c.self.inside.held.messages.items (map task_number c.args.receivers.now) = c.in_ok-after.ensures c.self.inside.held.messages.items c.self.invariant.order in
    let m : Message = numbered_message c.args.sender c.args.receivers.now hops c.args.delay c.args.quantity in
    subst (λ (s : SpecValue). IsMessageRefused s c.args.name.now m Cyclic) c.self.view_is (repeated, small, (led c.args.sender.0).0 (sym c.has.ensures ∙ c.if-has.true))

pub returns-then-len-ge-MOST_MESSAGES-clause-refused : goal.returns-then-len-ge-MOST_MESSAGES-clause-refused
returns-then-len-ge-MOST_MESSAGES-clause-refused c hops =
    let repeated = neither (never c.contains.result c.contains.ensures c.if-contains.false) (never c.in_ok-has_twice.field-0 c.in_ok-has_twice.ensures c.if-branch.false) in
    let small = never c.is_too_big.result c.is_too_big.ensures c.if-is_too_big.false in
    let led : IsLed c.in_ok-after.after c.self.inside.held.messages.items (map task_number c.args.receivers.now) = c.in_ok-after.ensures c.self.inside.held.messages.items c.self.invariant.order in
    let free : ¬ Leads c.self.inside.held.messages.items (map task_number c.args.receivers.now) c.args.sender.0 =
    never (is_in c.in_ok-after.after c.args.sender.0) (led c.args.sender.0) (sym c.has.ensures ∙ c.if-has.false) in
    let m : Message = numbered_message c.args.sender c.args.receivers.now hops c.args.delay c.args.quantity in
    let full : 2048 ≤ length c.self.inside.held.messages.items = omega arith in
    subst (λ (s : SpecValue). IsMessageRefused s c.args.name.now m (Limit Messages)) c.self.view_is (refl, repeated, small, free, full)

pub returns-clause-led : goal.returns-clause-led
returns-clause-led c =
    subst (λ (s : SpecValue). IsLed c.in_ok-after.after s.messages (map task_number c.args.receivers.now)) c.self.view_is
    (c.in_ok-after.ensures c.self.inside.held.messages.items c.self.invariant.order)

pub returns-clause-accepted : goal.returns-clause-accepted
returns-clause-accepted c hops =
    let repeated = neither (never c.contains.result c.contains.ensures c.if-contains.false) (never c.in_ok-has_twice.field-0 c.in_ok-has_twice.ensures c.if-branch.false) in
    let small = never c.is_too_big.result c.is_too_big.ensures c.if-is_too_big.false in
    let led : IsLed c.in_ok-after.after c.self.inside.held.messages.items (map task_number c.args.receivers.now) = c.in_ok-after.ensures c.self.inside.held.messages.items c.self.invariant.order in
    let free : ¬ Leads c.self.inside.held.messages.items (map task_number c.args.receivers.now) c.args.sender.0 =
    never (is_in c.in_ok-after.after c.args.sender.0) (led c.args.sender.0) (sym c.has.ensures ∙ c.if-has.false) in
    let m : Message = numbered_message c.args.sender c.args.receivers.now hops c.args.delay c.args.quantity in
    let room : length c.self.inside.held.messages.items < 2048 = omega arith in
    subst (λ (s : SpecValue). IsMessageAccepted s c.args.name.now m) c.self.view_is (record { once = repeated; small = small; free = free; room = room })
