use Rattle.std.proofs.Common.{subst, sym}
use Rattle.spec_model.specs.Spec.{Message}
use Rattle.spec_graph.specs.Lists.{numbered_message}
use Rattle.spec_graph.specs.Refusals.{IsMessageAccepted, IsMessageRefused}
use Rattle.line_words.specs.declared.refusals.Stop.{Stop}
use Rattle.arch_reader.specs.declared.statement.Statement.TheVariants as statements
use Rattle.spec_join.specs.Joining.{Joining}
use Rattle.spec_join.specs.Stops.{Refuses}
use Rattle.spec_join.proofs.Sending.{resolved, message_refused, message_accepted}
use Rattle.spec_join.proofs.joiner.Joiner.message.Goals as goal

pub returns-in-Ok-clause-accepted : goal.returns-in-Ok-clause-accepted
returns-in-Ok-clause-accepted c =
    let s = c.args.self.now in
    let m : Message = numbered_message c.in-Some.from c.deref.result.now c.self.inside.hops c.self.inside.delay 1 in
    let r = resolved _ s c.args.sender.now c.args.receivers.now c.in-Some.from c.in_ok-to.to.items c.deref.result.now c.self.view_is c.deref.ensures.value c.in-Some.ensures
    c.in_ok-to.ensures.known c.in_ok-to.ensures.numbers c.self.invariant.4 in
    message_accepted s c.args.name.now c.args.sender.now c.args.receivers.now m r (subst (λ (x : Joining). IsMessageAccepted x.plan c.args.name.now m) c.self.view_is c.in-Ok.ensures.accepted)

pub returns-clause-refused : goal.returns-clause-refused
returns-clause-refused c =
    let s = c.args.self.now in
    let m : Message = numbered_message c.in-Some.from c.deref.result.now c.self.inside.hops c.self.inside.delay 1 in
    let r = resolved _ s c.args.sender.now c.args.receivers.now c.in-Some.from c.in_ok-to.to.items c.deref.result.now c.self.view_is c.deref.ensures.value c.in-Some.ensures
    c.in_ok-to.ensures.known c.in_ok-to.ensures.numbers c.self.invariant.4 in
    let h = message_refused s c.args.name.now c.args.sender.now c.args.receivers.now m c.in-Err.fault r
    (subst (λ (x : Joining). IsMessageRefused x.plan c.args.name.now m c.in-Err.fault) c.self.view_is c.in-Err.ensures.refused) in
    subst (λ (x : Stop). Refuses s (statements.Message c.args.name.now c.args.sender.now c.args.receivers.now) x) (sym c.stop_for.ensures) h
