use Rattle.std.proofs.Common.{◌≡◌, ℕ, ◌+◌, arith, ap, subst, sym, ◌∙◌, Option}
use Rattle.std.proofs.lemmas.Bool.{false≢true}
use Rattle.spec_model.specs.Spec.{message_at}
use Rattle.spec_graph.specs.declared.numbers.TaskNo.{TaskNo}
use Rattle.spec_join.specs.Joining.{Joining, sender_of}
use Rattle.spec_join.proofs.Refusing.{there_of}
use Rattle.spec_join.proofs.Senders.{IsSenderOf, sender_skips, sender_first, sender_again, all_agree}
use Rattle.spec_join.proofs.joiner.Joiner.differ_in_sender.Goals as goal
use Rattle.spec_join.proofs.joiner.Joiner.differ_in_sender.Goals.{in-Some-sender+else-first-from, in-None}

pub loop-name-preserved-in_default : goal.loop-name-preserved-in_default
loop-name-preserved-in_default c =
    sender_skips c.args.self.now.plan c.args.names.now c.loop-name.name-index c.loop-name.sender c.name-item.result c.list.result.now (omega arith) c.name-item.is c.list.ensures
    c.in_default.ensures c.loop-name.invariant

pub loop-name-preserved : goal.loop-name-preserved
loop-name-preserved c =
    let p = c.args.self.now.plan in
    let names = c.args.names.now in
    let i = c.loop-name.name-index in
    let said = c.list.result.now in
    let m = c.in-Some.message.0 in
    let from : c.sender-from.result.0 ≡ sender_of p said
    = c.sender-from.ensures.sender ∙ ap (λ (s : Joining). (message_at s.plan m).sender) c.self.view_is ∙ ap (λ (k : ℕ). (message_at p k).sender) c.in-Some.ensures.number.first in
    let old = λ (o : Option TaskNo). IsSenderOf p names i o in
    let new = λ (o : Option TaskNo). IsSenderOf p names (i + 1) o in
    elim c.match-sender.branch [
      | in-Some-sender+else-first-from w ↦
          subst new (sym w.sender-is) (sender_again p names i w.in-Some-sender.first c.sender-from.result c.name-item.result said (omega arith) c.name-item.is c.list.ensures from
          w.if-first-from.false (subst old w.in-Some-sender.is c.loop-name.invariant))
      | in-None w ↦
          subst new (sym w.sender-is) (sender_first p names i c.sender-from.result c.name-item.result said (omega arith) c.name-item.is c.list.ensures
          (there_of p.message_names said m c.in-Some.ensures.number) from (subst old w.in-None.is c.loop-name.invariant))
    ]

pub returns : goal.returns
returns c = (λ e. absurd (false≢true e), λ d. absurd (all_agree c.args.self.now.plan c.args.names.now c.loop-name.name-index c.loop-name.sender (omega arith) c.loop-name.invariant d))
