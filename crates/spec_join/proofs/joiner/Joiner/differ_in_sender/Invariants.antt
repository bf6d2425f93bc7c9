use Rattle.spec_join.proofs.Senders.{IsSenderOf}
use Rattle.spec_join.proofs.joiner.Joiner.differ_in_sender.Given as goal

abbrev pub invariant-loop-name : goal.invariant-loop-name
invariant-loop-name l = IsSenderOf l.self.plan l.names l.name-index l.sender
