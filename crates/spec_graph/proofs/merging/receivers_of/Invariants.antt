use Rattle.std.proofs.Common.{◌≡◌, [], map, take}
use Rattle.std.specs.Prelude.{fold}
use Rattle.spec_graph.specs.Lists.{message_number}
use Rattle.spec_graph.specs.Merged.{messages_at, with_receivers}
use Rattle.spec_graph.proofs.merging.receivers_of.Given as goal

abbrev pub invariant-loop-m : goal.invariant-loop-m
invariant-loop-m l = l.gathered ≡ fold with_receivers [] (take l.m-index (messages_at l.messages (map message_number l.listed)))
