use Rattle.std.proofs.Common.{◌≡◌, map, take}
use Rattle.std.specs.Prelude.{fold}
use Rattle.spec_graph.specs.Lists.{message_number}
use Rattle.spec_graph.specs.Merged.{messages_at, lesser_limit, greater_delay, greater_quantity}
use Rattle.spec_graph.proofs.merging.limits_of.Given as goal

abbrev pub invariant-loop-m : goal.invariant-loop-m
invariant-loop-m l = record {
  hops : l.limits.hops ≡ fold lesser_limit l.initial.limits.hops (take l.m-index (messages_at l.messages (map message_number l.listed)));
  delay : l.limits.delay ≡ fold greater_delay 0 (take l.m-index (messages_at l.messages (map message_number l.listed)));
  quantity : l.limits.quantity ≡ fold greater_quantity 0 (take l.m-index (messages_at l.messages (map message_number l.listed)));
}
