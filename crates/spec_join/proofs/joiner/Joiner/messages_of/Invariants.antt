use Rattle.std.proofs.Common.{◌≡◌, ◌<◌, length, take, map, All, Contains}
use Rattle.names.specs.Names.{number_by_name}
use Rattle.spec_graph.specs.Lists.{message_number}
use Rattle.spec_join.proofs.joiner.Joiner.messages_of.Given as goal

abbrev pub invariant-loop-name : goal.invariant-loop-name
invariant-loop-name l = record {
  numbers : map message_number l.messages.items ≡ map (number_by_name l.self.plan.message_names) (take l.name-index l.names);
  many : length l.messages.items ≡ l.name-index;
  there : All (λ m. m.0 < length l.self.plan.messages) l.messages.items;
  known : All (Contains l.self.plan.message_names) (take l.name-index l.names);
}
