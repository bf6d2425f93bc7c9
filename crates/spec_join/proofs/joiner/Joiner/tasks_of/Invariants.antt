use Rattle.std.proofs.Common.{◌≡◌, ◌<◌, length, take, map, All, Contains}
use Rattle.names.specs.Names.{number_by_name}
use Rattle.spec_graph.specs.Lists.{task_number}
use Rattle.spec_join.proofs.joiner.Joiner.tasks_of.Given as goal

abbrev pub invariant-loop-name : goal.invariant-loop-name
invariant-loop-name l = record {
  numbers : map task_number l.tasks.items ≡ map (number_by_name l.self.plan.tasks) (take l.name-index l.names);
  many : length l.tasks.items ≡ l.name-index;
  there : All (λ t. t.0 < length l.self.plan.tasks) l.tasks.items;
  known : All (Contains l.self.plan.tasks) (take l.name-index l.names);
}
