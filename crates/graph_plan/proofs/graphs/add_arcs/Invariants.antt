use Rattle.std.proofs.Common.{◌≡◌, ◌++◌, take, map}
use Rattle.graph_plan.specs.Graphs.{arc_in, planned_message}
use Rattle.graph_plan.proofs.graphs.add_arcs.Given as goal

abbrev pub invariant-loop-arc : goal.invariant-loop-arc
invariant-loop-arc l = l.plan ≡ record l.initial.plan {
  message_names = l.initial.plan.message_names ++ map (arc_in l.graph.index) (take l.arc-index l.arcs);
  messages = l.initial.plan.messages ++ map (planned_message l.first) (take l.arc-index l.arcs);
}
